-- Which command lines `clap` takes, and that it refuses every other.
use Rattle.std.proofs.Common.{◌≡◌, ℕ, Bool, true, false, ◌⊎◌, inl, inr, zero, suc, List, [], ◌∷◌}
use Rattle.std.proofs.Common.{◌++◌, length, fold, append_assoc, Option, None, Some, refl, sym}
use Rattle.std.proofs.Common.{◌∙◌, ap, ap₂, subst, codes, rules}
use Rattle.std.proofs.Common.{arith, slice_get, option_map}
use Rattle.std.specs.Str.{bytes_eq, chars}
use Rattle.std.specs.Bool.{Decides}
use Rattle.std.proofs.lemmas.Bool.Decides.{same_from_decides}
use Rattle.std.proofs.lemmas.List.{append-nil}
use Rattle.std.proofs.lemmas.Slice.Eq.{bytes_eq-Decides}
use Rattle.clap.specs.Lexer.{long_of, short_of}
use Rattle.clap.specs.Walk.{Names, Row, rows_of, Rule, Text, Walk, idle, walk, walk_from, walked}
use Rattle.clap.specs.Walk.{nothing_held, bundle_met, subcommand_met}
use Rattle.clap.specs.Simple.{Shape, built, entered, names_of, subcommand_of, subcommand_rows}
use Rattle.clap.specs.declared.parser.matches.SubCommand.{SubCommand}
use Rattle.clap.specs.declared.parser.matches.ArgMatches.TheViews.{out-SubCommand}
use Rattle.std.specs.Box.{box_value}
use Rattle.std.specs.Prelude.{Box}
use Rattle.clap.specs.Kinds.{HasKind, Kinds, or_else}
use Rattle.clap.specs.Values.{kind_of}
use Rattle.clap.specs.Matches.{found_of, ReadsOne}
use Rattle.clap.specs.ValueTests.{is_unsigned_in}
use Rattle.clap.specs.declared.builder.value_parser.ValueParser.TheVariants as vp
use Rattle.clap.proofs.ValueTestLemmas.{accepts-Accepts, Accepts-accepts}
use Rattle.std.specs.Str.Parse.{ParsesUnsigned}
use Rattle.std.specs.Prelude.{option_and_then, ◌-◌, ◌^◌, Ok}
use Rattle.clap.specs.declared.error.Error.{Error}
use Rattle.clap.specs.declared.error.kind.ErrorKind.TheVariants as kind
use Rattle.clap.specs.Takes.{takes}
use Rattle.clap.specs.Faults.{fault_of, is_simple_and_free, walk_fault, turn_fault, flags_fault}
use Rattle.clap.specs.Faults.{stray_fault, entered_fault}
use Rattle.clap.proofs.OnLiterals.{clap_on_literals}
use Rattle.command_line.specs.declared.task.NoTask.{NoTask}
use Rattle.command_line.specs.declared.task.NoTask.TheVariants.{Refused}
use Rattle.std.specs.Option.{ok_or, option_or}
use Rattle.std.specs.Result.{IfOk, IfErr}
use Rattle.std.specs.Prelude.{Result, Err}
use Rattle.command_line.specs.declared.task.Task.{Task}
use Rattle.command_line.specs.CommandLine.{command_line, command_named, number_asked}
use Rattle.command_line.specs.CommandLine.{script_asked, task_asked, task_named, threads_asked}
use Rattle.command_line.specs.CommandLine.{threads_named}

-- the command line is one of those that clap's clauses speak of exactly
pub line_is_simple : is_simple_and_free command_line ≡ true
unfolding clap_on_literals
line_is_simple = refl

-- Words spelled alike are one word, either way round.
word_is : (word other : List ℕ) → bytes_eq word other ≡ true → word ≡ other
word_is word other alike = (bytes_eq-Decides word other).0 alike

bytes_eq-sym : (a b : List ℕ) → bytes_eq a b ≡ bytes_eq b a
bytes_eq-sym a b =
    same_from_decides (bytes_eq a b) (bytes_eq b a) (bytes_eq-Decides a b)
    (swapped (bytes_eq-Decides b a))
  where
    swapped : Decides (bytes_eq b a) (b ≡ a) → Decides (bytes_eq b a) (a ≡ b)
    swapped test = (λ is. sym (test.0 is), λ is. test.1 (sym is))

-- a word that names a run is the word of that run
named : (word : Text) (task : Task) → task_named word ≡ Some task
    → (word ≡ codes "pipe") ⊎ (word ≡ codes "replay")
named word task is = by_pipe (bytes_eq word (codes "pipe")) refl
  where
    by_replay : bytes_eq word (codes "pipe") ≡ false → (found : Bool)
        → bytes_eq word (codes "replay") ≡ found → (word ≡ codes "pipe") ⊎ (word ≡ codes "replay")
    by_replay not_pipe true found = inr (word_is word (codes "replay") found)
    by_replay not_pipe false found = let bad = rw (not_pipe, found) at is in absurd (cc)

    by_pipe : (found : Bool) → bytes_eq word (codes "pipe") ≡ found
        → (word ≡ codes "pipe") ⊎ (word ≡ codes "replay")
    by_pipe true found = inl (word_is word (codes "pipe") found)
    by_pipe false found = by_replay found (bytes_eq word (codes "replay")) refl

-- each command line that asks for a run is taken
pipe_is_taken : (name : Text) → takes command_line (name ∷ codes "pipe" ∷ []) ≡ true
unfolding clap_on_literals
pipe_is_taken name = refl

replay_is_taken : (name : Text) → takes command_line (name ∷ codes "replay" ∷ []) ≡ true
unfolding clap_on_literals
replay_is_taken name = refl

pipe_end_is_taken : (name : Text)
    → takes command_line (name ∷ codes "pipe" ∷ codes "--" ∷ []) ≡ true
unfolding clap_on_literals
pipe_end_is_taken name = refl

replay_end_is_taken : (name : Text)
    → takes command_line (name ∷ codes "replay" ∷ codes "--" ∷ []) ≡ true
unfolding clap_on_literals
replay_end_is_taken name = refl

-- whatever asks for the run of a script is taken
pub is_taken : (words : List Text) (task : Task) → script_asked words ≡ Some task
    → takes command_line words ≡ true
is_taken [] task asked = absurd (cc)
is_taken (name ∷ []) task asked = absurd (cc)
is_taken (name ∷ word ∷ []) task asked = by_name (named word task asked)
  where
    by_name : (word ≡ codes "pipe") ⊎ (word ≡ codes "replay")
        → takes command_line (name ∷ word ∷ []) ≡ true
    by_name (inl is) = rw is (pipe_is_taken name)
    by_name (inr is) = rw is (replay_is_taken name)
is_taken (name ∷ word ∷ end ∷ []) task asked = by_end (bytes_eq end (codes "--")) refl
  where
    by_name : end ≡ codes "--" → (word ≡ codes "pipe") ⊎ (word ≡ codes "replay")
        → takes command_line (name ∷ word ∷ end ∷ []) ≡ true
    by_name is_end (inl is) = rw (is_end, is) (pipe_end_is_taken name)
    by_name is_end (inr is) = rw (is_end, is) (replay_end_is_taken name)

    by_end : (found : Bool) → bytes_eq end (codes "--") ≡ found
        → takes command_line (name ∷ word ∷ end ∷ []) ≡ true
    by_end true found = let asks : task_named word ≡ Some task = rw found at asked in
        by_name (word_is end (codes "--") found) (named word task asks)
    by_end false found = let bad = rw found at asked in absurd (cc)
is_taken (name ∷ word ∷ end ∷ next ∷ rest) task asked = absurd (cc)

-- the first of two lists of kinds, and where that is empty the second
both_none : (first next : Kinds) → or_else first next ≡ [] → (first ≡ []) × (next ≡ [])
both_none [] next none = (refl, none)
both_none (k ∷ ks) next none = absurd (cc)

-- the command line with a command to come, and what a command takes
abbrev top : Shape
top = (built command_line).top

abbrev names : Names
names = names_of (built command_line)

-- without a command nothing is taken
no_words : fault_of command_line [] ≡ [] → ⊥
unfolding clap_on_literals
no_words none = cc

name_alone : (name : Text) → fault_of command_line (name ∷ []) ≡ [] → ⊥
unfolding clap_on_literals
name_alone name none = cc

end_alone : (name : Text) → fault_of command_line (name ∷ codes "--" ∷ []) ≡ [] → ⊥
unfolding clap_on_literals
end_alone name none = cc

-- a word that no argument takes is always a fault
some_fault : (s : Shape) → stray_fault s ≡ [] → ⊥
some_fault s none = by_leaf s.is_leaf refl
  where
    by_leaf : (is_leaf : Bool) → s.is_leaf ≡ is_leaf → ⊥
    by_leaf true is = let bad = rw is at none in absurd (cc)
    by_leaf false is = let bad = rw is at none in absurd (cc)

-- A word that names no subcommand is a fault of a command that takes no words, unless it is `--`.
-- It may look like a long option, like short ones, or like a value.
module _ (s : Shape) (subs : Names) (word : Text)
    (bare : s.rules ≡ []) (unmet : subcommand_met subs idle word ≡ None)
    (other : bytes_eq word (codes "--") ≡ false) where
  abbrev fault : Kinds
  fault = turn_fault s subs (walk_from nothing_held) word

  stray_long : (p : Text × Option Text) → long_of word ≡ Some p → fault ≡ [] → ⊥
  stray_long p is none = let bad = rw (bare, unmet, other, is) at none in absurd (cc)

  stray_value : long_of word ≡ None → short_of word ≡ None → fault ≡ [] → ⊥
  stray_value is_long is_short none =
      let bad : stray_fault s ≡ [] = rw (bare, unmet, other, is_long, is_short) at none in
      some_fault s bad

  stray_flag : (flags : Text) (k x : ℕ) → long_of word ≡ None → short_of word ≡ Some flags
      → length flags ≡ suc k → slice_get (chars flags) 0 ≡ Some x → fault ≡ [] → ⊥
  unfolding flags_fault bundle_met
  stray_flag flags k x is_long is_short some is_char none =
      let bad = rw (bare, unmet, other, is_long, is_short, some, is_char) at none in absurd (cc)

  stray_no_flag : (flags : Text) (k : ℕ) → long_of word ≡ None → short_of word ≡ Some flags
      → length flags ≡ suc k → slice_get (chars flags) 0 ≡ None → fault ≡ [] → ⊥
  unfolding flags_fault bundle_met
  stray_no_flag flags k is_long is_short some no_char none =
      let bad : stray_fault s ≡ [] =
      rw (bare, unmet, other, is_long, is_short, some, no_char) at none in some_fault s bad

  stray_no_flags : (flags : Text) → long_of word ≡ None → short_of word ≡ Some flags
      → length flags ≡ 0 → fault ≡ [] → ⊥
  unfolding flags_fault bundle_met
  stray_no_flags flags is_long is_short empty none =
      let bad : stray_fault s ≡ [] = rw (bare, unmet, other, is_long, is_short, empty) at none in
      some_fault s bad

  stray : fault ≡ [] → ⊥
  stray = by_long (long_of word) refl
    where
      by_char : (flags : Text) (k : ℕ) → long_of word ≡ None → short_of word ≡ Some flags
          → length flags ≡ suc k → (char : Option ℕ) → slice_get (chars flags) 0 ≡ char
          → fault ≡ [] → ⊥
      by_char flags k is_long is_short some (Some x) is =
          stray_flag flags k x is_long is_short some is
      by_char flags k is_long is_short some None is = stray_no_flag flags k is_long is_short some is

      by_length : (flags : Text) → long_of word ≡ None → short_of word ≡ Some flags
          → (n : ℕ) → length flags ≡ n → fault ≡ [] → ⊥
      by_length flags is_long is_short zero is = stray_no_flags flags is_long is_short is
      by_length flags is_long is_short (suc k) is =
          by_char flags k is_long is_short is (slice_get (chars flags) 0) refl

      by_short : long_of word ≡ None → (flags : Option Text) → short_of word ≡ flags
          → fault ≡ [] → ⊥
      by_short is_long None is = stray_value is_long is
      by_short is_long (Some flags) is = by_length flags is_long is (length flags) refl

      by_long : (option : Option (Text × Option Text)) → long_of word ≡ option → fault ≡ [] → ⊥
      by_long (Some p) is = stray_long p is
      by_long None is = by_short is (short_of word) refl

-- After `--` each word is a fault of such a command.
after_end : (s : Shape) (subs : Names) (word : Text) (words : List Text)
    → s.rules ≡ [] → subcommand_met subs idle (codes "--") ≡ None
    → walk_fault s subs (walk_from nothing_held) (codes "--" ∷ word ∷ words) ≡ [] → ⊥
unfolding walk_fault walked
after_end s subs word words bare unmet none =
    some_fault s (both_none (stray_fault s) _ (rw (bare, unmet) at none)).0

-- So such a command takes nothing, or `--` alone.
takes_nothing : (s : Shape) (words : List Text) → s.rules ≡ []
    → walk_fault s [] (walk_from nothing_held) words ≡ []
    → (words ≡ []) ⊎ (words ≡ codes "--" ∷ [])
unfolding walk_fault
takes_nothing s [] bare none = inl refl
takes_nothing s (word ∷ words) bare none = by_word (bytes_eq word (codes "--")) refl
  where
    first : turn_fault s [] (walk_from nothing_held) word ≡ []
    first = (both_none _ _ none).0

    by_rest : (rest : List Text) → words ≡ rest → word ≡ codes "--"
        → (word ∷ words ≡ []) ⊎ (word ∷ words ≡ codes "--" ∷ [])
    by_rest [] is is_end = inr (ap₂ (λ w ws. w ∷ ws) is_end is)
    by_rest (next ∷ rest) is is_end =
        absurd (after_end s [] next rest bare refl
        (subst (λ ws. walk_fault s [] (walk_from nothing_held) ws ≡ [])
        (ap₂ (λ w ws. w ∷ ws) is_end is) none))

    by_word : (is_end : Bool) → bytes_eq word (codes "--") ≡ is_end
        → (word ∷ words ≡ []) ⊎ (word ∷ words ≡ codes "--" ∷ [])
    by_word true is = by_rest words refl (word_is word (codes "--") is)
    by_word false is = absurd (stray s [] word bare refl is first)

-- Where a walk has met a subcommand, it holds the words after it.
walk_stops : (rules : List Rule) (subs : Names) (w : Walk) (met : Text × List Text)
    (words : List Text)
    → w.stopped ≡ Some met
    → (fold (walked rules subs) w words).stopped ≡ Some (met.0, met.1 ++ words)
unfolding walked
walk_stops rules subs w met [] is = is ∙ ap (λ l. Some (met.0, l)) (sym (append-nil met.1))
walk_stops rules subs w met (word ∷ words) is =
    let next : (walked rules subs w word).stopped ≡ Some (met.0, met.1 ++ word ∷ []) = rw is refl in
    walk_stops rules subs (walked rules subs w word) (met.0, met.1 ++ word ∷ []) words next
    ∙ ap (λ l. Some (met.0, l)) (append_assoc met.1 (word ∷ []) words)

-- so the walk stops at the word of the run
pipe_stops : (rest : List Text)
    → (walk top.rules names nothing_held (codes "pipe" ∷ rest)).stopped ≡ Some (codes "pipe", rest)
unfolding walked
pipe_stops rest =
    walk_stops top.rules names (walked top.rules names (walk_from nothing_held) (codes "pipe"))
    (codes "pipe", []) rest refl

threads_stops : (rest : List Text)
    → (walk top.rules names nothing_held (codes "threads" ∷ rest)).stopped ≡ Some
    (codes "threads", rest)
unfolding walked
threads_stops rest =
    walk_stops top.rules names (walked top.rules names (walk_from nothing_held) (codes "threads"))
    (codes "threads", []) rest refl

replay_stops : (rest : List Text)
    → (walk top.rules names nothing_held (codes "replay" ∷ rest)).stopped ≡ Some
    (codes "replay", rest)
unfolding walked
replay_stops rest =
    walk_stops top.rules names (walked top.rules names (walk_from nothing_held) (codes "replay"))
    (codes "replay", []) rest refl

-- what follows a command that is taken
after_pipe : (name : Text) (rest : List Text)
    → fault_of command_line (name ∷ codes "pipe" ∷ rest) ≡ []
    → (rest ≡ []) ⊎ (rest ≡ codes "--" ∷ [])
after_pipe name rest none =
    let below = (both_none _ _ (both_none _ _ none).1).0 in
    let level = subst (λ stop. entered_fault (built command_line) stop ≡ []) (pipe_stops rest) below
    in
    takes_nothing _ rest refl (both_none _ _ level).0

after_replay : (name : Text) (rest : List Text)
    → fault_of command_line (name ∷ codes "replay" ∷ rest) ≡ []
    → (rest ≡ []) ⊎ (rest ≡ codes "--" ∷ [])
after_replay name rest none =
    let below = (both_none _ _ (both_none _ _ none).1).0 in
    let level = subst (λ stop. entered_fault (built command_line) stop ≡ []) (replay_stops rest)
    below in
    takes_nothing _ rest refl (both_none _ _ level).0

-- the name of the command that the words name
abbrev pub name_met : List Text → Option Text
name_met words = option_map (λ p. p.0) (subcommand_of command_line words)

-- words that are taken name their command
names_pipe : (name : Text) → name_met (name ∷ codes "pipe" ∷ []) ≡ Some (codes "pipe")
unfolding clap_on_literals
names_pipe name = refl

names_pipe_end : (name : Text)
    → name_met (name ∷ codes "pipe" ∷ codes "--" ∷ []) ≡ Some (codes "pipe")
unfolding clap_on_literals
names_pipe_end name = refl

names_replay : (name : Text) → name_met (name ∷ codes "replay" ∷ []) ≡ Some (codes "replay")
unfolding clap_on_literals
names_replay name = refl

names_replay_end : (name : Text)
    → name_met (name ∷ codes "replay" ∷ codes "--" ∷ []) ≡ Some (codes "replay")
unfolding clap_on_literals
names_replay_end name = refl

-- words whose first is `threads` name that command
names_threads : (name : Text) (rest : List Text)
    → name_met (name ∷ codes "threads" ∷ rest) ≡ Some (codes "threads")
names_threads name rest =
    ap (λ stop. option_map (λ p. p.0) (entered (built command_line) stop)) (threads_stops rest)

-- and ask for the run of no script
no_script : (name : Text) (rest : List Text) → script_asked (name ∷ codes "threads" ∷ rest) ≡ None
no_script name [] = refl
no_script name (end ∷ []) = by_end (bytes_eq end (codes "--")) refl
  where
    by_end : (found : Bool) → bytes_eq end (codes "--") ≡ found
        → script_asked (name ∷ codes "threads" ∷ end ∷ []) ≡ None
    by_end true is = rw is refl
    by_end false is = rw is refl
no_script name (end ∷ next ∷ rest) = refl

-- the words are these, which name this command and ask for its run
asks_as : (words these : List Text) (command met : Text) → words ≡ these
    → name_met these ≡ Some command
    → script_asked these ≡ task_named command → name_met words ≡ Some met
    → script_asked words ≡ task_named met
asks_as words these command met are names_command asks is =
    let same : Some command ≡ Some met = sym names_command ∙ (ap name_met (sym are) ∙ is) in
    let is_met : command ≡ met = cc in
    ap script_asked are ∙ (asks ∙ ap task_named is_met)

-- Words without a fault ask for the run of the script whose command they name.
asks_for_script : (words : List Text) (met : Text) → fault_of command_line words ≡ []
    → name_met words ≡ Some met
    → script_asked words ≡ task_named met
unfolding walk_fault
asks_for_script [] met none is = absurd (no_words none)
asks_for_script (name ∷ []) met none is = absurd (name_alone name none)
asks_for_script (name ∷ word ∷ rest) met none is = by_pipe (bytes_eq word (codes "pipe")) refl
  where
    in_place : (command : Text) → word ≡ command
        → fault_of command_line (name ∷ command ∷ rest) ≡ []
    in_place command same = subst (λ w. fault_of command_line (name ∷ w ∷ rest) ≡ []) same none

    words_are : (command : Text) (end : List Text) → word ≡ command → rest ≡ end
        → name ∷ word ∷ rest ≡ name ∷ command ∷ end
    words_are command end same ends = ap₂ (λ w ws. name ∷ w ∷ ws) same ends

    as_pipe : word ≡ codes "pipe" → (rest ≡ []) ⊎ (rest ≡ codes "--" ∷ [])
        → script_asked (name ∷ word ∷ rest) ≡ task_named met
    as_pipe same (inl ends) =
        asks_as _ _ (codes "pipe") met (words_are (codes "pipe") [] same ends) (names_pipe name)
        refl is
    as_pipe same (inr ends) =
        asks_as _ _ (codes "pipe") met (words_are (codes "pipe") (codes "--" ∷ []) same ends)
        (names_pipe_end name) refl is

    as_replay : word ≡ codes "replay" → (rest ≡ []) ⊎ (rest ≡ codes "--" ∷ [])
        → script_asked (name ∷ word ∷ rest) ≡ task_named met
    as_replay same (inl ends) =
        asks_as _ _ (codes "replay") met (words_are (codes "replay") [] same ends)
        (names_replay name) refl is
    as_replay same (inr ends) =
        asks_as _ _ (codes "replay") met (words_are (codes "replay") (codes "--" ∷ []) same ends)
        (names_replay_end name) refl is

    as_threads : word ≡ codes "threads" → script_asked (name ∷ word ∷ rest) ≡ task_named met
    as_threads same =
        asks_as _ _ (codes "threads") met (words_are (codes "threads") rest same refl)
        (names_threads name rest) (no_script name rest) is

    -- the word names no command
    unmet : bytes_eq word (codes "pipe") ≡ false → bytes_eq word (codes "replay") ≡ false
        → bytes_eq word (codes "threads") ≡ false → subcommand_met names idle word ≡ None
    unmet not_pipe not_replay not_threads =
        rw (
          bytes_eq-sym (codes "pipe") word ∙ not_pipe,
          bytes_eq-sym (codes "replay") word ∙ not_replay,
          bytes_eq-sym (codes "threads") word ∙ not_threads,
        ) refl

    ends_alone : word ≡ codes "--" → (ws : List Text) → rest ≡ ws → ⊥
    ends_alone same [] ends =
        end_alone name
        (subst (λ words. fault_of command_line words ≡ []) (words_are (codes "--") [] same ends)
        none)
    ends_alone same (next ∷ more) ends =
        after_end top names next more refl refl
        (both_none _ _
        (subst (λ words. fault_of command_line words ≡ [])
        (words_are (codes "--") (next ∷ more) same ends) none)).0

    by_end : bytes_eq word (codes "pipe") ≡ false → bytes_eq word (codes "replay") ≡ false
        → bytes_eq word (codes "threads") ≡ false → (found : Bool)
        → bytes_eq word (codes "--") ≡ found → ⊥
    by_end not_pipe not_replay not_threads true found =
        ends_alone (word_is word (codes "--") found) rest refl
    by_end not_pipe not_replay not_threads false found =
        stray top names word refl (unmet not_pipe not_replay not_threads) found
        (both_none _ _ (both_none _ _ none).0).0

    by_threads : bytes_eq word (codes "pipe") ≡ false → bytes_eq word (codes "replay") ≡ false
        → (found : Bool) → bytes_eq word (codes "threads") ≡ found
        → script_asked (name ∷ word ∷ rest) ≡ task_named met
    by_threads not_pipe not_replay true found = as_threads (word_is word (codes "threads") found)
    by_threads not_pipe not_replay false found =
        absurd (by_end not_pipe not_replay found (bytes_eq word (codes "--")) refl)

    by_replay : bytes_eq word (codes "pipe") ≡ false → (found : Bool)
        → bytes_eq word (codes "replay") ≡ found
        → script_asked (name ∷ word ∷ rest) ≡ task_named met
    by_replay not_pipe true found =
        let same = word_is word (codes "replay") found in
        as_replay same (after_replay name rest (in_place _ same))
    by_replay not_pipe false found =
        by_threads not_pipe found (bytes_eq word (codes "threads")) refl

    by_pipe : (found : Bool) → bytes_eq word (codes "pipe") ≡ found
        → script_asked (name ∷ word ∷ rest) ≡ task_named met
    by_pipe true found =
        let same = word_is word (codes "pipe") found in
        as_pipe same (after_pipe name rest (in_place _ same))
    by_pipe false found = by_replay found (bytes_eq word (codes "replay")) refl

-- Words without a fault ask for the run of the command that they name, with what they give for its
-- options.
pub asks_for : (words : List Text) (met : Text) (rows : List Row) → fault_of command_line words ≡ []
    → subcommand_of command_line words ≡ Some (met, rows)
    → task_asked words ≡ command_named met rows
asks_for words met rows none is =
    let script : script_asked words ≡ task_named met =
    asks_for_script words met none (ap (option_map (λ p. p.0)) is) in
    let threads : threads_asked words ≡ threads_named met rows = rw (none, is) refl in
    ap₂ option_or script threads

-- What is not taken, and has a fault, asks for no run.
pub not_taken : (words : List Text) → (takes command_line words ≡ true → ⊥)
    → (fault_of command_line words ≡ [] → ⊥) → task_asked words ≡ None
not_taken words refused faulty = ap₂ option_or no_script_is no_threads
  where
    by_asked : (asked : Option Task) → script_asked words ≡ asked → script_asked words ≡ None
    by_asked None is = is
    by_asked (Some task) is = absurd (refused (is_taken words task is))

    no_script_is : script_asked words ≡ None
    no_script_is = by_asked (script_asked words) refl

    by_fault : (kinds : Kinds) → fault_of command_line words ≡ kinds → threads_asked words ≡ None
    by_fault [] is = absurd (faulty is)
    by_fault (kind ∷ kinds) is = rw is refl

    no_threads : threads_asked words ≡ None
    no_threads = by_fault (fault_of command_line words) refl

-- where words have no fault, an error says that memory ran out
pub only_memory : (kinds : Kinds) (error : Error) → HasKind kinds error → kinds ≡ []
    → kind_of error ≡ kind.OutOfMemory
only_memory [] error (inl memory) none = memory
only_memory [] error (inr among) none = absurd among
only_memory (k ∷ ks) error has none = absurd (cc)

-- the subcommand that was entered, by its name and its rows
module _ {Z : Type 0} where
  -- the name and the rows are those that were found
  pub met_of_parts : (found : Option (Box SubCommand Z)) (name : Text) (rows : List Row)
      → option_map (λ b. (out-SubCommand (box_value b)).name.now) found ≡ Some name
      → option_map (λ p. p.1) (subcommand_rows found) ≡ Some rows
      → subcommand_rows found ≡ Some (name, rows)
  met_of_parts None name rows is_name is_rows = absurd (cc)
  met_of_parts (Some b) name rows is_name is_rows =
      let named : (out-SubCommand (box_value b)).name.now ≡ name = cc in
      let given : rows_of (found_of (out-SubCommand (box_value b)).matches) ≡ rows = cc in
      ap₂ (λ n r. Some (n, r)) named given

-- the greatest number that an option may spell
abbrev top_number : ℕ
top_number = 2 ^ 64 - 1

-- a text that was read as a number is one
module _ (E : Type 0) (gives : Text → Result ℕ E → Type 0)
    (parses : (text : Text) (r : Result ℕ E) → gives text r → ParsesUnsigned 64 10 text r) where
  number_read : (text : Text) (r : Option ℕ) → ReadsOne {T = ℕ} {E = E} gives text r
      → r ≡ number_asked text
  number_read text (Some v) given =
      let numeral = parses text (Ok v) given in
      let passes : is_unsigned_in 0 top_number text ≡ true =
      Accepts-accepts false (vp.Unsigned 0 top_number) text
      (numeral.0.0, numeral.0.1, omega arith, omega (arith, numeral.0.1)) in
      rw passes (ap Some numeral.1)
  number_read text None given = by_test (is_unsigned_in 0 top_number text) refl
    where
      by_test : (passes : Bool) → is_unsigned_in 0 top_number text ≡ passes
          → None ≡ number_asked text
      by_test true is =
          let accepted = accepts-Accepts false (vp.Unsigned 0 top_number) text is in
          absurd (parses text (Err given.0) given.1 (accepted.0, accepted.1))
      by_test false is = rw is refl

  -- so what an option was given is read as the definition says
  pub option_read : (given : Option Text) (r : Option ℕ)
      → (given ≡ None → r ≡ None)
      → ((text : Text) → given ≡ Some text → ReadsOne {T = ℕ} {E = E} gives text r)
      → r ≡ option_and_then number_asked given
  option_read None r none read = none refl
  option_read (Some text) r none read = number_read text r (read text refl)

-- a run that was found is asked for, and where none was none is
pub found_is : (asked found : Option Task) (r : Result Task NoTask) → asked ≡ found
    → r ≡ ok_or found Refused
    → IfOk r (λ task. asked ≡ Some task)
found_is asked (Some task) r same is = rw is same
found_is asked None r same is = rw is tt

-- and where no run was found none is asked for
pub none_found : (asked found : Option Task) (r : Result Task NoTask) → asked ≡ found
    → r ≡ ok_or found Refused
    → IfErr r (λ no_task. no_task ≡ Refused → asked ≡ None)
none_found asked (Some task) r same is = rw is tt
none_found asked None r same is = rw is (λ refused. same)
