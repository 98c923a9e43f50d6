-- Notes to a group: they are posted while the list of processes is walked, which is one that rises.
use Rattle.std.proofs.Common.{◌≡◌, ◌≤◌, ℕ, Bool, true, false, List, [], ◌∷◌, ◌++◌}
use Rattle.std.proofs.Common.{codes}
use Rattle.std.proofs.Common.{Option, None, Some, Bor, refl, ap, sym, ◌∙◌, append_assoc, arith}
use Rattle.std.specs.Option.{is_some}
use Rattle.std.proofs.lemmas.List.{append-nil}
use Rattle.std.proofs.lemmas.Bool.Decides.{nat_tests}
use Rattle.std.proofs.lemmas.Slice.Eq.{bytes_eq-Decides}
use Rattle.sync_base.specs.declared.note.NoteSet.{NoteSet}
use Rattle.sleep_core.specs.declared.event.Event.{Event}
use Rattle.sleep_core.specs.declared.event.Event.TheVariants as event
use Rattle.sleep_core.specs.State.{State}
use Rattle.sleep_core.specs.Step.{answer_to, world_after}
use Rattle.sleep_core.specs.Runs.{world_after_all}
use Rattle.scripts.specs.declared.group_line.GroupNote.{GroupNote}
use Rattle.scripts.specs.declared.group_line.PidList.{PidList}
use Rattle.scripts.specs.declared.lines.TheConstants.{COMMA, LINE_FEED, SPACE}
use Rattle.scripts.specs.Lines.{is_comma, is_word, number_of, parts_of_rest, parts_of, words_of}
use Rattle.scripts.specs.Lines.{FirstIsNoNumber, FirstNumber, NoLineAsks}
use Rattle.scripts.specs.EventText.{event_text}
use Rattle.scripts.specs.Script.{growth}
use Rattle.scripts.specs.ScriptLaws.{lines_text}
use Rattle.scripts.specs.Schedule.{answer_lines, answered, event_of, events_of, group_of, is_above}
use Rattle.scripts.specs.Schedule.{joined_lines, kinds_of, notes_to, pids_of, rising_after}
use Rattle.scripts.specs.Schedule.{schedule_language}
use Rattle.scripts.specs.GroupNote.{AskGroup, AskPids, PostsEach, listed}
use Rattle.scripts.proofs.OnePassLemmas.{IsWord, none_of_words}
use Rattle.scripts.proofs.PartLemmas.{TailHas, parted}

-- So many of the notes were posted: they and those to the processes in these words are all.
pub record Posting (notes : NoteSet) (pids : List ℕ) (world now : State) (old new : List ℕ)
    (words : List (List ℕ)) : Type 0 where
  -- the process that was posted to last, if any was
  pub before : Option ℕ
  -- the processes that are still to be posted to
  pub left : List ℕ
  -- the words to come are those processes, and rise after it
  pub written : rising_after before words ≡ Some left
  -- the notes to them lead to the same world as all notes do from the first
  pub after : world_after_all now (notes_to notes left)
      ≡ world_after_all world (notes_to notes pids)
  -- what is written, with their answers to come, is all that is owed
  pub text : new ++ lines_text (answer_lines now (notes_to notes left))
      ≡ old ++ lines_text (answer_lines world (notes_to notes pids))

-- once the first note was posted the others are to come
pub posting_begins : (notes : NoteSet) (list : PidList) (pids : List ℕ) (world next : State)
    (old longer : List ℕ) → listed list ≡ Some pids
    → next ≡ world_after world (event.Note (record { 0 = list.first }) notes)
    → longer ≡ old ++ event_text (answer_to world (event.Note (record { 0 = list.first }) notes))
    ++ LINE_FEED ∷ []
    → Posting notes pids world next old longer (parts_of_rest is_comma list.others)
posting_begins notes list pids world next old longer is stepped written =
    by_others (rising_after (Some list.first) (parts_of_rest is_comma list.others)) refl
  where
    by_others : (more : Option (List ℕ))
        → rising_after (Some list.first) (parts_of_rest is_comma list.others) ≡ more
        → Posting notes pids world next old longer (parts_of_rest is_comma list.others)
    by_others None none = let bad = rw none at is in absurd (cc)
    by_others (Some more) some =
        let all : Some (list.first ∷ more) ≡ Some pids = rw some at is in
        let named : pids ≡ list.first ∷ more = cc in
        let note = event.Note (record { 0 = list.first }) notes in
        let told = event_text (answer_to world note) in
        let rest = lines_text (answer_lines (world_after world note) (notes_to notes more)) in
        record {
          before = Some list.first;
          left = more;
          written = some;
          after = rw (stepped, named) refl;
          text = rw (stepped, written, named)
              (append_assoc (old ++ told) (LINE_FEED ∷ []) rest
              ∙ append_assoc old told (LINE_FEED ∷ rest));
        }

-- each word to come is a number
pub posting_reads : (notes : NoteSet) (pids : List ℕ) (world now : State) (old new word : List ℕ)
    (words : List (List ℕ)) → Posting notes pids world now old new (word ∷ words)
    → number_of word ≡ None → ⊥
posting_reads notes pids world now old new word words so_far none =
    let bad = rw none at so_far.written in
    cc

-- one note more
pub posting_goes : (notes : NoteSet) (pids : List ℕ) (world now : State) (old new word : List ℕ)
    (words : List (List ℕ)) (n : ℕ) (next : State) (longer : List ℕ)
    → Posting notes pids world now old new (word ∷ words) → number_of word ≡ Some n
    → next ≡ world_after now (event.Note (record { 0 = n }) notes)
    → longer ≡ new ++ event_text (answer_to now (event.Note (record { 0 = n }) notes))
    ++ LINE_FEED ∷ []
    → Posting notes pids world next old longer words
posting_goes notes pids world now old new word words n next longer so_far is stepped written =
    by_order (is_above so_far.before n) refl (rising_after (Some n) words) refl
  where
    by_order : (v : Bool) → is_above so_far.before n ≡ v → (more : Option (List ℕ))
        → rising_after (Some n) words ≡ more
        → Posting notes pids world next old longer words
    by_order false low more some = let bad = rw (is, low) at so_far.written in absurd (cc)
    by_order true high None none = let bad = rw (is, high, none) at so_far.written in absurd (cc)
    by_order true high (Some more) some =
        let all : Some (n ∷ more) ≡ Some so_far.left = rw (is, high, some) at so_far.written in
        let left : so_far.left ≡ n ∷ more = cc in
        let told = event_text (answer_to now (event.Note (record { 0 = n }) notes)) in
        let rest = lines_text
        (answer_lines (world_after now (event.Note (record { 0 = n }) notes))
        (notes_to notes more)) in
        record {
          before = Some n;
          left = more;
          written = some;
          after = rw stepped (rw left at so_far.after);
          text = rw (stepped, written)
              (append_assoc (new ++ told) (LINE_FEED ∷ []) rest
              ∙ (append_assoc new told (LINE_FEED ∷ rest) ∙ rw left at so_far.text));
        }

-- after the last word all are posted
pub posting_ends : (notes : NoteSet) (pids : List ℕ) (world now : State) (old new : List ℕ)
    → Posting notes pids world now old new []
    → PostsEach notes pids world now (growth old new)
posting_ends notes pids world now old new so_far =
    let left : so_far.left ≡ [] = cc in
    record {
      after = rw left at so_far.after;
      text = sym (append-nil new) ∙ rw left at so_far.text;
    }

-- a list has a process in it
some_listed : (list : PidList) → listed list ≡ Some [] → ⊥
some_listed list is =
    by_others (rising_after (Some list.first) (parts_of_rest is_comma list.others)) refl
  where
    by_others : (more : Option (List ℕ))
        → rising_after (Some list.first) (parts_of_rest is_comma list.others) ≡ more → ⊥
    by_others None none = let bad = rw none at is in cc
    by_others (Some more) some = let bad = rw some at is in cc

-- lines, each with its line feed, are these lines joined, and one line feed more
joined_all : (line : List ℕ) (lines : List (List ℕ))
    → lines_text (line ∷ lines) ≡ joined_lines (line ∷ lines) ++ LINE_FEED ∷ []
joined_all line [] = refl
joined_all line (next ∷ lines) =
    ap (λ (t : List ℕ). line ++ LINE_FEED ∷ t) (joined_all next lines)
    ∙ sym (append_assoc line (LINE_FEED ∷ joined_lines (next ∷ lines)) (LINE_FEED ∷ []))

-- what is written for a group, as the language says it
pub group_written : (notes : NoteSet) (list : PidList) (pids : List ℕ) (world now : State)
    (old new : List ℕ) → PostsEach notes pids world now (growth old new) → listed list ≡ Some pids
    → new ≡ old ++ joined_lines (answer_lines world (notes_to notes pids)) ++ LINE_FEED ∷ []
group_written notes list [] world now old new posts is = absurd (some_listed list is)
group_written notes list (pid ∷ pids) world now old new posts is =
    let note = event.Note (record { 0 = pid }) notes in
    let first = event_text (answer_to world note) in
    let lines = answer_lines (world_after world note) (notes_to notes pids) in
    posts.text
    ∙ (ap (λ (t : List ℕ). old ++ t) (joined_all first lines)
    ∙ sym (append_assoc old (joined_lines (first ∷ lines)) (LINE_FEED ∷ [])))

-- the word of a group begins no event
no_event : (verb : List ℕ) (words : List (List ℕ)) → verb ≡ codes "notepg"
    → event_of (verb ∷ words) ≡ None
no_event verb words is = rw is refl

-- a line that asks for a group asks for no event
pub group_is_no_event : (words : List (List ℕ)) (events : List Event)
    → group_of words ≡ Some events → event_of words ≡ None
group_is_no_event [] events is = refl
group_is_no_event (verb ∷ words) events is = by_verb (is_word verb (codes "notepg")) refl words is
  where
    by_verb : (v : Bool) → is_word verb (codes "notepg") ≡ v → (ws : List (List ℕ))
        → group_of (verb ∷ ws) ≡ Some events → event_of (verb ∷ ws) ≡ None
    by_verb true here ws is = no_event verb ws ((bytes_eq-Decides verb (codes "notepg")).0 here)
    by_verb false other [] is = absurd (cc)
    by_verb false other (pids ∷ []) is = absurd (cc)
    by_verb false other (pids ∷ kinds ∷ []) is = let bad = rw other at is in absurd (cc)
    by_verb false other (pids ∷ kinds ∷ more ∷ ws) is = absurd (cc)

-- a line whose words ask for a group is answered as its notes
pub group_answered : (s : State) (line : List ℕ) (words : List (List ℕ)) (events : List Event)
    → words_of line ≡ words → group_of words ≡ Some events
    → schedule_language.answer_to s line ≡ Some (answered s events)
group_answered s line words events is ask = rw (is, group_is_no_event words events ask, ask) refl

-- a word whose first part is a number, with others after it that rise above it, is a list
pub list_rises : (first : ℕ) (others : Option (Bor (List ℕ))) (word part : List ℕ)
    → parts_of is_comma word ≡ part ∷ parts_of_rest is_comma others → number_of part ≡ Some first
    → is_some (rising_after (Some first) (parts_of_rest is_comma others)) ≡ true
    → AskPids word (record { first = first; others = others })
list_rises first others word part parts is rise =
    by_others (rising_after (Some first) (parts_of_rest is_comma others)) refl
  where
    by_others : (more : Option (List ℕ))
        → rising_after (Some first) (parts_of_rest is_comma others) ≡ more
        → AskPids word (record { first = first; others = others })
    by_others None none = let bad = rw none at rise in absurd (cc)
    by_others (Some more) some =
        record { named = first ∷ more; rise = rw (parts, is, some) refl; same = rw some refl }

-- nor is a word whose first part is no number
pub list_begins_with_none : (words : List (List ℕ)) (word part : List ℕ)
    → parts_of is_comma word ≡ part ∷ words → number_of part ≡ None → pids_of word ≡ None
list_begins_with_none words word part parts none = rw (parts, none) refl

-- a list and kinds after the word of a group ask for it
pub group_asked : (words : List (List ℕ)) (pids kinds : List ℕ) (group : GroupNote)
    → words ≡ pids ∷ kinds ∷ [] → AskPids pids group.pids → kinds_of kinds ≡ Some group.notes
    → AskGroup (codes "notepg" ∷ words) group
group_asked words pids kinds group are asked is =
    record { pids = asked.named; written = asked.same; ask = rw (are, asked.rise, is) refl }

-- the word of a group is one word
pub group_is_word : IsWord (codes "notepg")
group_is_word = record { no_space = refl; no_line_feed = refl }

-- numbers do not rise where the first part is none
pub none_after : (before : ℕ) (list : List ℕ) → FirstIsNoNumber list
    → is_some (rising_after (Some before) (parts_of is_comma list)) ≡ false
none_after before list never =
    let first = parted COMMA list in
    let none = never first.word first.others first.parts in
    rw (first.parts, none) refl

-- or is not above the one before it
pub falls_after : (before : ℕ) (list : List ℕ) (n : ℕ) (rest : Option (Bor (List ℕ)))
    → FirstNumber list n rest → n ≤ before
    → is_some (rising_after (Some before) (parts_of is_comma list)) ≡ false
falls_after before list n rest first low =
    let not_above : is_above (Some before) n ≡ false = grind (arith, nat_tests) in
    rw (first.parts, first.spells, not_above) refl

-- words that begin with another are no group
other_word : (word : List ℕ) (others : List (List ℕ)) → is_word word (codes "notepg") ≡ false
    → group_of (word ∷ others) ≡ None
other_word word [] other = refl
other_word word (pids ∷ []) other = refl
other_word word (pids ∷ kinds ∷ []) other = rw other refl
other_word word (pids ∷ kinds ∷ next ∷ others) other = refl

-- a text asks for a group only where it begins with its word and a space
pub no_word_asks_none : (text : List ℕ)
    → ((rest : List ℕ) → ¬ (text ≡ codes "notepg" ++ SPACE ∷ rest)) → NoLineAsks group_of text
no_word_asks_none text never words rest begins fits =
    let first = parted SPACE begins.line in
    ap group_of (sym (sym first.parts ∙ begins.words_are))
    ∙ by_word first.word first.tail first.others first.beyond
    (begins.split ∙ ap (λ (l : List ℕ). l ++ LINE_FEED ∷ rest) first.split)
    (is_word first.word (codes "notepg")) refl
  where
    by_tail : (word tail : List ℕ) (others : List (List ℕ)) → TailHas SPACE tail others
        → text ≡ (word ++ tail) ++ LINE_FEED ∷ rest → word ≡ codes "notepg"
        → group_of (word ∷ others) ≡ None
    by_tail word [] [] beyond split is = refl
    by_tail word [] (next ∷ others) beyond split is = absurd beyond
    by_tail word (b ∷ tail) others beyond split is =
        absurd (never (tail ++ LINE_FEED ∷ rest)
        (split ∙ (append_assoc word (b ∷ tail) (LINE_FEED ∷ rest)
        ∙ (ap (λ b. word ++ b ∷ (tail ++ LINE_FEED ∷ rest)) beyond.0
        ∙ ap (λ (w : List ℕ). w ++ SPACE ∷ (tail ++ LINE_FEED ∷ rest)) is))))

    by_word : (word tail : List ℕ) (others : List (List ℕ)) → TailHas SPACE tail others
        → text ≡ (word ++ tail) ++ LINE_FEED ∷ rest → (v : Bool)
        → is_word word (codes "notepg") ≡ v → group_of (word ∷ others) ≡ None
    by_word word tail others beyond split true is =
        by_tail word tail others beyond split ((bytes_eq-Decides word (codes "notepg")).0 is)
    by_word word tail others beyond split false other = other_word word others other

-- a list that is none asks for no group
pub no_pids : (pids kinds : List ℕ) → pids_of pids ≡ None
    → group_of (codes "notepg" ∷ pids ∷ words_of kinds) ≡ None
no_pids pids kinds none =
    none_of_words (λ words. group_of (codes "notepg" ∷ pids ∷ words)) kinds (rw none refl)
    (λ word next words. refl)

-- and so do kinds that are none
pub no_kinds : (pids kinds : List ℕ) → kinds_of kinds ≡ None
    → group_of (codes "notepg" ∷ pids ∷ words_of kinds) ≡ None
no_kinds pids kinds none =
    none_of_words (λ words. group_of (codes "notepg" ∷ pids ∷ words)) kinds
    (by_pids (pids_of pids) refl) (λ word next words. refl)
  where
    by_pids : (p : Option (List ℕ)) → pids_of pids ≡ p
        → group_of (codes "notepg" ∷ pids ∷ kinds ∷ []) ≡ None
    by_pids None is = rw is refl
    by_pids (Some some) is = rw (is, none) refl

-- a text that asks for neither an event nor a group asks for no events
pub no_events_asked : (text : List ℕ) → NoLineAsks event_of text → NoLineAsks group_of text
    → NoLineAsks events_of text
no_events_asked text no_event no_group words rest begins fits =
    rw (no_event words rest begins fits, no_group words rest begins fits) refl

-- and a line that asks for none is not answered
pub none_answered : (s : State) (line : List ℕ) → events_of (words_of line) ≡ None
    → schedule_language.answer_to s line ≡ None
none_answered s line none = rw none refl
