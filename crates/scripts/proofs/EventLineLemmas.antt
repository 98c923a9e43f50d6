-- What the lines of a schedule ask for, word by word.
use Rattle.std.proofs.Common.{◌≡◌, ℕ, ◌<◌, List, [], ◌∷◌, ◌++◌, length, ◌+◌, codes, option_and_then}
use Rattle.std.proofs.Common.{ap, sym, ◌∙◌, append_assoc, Option, None, Some, Bor, refl}
use Rattle.std.proofs.Common.{arith}
use Rattle.scripts.specs.Lines.{is_space, words_of, number_of, BeginsWithNoNumber}
use Rattle.scripts.specs.Lines.{LineAsks, NoLineAsks}
use Rattle.sleep_core.specs.declared.event.Event.{Event}
use Rattle.scripts.specs.declared.event_line.Verb.{Verb}
use Rattle.scripts.specs.declared.event_line.Verb.TheVariants as verb
use Rattle.scripts.specs.declared.lines.TheConstants.{LINE_FEED, SPACE}
use Rattle.scripts.specs.Schedule.{verb_of, verb_word, event_of, event_with, size_of, kinds_of}
use Rattle.scripts.specs.Schedule.{TakesPid, operands_of, note_of}
use Rattle.scripts.proofs.LineLemmas.{parts_of-some}
use Rattle.scripts.proofs.OnePassLemmas.{IsWord, asks_after_word, none_asked_after}
use Rattle.scripts.proofs.OnePassLemmas.{none_before_line_feed, read_as}
use Rattle.scripts.proofs.PartLemmas.{TailHas, parted}

-- the sizes of a world and a word more are none
size_of-more : (verb procs rendez : List ℕ) (words : List (List ℕ)) → 0 < length words
    → size_of (verb ∷ procs ∷ rendez ∷ words) ≡ None
size_of-more verb procs rendez [] some = absurd (omega arith)
size_of-more verb procs rendez (word ∷ words) some = refl

-- a verb and two numbers with a word after them are no size of a world
pub size_of-long : (verb procs rendez rest : List ℕ)
    → size_of (verb ∷ procs ∷ rendez ∷ words_of rest) ≡ None
size_of-long verb procs rendez rest =
    size_of-more verb procs rendez (words_of rest) (parts_of-some is_space rest)

-- how much is left of a text: a text that is there counts one more
abbrev pub left_after : Option (Bor (List ℕ)) → ℕ
left_after None = 0
left_after (Some rest) = length rest.now + 1

-- the word of a verb is read as that verb
verb_is_read : (v : Verb) → verb_of (verb_word v) ≡ Some v
verb_is_read verb.Post = refl
verb_is_read verb.Test = refl
verb_is_read verb.Look = refl
verb_is_read verb.Withdraw = refl
verb_is_read verb.Clear = refl
verb_is_read verb.Raise = refl
verb_is_read verb.Take = refl
verb_is_read verb.Mark = refl
verb_is_read verb.Note = refl
verb_is_read verb.Drain = refl
verb_is_read verb.Check = refl

-- and is one word
verb_is_word : (v : Verb) → IsWord (verb_word v)
verb_is_word verb.Post = record { no_space = refl; no_line_feed = refl }
verb_is_word verb.Test = record { no_space = refl; no_line_feed = refl }
verb_is_word verb.Look = record { no_space = refl; no_line_feed = refl }
verb_is_word verb.Withdraw = record { no_space = refl; no_line_feed = refl }
verb_is_word verb.Clear = record { no_space = refl; no_line_feed = refl }
verb_is_word verb.Raise = record { no_space = refl; no_line_feed = refl }
verb_is_word verb.Take = record { no_space = refl; no_line_feed = refl }
verb_is_word verb.Mark = record { no_space = refl; no_line_feed = refl }
verb_is_word verb.Note = record { no_space = refl; no_line_feed = refl }
verb_is_word verb.Drain = record { no_space = refl; no_line_feed = refl }
verb_is_word verb.Check = record { no_space = refl; no_line_feed = refl }

-- a verb before the words that it asks for
pub event_asks : {A : Type 0} (inner : List (List ℕ) → Option A) (text : List ℕ) (v : Verb)
    (mid rest : List ℕ) (a : A) (event : Event) → text ≡ verb_word v ++ SPACE ∷ mid
    → ((words : List (List ℕ)) → inner words ≡ Some a → event_with v words ≡ Some event)
    → LineAsks inner mid a rest → LineAsks event_of text event rest
event_asks inner text v mid rest a event split each =
    asks_after_word inner event_of text (verb_word v) mid rest a event split (verb_is_word v)
    (λ words asks. ap (λ (o : Option Verb). option_and_then (λ v. event_with v words) o)
    (verb_is_read v) ∙ each words asks)

-- where those ask for nothing the line is no event
pub event_asks_none : {A : Type 0} (inner : List (List ℕ) → Option A) (text : List ℕ) (v : Verb)
    (mid : List ℕ) → text ≡ verb_word v ++ SPACE ∷ mid
    → ((words : List (List ℕ)) → inner words ≡ None → event_with v words ≡ None)
    → NoLineAsks inner mid → NoLineAsks event_of text
event_asks_none inner text v mid split each =
    none_asked_after inner event_of text (verb_word v) mid split (verb_is_word v)
    (λ words none. ap (λ (o : Option Verb). option_and_then (λ v. event_with v words) o)
    (verb_is_read v) ∙ each words none)

-- a word that is read as a verb is the verb's
verb_is : (word : List ℕ) (v : Verb) → verb_of word ≡ Some v → word ≡ verb_word v
verb_is word v is =
    read_as verb_word word (codes "post") verb.Post v _ is refl
    (λ is. read_as verb_word word (codes "test") verb.Test v _ is refl
    (λ is. read_as verb_word word (codes "look") verb.Look v _ is refl
    (λ is. read_as verb_word word (codes "withdraw") verb.Withdraw v _ is refl
    (λ is. read_as verb_word word (codes "clear") verb.Clear v _ is refl
    (λ is. read_as verb_word word (codes "raise") verb.Raise v _ is refl
    (λ is. read_as verb_word word (codes "take") verb.Take v _ is refl
    (λ is. read_as verb_word word (codes "mark") verb.Mark v _ is refl
    (λ is. read_as verb_word word (codes "note") verb.Note v _ is refl
    (λ is. read_as verb_word word (codes "drain") verb.Drain v _ is refl
    (λ is. read_as verb_word word (codes "check") verb.Check v _ is refl
    (λ is. absurd (cc))))))))))))

-- no verb stands alone
verb_is_not_alone : (v : Verb) → event_with v [] ≡ None
verb_is_not_alone verb.Post = refl
verb_is_not_alone verb.Test = refl
verb_is_not_alone verb.Look = refl
verb_is_not_alone verb.Withdraw = refl
verb_is_not_alone verb.Clear = refl
verb_is_not_alone verb.Raise = refl
verb_is_not_alone verb.Take = refl
verb_is_not_alone verb.Mark = refl
verb_is_not_alone verb.Note = refl
verb_is_not_alone verb.Drain = refl
verb_is_not_alone verb.Check = refl

-- a text asks for an event only where it begins with a verb and a space
pub no_verb_asks_none : (text : List ℕ)
    → ((v : Verb) (rest : List ℕ) → ¬ (text ≡ verb_word v ++ SPACE ∷ rest))
    → NoLineAsks event_of text
no_verb_asks_none text never words rest begins fits =
    let first = parted SPACE begins.line in
    ap event_of (sym (sym first.parts ∙ begins.words_are))
    ∙ by_verb first.word first.tail first.others first.beyond
    (begins.split ∙ ap (λ (l : List ℕ). l ++ LINE_FEED ∷ rest) first.split)
    (verb_of first.word) refl
  where
    by_tail : (v : Verb) (tail : List ℕ) (others : List (List ℕ)) → TailHas SPACE tail others
        → text ≡ (verb_word v ++ tail) ++ LINE_FEED ∷ rest → event_with v others ≡ None
    by_tail v [] [] beyond split = verb_is_not_alone v
    by_tail v [] (word ∷ others) beyond split = absurd beyond
    by_tail v (b ∷ tail) others beyond split =
        absurd (never v (tail ++ LINE_FEED ∷ rest)
        (split ∙ (append_assoc (verb_word v) (b ∷ tail) (LINE_FEED ∷ rest)
        ∙ ap (λ b. verb_word v ++ b ∷ (tail ++ LINE_FEED ∷ rest)) beyond.0)))

    by_verb : (word tail : List ℕ) (others : List (List ℕ)) → TailHas SPACE tail others
        → text ≡ (word ++ tail) ++ LINE_FEED ∷ rest → (v : Option Verb) → verb_of word ≡ v
        → event_of (word ∷ others) ≡ None
    by_verb word tail others beyond split None none = rw none refl
    by_verb word tail others beyond split (Some v) some =
        ap (λ (o : Option Verb). option_and_then (λ v. event_with v others) o) some
        ∙ by_tail v tail others beyond
        (split ∙ ap (λ (w : List ℕ). (w ++ tail) ++ LINE_FEED ∷ rest) (verb_is word v some))

-- three numbers are wanted of a post and a raise: none where the first spells none
pub no_operands : (word : List ℕ) (words : List (List ℕ)) → number_of word ≡ None
    → operands_of (word ∷ words) ≡ None
no_operands word [] none = refl
no_operands word (rendez ∷ []) none = refl
no_operands word (rendez ∷ level ∷ []) none = rw none refl
no_operands word (rendez ∷ level ∷ next ∷ words) none = refl

-- none where the second does
pub no_rendez : (pid word : List ℕ) (words : List (List ℕ)) → number_of word ≡ None
    → operands_of (pid ∷ word ∷ words) ≡ None
no_rendez pid word [] none = refl
no_rendez pid word (level ∷ []) none = by_pid (number_of pid) refl
  where
    by_pid : (n : Option ℕ) → number_of pid ≡ n → operands_of (pid ∷ word ∷ level ∷ []) ≡ None
    by_pid None is = rw is refl
    by_pid (Some n) is = rw (is, none) refl
no_rendez pid word (level ∷ next ∷ words) none = refl

-- and none where the third does
pub no_level : (pid rendez word : List ℕ) → number_of word ≡ None
    → operands_of (pid ∷ rendez ∷ word ∷ []) ≡ None
no_level pid rendez word none = by_both (number_of pid) refl (number_of rendez) refl
  where
    by_both : (n : Option ℕ) → number_of pid ≡ n → (m : Option ℕ) → number_of rendez ≡ m
        → operands_of (pid ∷ rendez ∷ word ∷ []) ≡ None
    by_both None n_is m m_is = rw n_is refl
    by_both (Some n) n_is None m_is = rw (n_is, m_is) refl
    by_both (Some n) n_is (Some m) m_is = rw (n_is, m_is, none) refl

-- a number and kinds are wanted of a note: none where the number is none
pub no_note_pid : (word : List ℕ) (words : List (List ℕ)) → number_of word ≡ None
    → note_of (word ∷ words) ≡ None
no_note_pid word [] none = refl
no_note_pid word (kinds ∷ []) none = rw none refl
no_note_pid word (kinds ∷ next ∷ words) none = refl

-- and none where the kinds are none
pub no_note_kinds : (pid kinds : List ℕ) → kinds_of kinds ≡ None → note_of (pid ∷ kinds ∷ []) ≡ None
no_note_kinds pid kinds none = by_pid (number_of pid) refl
  where
    by_pid : (n : Option ℕ) → number_of pid ≡ n → note_of (pid ∷ kinds ∷ []) ≡ None
    by_pid None is = rw is refl
    by_pid (Some n) is = rw (is, none) refl

-- where no process follows a verb that one alone follows, it asks for nothing
pub no_pid_asked : (v : Verb) (mid : List ℕ) → TakesPid v → BeginsWithNoNumber LINE_FEED mid
    → NoLineAsks (event_with v) mid
no_pid_asked v mid takes never =
    none_before_line_feed (event_with v) mid never (λ word none. wrong v word none takes)
    (λ word next words. long v word next words takes)
  where
    wrong : (v : Verb) (word : List ℕ) → number_of word ≡ None → TakesPid v
        → event_with v (word ∷ []) ≡ None
    wrong verb.Post word none takes = absurd takes
    wrong verb.Raise word none takes = absurd takes
    wrong verb.Note word none takes = absurd takes
    wrong verb.Test word none takes = rw none refl
    wrong verb.Look word none takes = rw none refl
    wrong verb.Withdraw word none takes = rw none refl
    wrong verb.Clear word none takes = rw none refl
    wrong verb.Take word none takes = rw none refl
    wrong verb.Mark word none takes = rw none refl
    wrong verb.Drain word none takes = rw none refl
    wrong verb.Check word none takes = rw none refl

    long : (v : Verb) (word next : List ℕ) (words : List (List ℕ)) → TakesPid v
        → event_with v (word ∷ next ∷ words) ≡ None
    long verb.Post word next words takes = absurd takes
    long verb.Raise word next words takes = absurd takes
    long verb.Note word next words takes = absurd takes
    long verb.Test word next words takes = refl
    long verb.Look word next words takes = refl
    long verb.Withdraw word next words takes = refl
    long verb.Clear word next words takes = refl
    long verb.Take word next words takes = refl
    long verb.Mark word next words takes = refl
    long verb.Drain word next words takes = refl
    long verb.Check word next words takes = refl
