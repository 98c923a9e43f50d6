-- The rows of the table, one by one: what an event that may come answers, what it leaves in its one
-- word, and in which phase its process is then.
use Rattle.std.proofs.Common.{◌≡◌, ◌==◌, Bool, true, false}
use Rattle.std.proofs.Common.{if◌then◌else◌, Option, Some, None, length, refl, ◌∙◌, ap}
use Rattle.std.proofs.lemmas.Bool.Decides.{Decides-ltb}
use Rattle.std.proofs.lemmas.List.{get_or-set_same}
use Rattle.sleep_core.specs.declared.event.Event.{Event}
use Rattle.sleep_core.specs.declared.event.Event.TheVariants.{Post, Withdraw, Clear}
use Rattle.sleep_core.specs.declared.event.Event.TheVariants.{Raise, Take, Mark, Note, Drain}
use Rattle.sleep_core.specs.declared.answer.Answer.{Answer}
use Rattle.sleep_core.specs.declared.answer.Answer.TheVariants as answer
use Rattle.sleep_core.specs.declared.phase.Phase.{Phase}
use Rattle.sleep_core.specs.declared.phase.Phase.TheVariants as phase
use Rattle.sleep_core.specs.State.{State, nobody, posted_as, no_flags, phase_of}
use Rattle.sleep_core.specs.Table.{Cell, Word, pid_of, cell_of, reply, stored, phase_after}
use Rattle.sleep_core.specs.Table.{returned_by, number_in}
use Rattle.sleep_core.specs.Table.Cell.{PostedOf, LevelOf, FlagsOf, NoCell}
use Rattle.sleep_core.specs.Table.Word.{Number, Flags, NoWord}
use Rattle.sleep_core.specs.Step.{with_phase, with_word, has_cell, word_at, is_refusal, answer_in}
use Rattle.sleep_core.specs.Step.{answer_to, changed_by, world_told, world_after}
use Rattle.sleep_core.specs.EventTable.{HasWord, IsDue, word_left, word_after}
use Rattle.sleep_core.specs.EventTable.{EventsFollowTable}
use Rattle.sleep_core.proofs.LocalityLemmas.{word_at-with_phase, word_at-with_returned}
use Rattle.sleep_core.proofs.LocalityLemmas.{phase_of-world_after}

-- a word that is there is found
has_cell_there : (s : State) (cell : Cell) → HasWord s cell → has_cell s cell ≡ true
has_cell_there s (PostedOf rendez) there = (Decides-ltb rendez (length s.posted)).1 there
has_cell_there s (LevelOf rendez) there = (Decides-ltb rendez (length s.levels)).1 there
has_cell_there s (FlagsOf pid) there = (Decides-ltb pid (length s.flags)).1 there
has_cell_there s NoCell there = refl

-- the answer is that of the row
row_answered : (s : State) (event : Event) (stage : Phase) (word : Word) → IsDue s event stage word
    → answer_to s event ≡ reply event stage word
row_answered s event stage word due =
    ap (λ b. if b then answer_in s (phase_of s (pid_of event).0) event else answer.NoProc)
    ((Decides-ltb (pid_of event).0 (length s.phases)).1 due.exists)
    ∙ (ap (λ at. answer_in s at event) due.in_phase
    ∙ (ap (λ b. if b then reply event stage (word_at s (cell_of event stage)) else answer.NoRendez)
    (has_cell_there s (cell_of event stage) due.has_word)
    ∙ ap (reply event stage) due.is_word))

-- a word is of the kind that lies in its place
abbrev pub IsOfKind : Cell → Word → Type 0
IsOfKind (PostedOf rendez) (Number n) = Unit {0}
IsOfKind (LevelOf rendez) (Number n) = Unit {0}
IsOfKind (FlagsOf pid) (Flags flags) = Unit {0}
IsOfKind NoCell NoWord = Unit {0}
IsOfKind cell word = ⊥

-- what may be written in a place
abbrev pub MayStore : Cell → Option Word → Type 0
MayStore NoCell (Some word) = ⊥
MayStore cell (Some word) = IsOfKind cell word
MayStore cell None = Unit {0}

-- a word that is written is there afterwards
word_at-written : (s : State) (cell : Cell) (new : Option Word) → HasWord s cell
    → MayStore cell new
    → word_at (with_word s cell new) cell ≡ word_left (word_at s cell) new
word_at-written s (PostedOf rendez) (Some (Number n)) there fits =
    ap Number (get_or-set_same s.posted rendez n 0 there)
word_at-written s (LevelOf rendez) (Some (Number n)) there fits =
    ap Number (get_or-set_same s.levels rendez n 0 there)
word_at-written s (FlagsOf pid) (Some (Flags flags)) there fits =
    ap Flags (get_or-set_same s.flags pid flags no_flags there)
word_at-written s cell None there fits = refl
word_at-written s cell (Some word) there fits = absurd fits

-- each row writes a word of the kind that lies there
pub stores_its_kind : (event : Event) (stage : Phase) (word : Word)
    → MayStore (cell_of event stage) (stored event stage word)
stores_its_kind (Post pid rendez threshold) phase.Idle word = tt
stores_its_kind (Withdraw pid) (phase.Leaving rendez) word =
    by_test (number_in word == posted_as pid.0)
  where
    by_test : (mine : Bool)
        → MayStore (PostedOf rendez.0) (if mine then Some (Number nobody) else None)
    by_test true = tt
    by_test false = tt
stores_its_kind (Clear pid) phase.Out word = tt
stores_its_kind (Clear pid) phase.Woken word = tt
stores_its_kind (Raise pid rendez level) phase.Idle word = tt
stores_its_kind (Take pid) (phase.Owing rendez level) word = tt
stores_its_kind (Mark pid) (phase.Holding sleeper rendez level) word = tt
stores_its_kind (Note pid notes) stage word = tt
stores_its_kind (Drain pid) phase.Idle word = tt
stores_its_kind event stage word = tt

-- a word after a step that was told this
left_by : (s : State) (stage : Phase) (event : Event) (told : Answer)
    → HasWord s (cell_of event stage)
    → word_at (world_told s stage event told) (cell_of event stage)
    ≡ (if is_refusal told
    then word_at s (cell_of event stage)
    else word_left (word_at s (cell_of event stage))
    (stored event stage (word_at s (cell_of event stage))))
left_by s stage event told there = by_test (is_refusal told)
  where
    cell : Cell
    cell = cell_of event stage

    new : Option Word
    new = stored event stage (word_at s (cell_of event stage))

    by_test : (refused : Bool)
        → word_at (if refused then s else changed_by s stage event told) (cell_of event stage)
        ≡ (if refused
        then word_at s (cell_of event stage)
        else word_left (word_at s (cell_of event stage))
        (stored event stage (word_at s (cell_of event stage))))
    by_test true = refl
    by_test false =
        let written = with_word s cell new in
        let moved = with_phase written (pid_of event).0 (phase_after told event stage) in
        word_at-with_returned moved (returned_by told event stage) cell
        ∙ (word_at-with_phase written (pid_of event).0 (phase_after told event stage) cell
        ∙ word_at-written s cell new there
        (stores_its_kind event stage (word_at s (cell_of event stage))))

-- the word that the row leaves
row_left : (s : State) (event : Event) (stage : Phase) (word : Word) → IsDue s event stage word
    → word_at (world_after s event) (cell_of event stage) ≡ word_after event stage word
row_left s event stage word due =
    ap (λ at. word_at (world_told s at event (answer_to s event)) (cell_of event stage))
    due.in_phase
    ∙ (ap (λ told. word_at (world_told s stage event told) (cell_of event stage))
    (row_answered s event stage word due)
    ∙ (left_by s stage event (reply event stage word) due.has_word
    ∙ ap (λ found. if is_refusal (reply event stage word)
    then found
    else word_left found (stored event stage found)) due.is_word))

-- the phase that the row leaves
row_moved : (s : State) (event : Event) (stage : Phase) (word : Word) → IsDue s event stage word
    → phase_of (world_after s event) (pid_of event).0
    ≡ phase_after (reply event stage word) event stage
row_moved s event stage word due =
    phase_of-world_after s event
    ∙ (ap (λ told. phase_after told event (phase_of s (pid_of event).0))
    (row_answered s event stage word due)
    ∙ ap (phase_after (reply event stage word) event) due.in_phase)

-- every row
pub row : EventsFollowTable
row s event stage word due =
    record {
      answered = row_answered s event stage word due;
      leaves = row_left s event stage word due;
      moves = row_moved s event stage word due;
    }
