-- What a seat learns from each kind of step, and what the step asks.
use Rattle.std.specs.Prelude.{◌≡◌, ◌≢◌, ◌<◌, ⊤, ℕ, List, [], ◌∷◌, if◌then◌else◌}
use Rattle.atomic_table.specs.Table as table
use Rattle.sleep_core.specs.declared.event.Event.{Event}
use Rattle.sleep_core.specs.declared.event.Event.TheVariants.{Note}
use Rattle.sleep_core.specs.declared.answer.Answer.{Answer}
use Rattle.sleep_core.specs.declared.phase.Phase.{Phase}
use Rattle.sleep_core.specs.Table.{Cell, Word, pid_of, cell_of, reply}
use Rattle.sleep_core.specs.Table.Cell.{PostedOf, LevelOf, FlagsOf, NoCell}
use Rattle.sleep_core.specs.Table.Word.{Number, Flags, NoWord}
use Rattle.sleep_core.specs.EventTable.{word_after}
use Rattle.sleep_core.specs.Step.{word_at, answer_to}
use Rattle.sleep_core.specs.Runs.{Entry, IsMadeBy, IsRun, world_of, own, kept, is_kept, phase_by}
use Rattle.rendez_words.specs.declared.view.Part.{Part}
use Rattle.rendez_words.specs.declared.view.Sizes.{Sizes}
use Rattle.rendez_words.specs.declared.view.View.{View}
use Rattle.rendez_words.specs.declared.view.View.TheVariants as view
use Rattle.rendez_words.specs.FlagsWord.{flags_word}
use Rattle.rendez_words.specs.Process.{Process, IsOfRun}
use Rattle.rendez_words.specs.Rule.{index_of}
use Rattle.rendez_words.specs.View.{part_in, sleeper_in, raiser_in}

-- what a seat knows and what it holds
abbrev pub Seated : Type 0
Seated = table.Me (Unit {0}) View

-- the event comes in this phase: a process's own in the phase that its steps give, a note in any
abbrev pub IsStage : List Entry → Event → Phase → Type 0
IsStage trace (Note pid notes) stage = ⊤
IsStage trace event stage = stage ≡ phase_by trace

-- the number that stands for what lies in a cell
abbrev pub number_of : Word → ℕ
number_of (Number n) = n
number_of (Flags flags) = flags_word flags
number_of NoWord = 0

-- this word may lie in the cell
abbrev pub IsWordOf : Cell → Word → Type 0
IsWordOf (PostedOf rendez) (Number n) = ⊤
IsWordOf (LevelOf rendez) (Number n) = ⊤
IsWordOf (FlagsOf pid) (Flags flags) = ⊤
IsWordOf cell word = ⊥

-- there is such a cell
abbrev pub IsCellIn : Sizes → Cell → Type 0
IsCellIn sizes (PostedOf rendez) = rendez < sizes.rendez
IsCellIn sizes (LevelOf rendez) = rendez < sizes.rendez
IsCellIn sizes (FlagsOf pid) = pid < sizes.procs
IsCellIn sizes NoCell = ⊥

-- one more step, if it is worth keeping
abbrev pub part_after : Event → Answer → Part → Part
part_after event told part =
    record {
      pid = part.pid;
      trace =
          if is_kept told event
          then record { maker = part.pid; event = event; answer = told } ∷ part.trace
          else part.trace;
    }

abbrev pub part_of : Process → Part
part_of process = record { pid = process.pid; trace = process.trace }

-- What a step asks: it is made on the word of the event's cell, and leaves there what the event
-- does.
pub record IsStep (sizes : Sizes) (event : Event) (part : Part) (word : ℕ)
    (does : ℕ → ℕ) : Type 0 where
  pub cell : Cell
  pub maker_is : IsMadeBy part.pid event
  pub pid_in : (pid_of event).0 < sizes.procs
  pub cell_is : (stage : Phase) → IsStage part.trace event stage → cell_of event stage ≡ cell
  pub cell_in : IsCellIn sizes cell
  pub word_is : word ≡ index_of sizes cell
  pub does_is : (stage : Phase) → IsStage part.trace event stage
      → (found : Word) → IsWordOf cell found
      → does (number_of found) ≡ number_of (word_after event stage found)

-- What a step ensures: the table answered the event from what was found in its cell.
pub record HasMade (sizes : Sizes) (event : Event) (before : Part) (found : ℕ)
    (after : Part) : Type 0 where
  pub stage : Phase
  pub word : Word
  pub in_stage : IsStage before.trace event stage
  pub word_is : IsWordOf (cell_of event stage) word
  pub found_is : found ≡ number_of word
  pub after_is : after ≡ part_after event (reply event stage word) before
  pub run : IsOfRun sizes.procs sizes.rendez after.pid after.trace

-- the same for the seat at the table
pub record HasStepped (sizes : Sizes) (event : Event) (before : Seated) (found : ℕ)
    (after : Seated) : Type 0 where
  pub made : HasMade sizes event (part_in before.0) found (part_in after.0)
  pub seat : after ≡ (view.Process (part_in after.0), [])

-- A load, for an event that leaves its word empty: where the word was empty the event was made, and
-- else nothing changed.
pub record HasMadeWhereEmpty (sizes : Sizes) (event : Event) (before : Seated) (found : ℕ)
    (after : Seated) : Type 0 where
  pub made : found ≡ 0 → HasMade sizes event (part_in before.0) 0 (part_in after.0)
  pub same : found ≢ 0 → after ≡ before
  pub seat : after ≡ (view.Process (part_in after.0), [])

-- Check, by a joined seat: nothing changed, and the event was answered from what was found in its
-- cell, in the world of a run that has the steps of both processes.
pub record HasChecked (sizes : Sizes) (event : Event) (before : Seated) (found : ℕ)
    (after : Seated) : Type 0 where
  pub same : after ≡ before
  pub stage : Phase
  pub word : Word
  pub in_stage : IsStage (sleeper_in before.0).trace event stage
  pub word_is : IsWordOf (cell_of event stage) word
  pub found_is : found ≡ number_of word
  pub run : List Entry
  pub legal : IsRun sizes.procs sizes.rendez run
  pub sleeper_is : (sleeper_in before.0).trace ≡ kept (own (sleeper_in before.0).pid run)
  pub raiser_is : (raiser_in before.0).trace ≡ kept (own (raiser_in before.0).pid run)
  pub read : word ≡ word_at (world_of sizes.procs sizes.rendez run) (cell_of event stage)
  pub answered : answer_to (world_of sizes.procs sizes.rendez run) event ≡ reply event stage word
