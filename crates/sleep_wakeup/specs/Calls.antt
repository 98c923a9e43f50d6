-- What each call of a process adds to its steps, after sleep and wakeup in "Process Sleep and
-- Synchronization on a Shared-Memory Multiprocessor" (1991): a process posts itself, tests its
-- condition and waits; another makes the condition true, takes the process that it finds and marks
-- it.
use Rattle.std.specs.Prelude.{◌≡◌, ◌≢◌, ◌⊎◌, ⊤, ℕ, List, [], ◌∷◌, ◌++◌}
use Rattle.std.specs.List.{AllByRecursion}
use Rattle.sync_base.specs.declared.fault.Fault.{Fault}
use Rattle.sync_base.specs.declared.fault.Fault.TheVariants as fault
use Rattle.sync_base.specs.declared.ids.Pid.{Pid}
use Rattle.sync_base.specs.declared.ids.RendezId.{RendezId}
use Rattle.sync_base.specs.declared.note.NoteSet.{NoteSet}
use Rattle.sync_base.specs.NoteSet.{no_notes}
use Rattle.sleep_core.specs.declared.answer.Answer.{Answer}
use Rattle.sleep_core.specs.declared.answer.Answer.TheVariants as answer
use Rattle.sleep_core.specs.declared.event.Event.{Event}
use Rattle.sleep_core.specs.declared.event.Event.TheVariants.{Look, Withdraw}
use Rattle.sleep_core.specs.Runs.{Entry}
use Rattle.rendez_words.specs.declared.states.Done.{Done}
use Rattle.rendez_words.specs.declared.words.Words.{Words}
use Rattle.rendez_words.specs.Process.{Process}
use Rattle.rendez_words.specs.Steps.{posts, tests, clears, raises, finds_nobody, takes, marks}
use Rattle.rendez_words.specs.Words.{HasReceipt, WhyNotPosted}

-- the step is a look or a withdrawal
abbrev pub IsOfWait : Event → Type 0
IsOfWait (Look pid) = ⊤
IsOfWait (Withdraw pid) = ⊤
IsOfWait event = ⊥

-- one of the steps is a look that found the mark
abbrev pub HasWoken : List Entry → Type 0
HasWoken [] = ⊥
HasWoken (entry ∷ past) = (entry.answer ≡ answer.Woken) ⊎ HasWoken past

-- The process looked and withdrew, as often as its phases allow, did nothing else, and then cleared
-- its flags, in which these notes were pending.
pub record Leaves (before : Process) (notes : NoteSet) (after : Process) : Type 0 where
  pub waiting : List Entry
  pub of_wait : AllByRecursion (λ entry. IsOfWait entry.event) waiting
  pub cleared : after ≡ clears (record before { trace = waiting ++ before.trace }) notes

-- the process that has posted itself tested, waited and cleared its flags
pub record EndsSleep (posted : Process) (notes : NoteSet) (after : Process) : Type 0 where
  pub tested : Answer
  pub leaves : Leaves (tests posted tested) notes after

-- A sleep: the process posted itself and only then tested its condition; it waited; and it cleared
-- its flags, once. A sleep that ends without notes has a cause: the test found the condition true,
-- or a look found the mark of a wakeup.
pub record Sleeps (before : Process) (rendez : RendezId) (threshold : ℕ) (notes : NoteSet)
    (after : Process) : Type 0 where
  pub tested : Answer
  pub leaves : Leaves (tests (posts before rendez threshold answer.Posted) tested) notes after
  pub cause : notes ≡ no_notes → (tested ≡ answer.Leaving) ⊎ HasWoken leaves.waiting

-- Why a sleep was refused, or which notes ended it. Own: the Rendez is tested first, then the
-- threshold, then whether another process is posted; only the last of these refusals leaves a step.
abbrev pub WhyNotSlept : Words → Process → RendezId → ℕ → Process → Fault → Type 0
WhyNotSlept words before rendez threshold after (fault.Interrupted notes) =
    Sleeps before rendez threshold notes after × (notes ≢ no_notes)
WhyNotSlept words before rendez threshold after other =
    WhyNotPosted words before rendez threshold after other

-- the process that has raised the level found nobody, or took the sleeper and marked it
abbrev pub Ends : Process → Process → Type 0
Ends owing after =
    (after ≡ finds_nobody owing) ⊎ ((sleeper : Pid) × (after ≡ marks (takes owing sleeper)))

-- A wakeup: the process raised the level and only then took the sleeper, if there was one, and
-- marked it. Then it has a receipt.
pub record Wakes (before : Process) (rendez : RendezId) (level : ℕ) (after : Process)
    (done : Done) : Type 0 where
  pub ends : Ends (raises before rendez level) after
  pub rendez_is : done.rendez ≡ rendez
  pub level_is : done.level ≡ level
  pub receipt : HasReceipt after done
