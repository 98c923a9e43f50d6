-- What a call of a layer above does with sleep and wakeup: one word for each action. After the
-- paper of 1991.
use Rattle.std.specs.Prelude.{◌≡◌, ◌≢◌, ℕ}
use Rattle.sync_base.specs.declared.fault.Fault.{Fault}
use Rattle.sync_base.specs.declared.fault.Fault.TheVariants as fault
use Rattle.sync_base.specs.declared.ids.RendezId.{RendezId}
use Rattle.sync_base.specs.NoteSet.{no_notes}
use Rattle.sleep_core.specs.declared.answer.Answer.TheVariants as answer
use Rattle.rendez_words.specs.declared.states.Done.{Done}
use Rattle.rendez_words.specs.Process.{Process, pid_in}
use Rattle.rendez_words.specs.Steps.{posts, notes}
use Rattle.sleep_wakeup.specs.Calls.{Sleeps, Wakes}

-- a sleep of this threshold that ended well
abbrev pub SleepsWell : Process → RendezId → ℕ → Process → Type 0
SleepsWell before rendez threshold after = Sleeps before rendez threshold no_notes after

-- a sleep of this threshold that did not end well: notes ended it, which it took, or another
-- process is posted there
abbrev pub FailsAsleep : Process → RendezId → ℕ → Process → Fault → Type 0
FailsAsleep before rendez threshold after (fault.Interrupted notes) =
    Sleeps before rendez threshold notes after × (notes ≢ no_notes)
FailsAsleep before rendez threshold after fault.DoubleSleep =
    after ≡ posts before rendez threshold answer.DoubleSleep
FailsAsleep before rendez threshold after other = ⊥

-- a wakeup of the Rendez with this level has returned, and the process did nothing else
pub record WakesOne (before : Process) (rendez : RendezId) (level : ℕ) (after : Process) :
    Type 0 where
  pub receipt : Done
  pub woken : Wakes before rendez level after receipt

-- the notes that ended a sleep are pending again
abbrev pub PutsBack : Fault → Process → Process → Type 0
PutsBack (fault.Interrupted set) before after = after ≡ notes before (pid_in before) set
PutsBack other before after = after ≡ before
