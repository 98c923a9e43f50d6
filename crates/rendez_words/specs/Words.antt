-- What clauses see of the words, and of the states between two steps.
use Rattle.std.specs.Prelude.{◌≡◌, ◌≢◌, ◌<◌, ◌≤◌, ◌+◌, ℕ, Bool, List, [], if◌then◌else◌}
use Rattle.sync_base.specs.declared.fault.Fault.{Fault}
use Rattle.sync_base.specs.declared.fault.Fault.TheVariants as fault
use Rattle.sync_base.specs.declared.ids.RendezId.{RendezId}
use Rattle.sync_base.specs.declared.limits.TheConstants.{TOP_LEVEL}
use Rattle.atomic_table.specs.Seated.{TableId}
use Rattle.sleep_core.specs.declared.event.Event.TheVariants.{Check}
use Rattle.sleep_core.specs.declared.answer.Answer.TheVariants as answer
use Rattle.sleep_core.specs.declared.phase.Phase.{Phase}
use Rattle.sleep_core.specs.declared.phase.Phase.TheVariants as phase
use Rattle.sleep_core.specs.Step.{answer_to}
use Rattle.sleep_core.specs.Runs.{Entry, IsRun, world_of, own, kept}
use Rattle.sleep_core.specs.History.{history_of, HasReturned}
use Rattle.rendez_words.specs.declared.states.Done.{Done}
use Rattle.rendez_words.specs.declared.view.Sizes.{Sizes}
use Rattle.rendez_words.specs.declared.words.Words.{Words}
use Rattle.rendez_words.specs.Process.{Process, PidsLeft, IsOfRun, pid_in}
use Rattle.rendez_words.specs.Steps.{posts}

abbrev pub table_of : Words → TableId
table_of words = words.table.shared.table_id

abbrev pub sizes_of : Words → Sizes
sizes_of words = words.table.shared.key

-- how many processes there are
abbrev pub procs_of : Words → ℕ
procs_of words = words.table.shared.key.procs

-- how many Rendez there are
abbrev pub rendez_of : Words → ℕ
rendez_of words = words.table.shared.key.rendez

-- the process belongs to these words, and its steps are those that it has in some run of the core
pub record IsProcessOf (words : Words) (process : Process) : Type 0 where
  pub table : process.table ≡ table_of words
  pub pid : process.pid < procs_of words
  pub run : IsOfRun (procs_of words) (rendez_of words) process.pid process.trace

-- these pids to come are the pids to come of these words
pub record ArePidsOf (words : Words) (pids : PidsLeft) : Type 0 where
  pub table : pids.table ≡ table_of words
  pub next : pids.next ≤ procs_of words

-- the process of the next pid, which has made no step
abbrev pub given_from : PidsLeft → Process
given_from pids = record { table = pids.table; pid = pids.next; trace = [] }

-- one pid fewer is left
abbrev pub one_less : PidsLeft → PidsLeft
one_less pids = record pids { next = pids.next + 1 }

-- a process may be posted there
pub record MayPost (words : Words) (rendez : RendezId) (threshold : ℕ) : Type 0 where
  pub rendez_in : rendez.0 < rendez_of words
  pub not_top : threshold ≢ TOP_LEVEL

-- Own: the Rendez is tested first, then the threshold, then whether somebody is posted. Only the
-- last refusal is worth keeping.
abbrev pub WhyNotPosted :
    Words → Process → RendezId → ℕ → Process → Fault → Type 0
WhyNotPosted words before rendez threshold after fault.NoRendez =
    (rendez_of words ≤ rendez.0) × (after ≡ before)
WhyNotPosted words before rendez threshold after fault.BadLevel =
    (rendez.0 < rendez_of words) × (threshold ≡ TOP_LEVEL) × (after ≡ before)
WhyNotPosted words before rendez threshold after fault.DoubleSleep =
    MayPost words rendez threshold × (after ≡ posts before rendez threshold answer.DoubleSleep)
WhyNotPosted words before rendez threshold after other = ⊥

-- what stands in the way of a raise: there is no such Rendez
abbrev pub WhyNotRaised : Words → Process → RendezId → Process → Fault → Type 0
WhyNotRaised words before rendez after fault.NoRendez =
    (rendez_of words ≤ rendez.0) × (after ≡ before)
WhyNotRaised words before rendez after other = ⊥

-- a wakeup of the Rendez with this level, by this process, has returned
abbrev pub HasReceipt : Process → Done → Type 0
HasReceipt process done = HasReturned (history_of process.trace) done.rendez.0 done.level

-- the receipt names the wakeup that the process has begun
abbrev pub IsOfWakeup : Phase → Done → Type 0
IsOfWakeup (phase.Owing rendez level) done = (done.rendez ≡ rendez) × (done.level ≡ level)
IsOfWakeup (phase.Holding sleeper rendez level) done =
    (done.rendez ≡ rendez) × (done.level ≡ level)
IsOfWakeup other done = ⊥

-- Own: whether a sleeper is still posted is read in the world of some run that has all steps of the
-- sleeper and of the raiser. The run has steps of other processes too, of which neither knows: a
-- third process may have taken the sleeper.
pub record IsChecked (words : Words) (sleeper raiser : Process) (released : Bool) : Type 0 where
  pub run : List Entry
  pub legal : IsRun (procs_of words) (rendez_of words) run
  pub sleeper_is : sleeper.trace ≡ kept (own sleeper.pid run)
  pub raiser_is : raiser.trace ≡ kept (own raiser.pid run)
  pub answered : answer_to (world_of (procs_of words) (rendez_of words) run)
      (Check (pid_in sleeper))
      ≡ (if released then answer.Released else answer.Posted)
