-- What clauses see of a process between two of its steps, in whatever state it is.
use Rattle.std.specs.Prelude.{◌≡◌, ℕ, List, ◌∷◌}
use Rattle.sync_base.specs.declared.ids.Pid.{Pid}
pub use Rattle.atomic_table.specs.Seated.{TableId}
use Rattle.sleep_core.specs.declared.event.Event.{Event}
use Rattle.sleep_core.specs.declared.answer.Answer.{Answer}
use Rattle.sleep_core.specs.declared.phase.Phase.{Phase}
use Rattle.sleep_core.specs.declared.phase.Phase.TheVariants as phase
use Rattle.sleep_core.specs.Runs.{Entry, IsRun, own, kept, phase_by}

-- the words that the process belongs to, its number, and its own steps, newest first
pub record Process : Type 0 where
  pub table : TableId
  pub pid : ℕ
  pub trace : List Entry

-- what the seat of all pids to come holds: its words, and the first pid not yet given
pub record PidsLeft : Type 0 where
  pub table : TableId
  pub next : ℕ

-- where the process is, by its own steps
abbrev pub phase_in : Process → Phase
phase_in process = phase_by process.trace

abbrev pub pid_in : Process → Pid
pid_in process = record { 0 = process.pid }

-- whom a process holds
abbrev pub held_in : Phase → Pid
held_in (phase.Holding sleeper rendez level) = sleeper
held_in other = record { 0 = 0 }

abbrev pub sleeper_of : Process → Pid
sleeper_of process = held_in (phase_in process)

-- one more step, with its answer
abbrev pub made : Process → Event → Answer → Process
made process event told =
    record process {
      trace = record { maker = process.pid; event = event; answer = told } ∷ process.trace;
    }

-- some run of the core has just these steps of the process, not counting steps that are not worth
-- keeping
pub record IsOfRun (procs rendez : ℕ) (pid : ℕ) (trace : List Entry) : Type 0 where
  pub run : List Entry
  pub legal : IsRun procs rendez run
  pub trace_is : trace ≡ kept (own pid run)
