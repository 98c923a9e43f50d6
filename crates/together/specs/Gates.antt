-- What a process does while it waits at the gate of a team. Own.
use Rattle.std.specs.Prelude.{◌≡◌, ⊤, ℕ, List, ◌++◌}
use Rattle.std.specs.List.{AllByRecursion}
use Rattle.sleep_core.specs.declared.event.Event.{Event}
use Rattle.sleep_core.specs.declared.event.Event.TheVariants.{Post, Test, Look, Withdraw, Clear}
use Rattle.sleep_core.specs.declared.event.Event.TheVariants.{Note}
use Rattle.sleep_core.specs.Runs.{Entry}
use Rattle.rendez_words.specs.Process.{Process}

-- the step is of a sleep, or puts back notes that ended one
abbrev pub IsOfGate : ℕ → Event → Type 0
IsOfGate own (Post pid rendez threshold) = ⊤
IsOfGate own (Test pid) = ⊤
IsOfGate own (Look pid) = ⊤
IsOfGate own (Withdraw pid) = ⊤
IsOfGate own (Clear pid) = ⊤
IsOfGate own (Note pid set) = pid.0 ≡ own
IsOfGate own other = ⊥

-- The process slept, and put back the notes that it took, as often as it did, and did nothing else.
pub record HasWaited (before after : Process) : Type 0 where
  pub table : after.table ≡ before.table
  pub pid : after.pid ≡ before.pid
  pub steps : List Entry
  pub of_gate : AllByRecursion (λ entry. IsOfGate before.pid entry.event) steps
  pub trace_is : after.trace ≡ steps ++ before.trace
