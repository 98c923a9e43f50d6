-- What a fork of one child does, and of many, after fork(2).
use Rattle.std.specs.Prelude.{◌≡◌, ◌≤◌, ◌+◌, ℕ, zero, suc, false, List, [], ◌∷◌, Result, Ok, Err}
use Rattle.sync_base.specs.declared.fault.Fault.{Fault}
use Rattle.sync_base.specs.declared.fault.Fault.TheVariants.{NoProc}
use Rattle.sync_base.specs.declared.fault.Fault.TheVariants as fault
use Rattle.rendez_words.specs.Words.{procs_of}
use Rattle.sleep_wakeup.specs.Forks.{HasPid}
use Rattle.sleep_wakeup.specs.Kernel.{Running, Unused, next_process, one_pid_less}

-- The child has the next pid, is in its parent's group and has made no step; or no pid is left, and
-- no pid was used up.
abbrev pub ForksOne : ℕ → Unused → Result Running Fault → Unused → Type 0
ForksOne parent before (Ok child) after =
    HasPid before × (child ≡ next_process before)
    × (after ≡ one_pid_less parent false before)
ForksOne parent before (Err why) after =
    (why ≡ NoProc) × (¬ HasPid before) × (after ≡ before)

-- ---- many at once

-- this many pids are left
abbrev pub HasPids : Unused → ℕ → Type 0
HasPids unused count = (unused.pids.next + count) ≤ procs_of unused.words

-- the next processes of a roster, children of this one in its note group
abbrev pub children : ℕ → ℕ → Unused → List Running
children zero parent unused = []
children (suc count) parent unused =
    next_process unused ∷ children count parent (one_pid_less parent false unused)

-- and what the roster has left then
abbrev pub less_children : ℕ → ℕ → Unused → Unused
less_children zero parent unused = unused
less_children (suc count) parent unused =
    less_children count parent (one_pid_less parent false unused)

-- these are so many children of a process, the next ones of the roster, which gave out a pid for
-- each
pub record AreChildren (before : Unused) (parent count : ℕ) (made : List Running)
    (after : Unused) : Type 0 where
  pub pids : HasPids before count
  pub children_are : made ≡ children count parent before
  pub roster : after ≡ less_children count parent before

-- why no children were made: too few pids are left, or there is no memory
abbrev pub WhyNoChildren : Unused → ℕ → Fault → Type 0
WhyNoChildren unused count fault.NoProc = ¬ HasPids unused count
WhyNoChildren unused count fault.Memory = HasPids unused count
WhyNoChildren unused count other = ⊥
