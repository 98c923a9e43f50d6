-- What holds of a semaphore after every legal history, said of the definitions alone.
use Rattle.std.specs.Prelude.{◌≡◌, ◌⊎◌, ℕ, ◌+◌, ◌≤◌, ◌<◌, false, List, [], length}
use Rattle.histories.specs.History.{state_after, IsLegal}
use Rattle.semaphore.specs.declared.limits.TheConstants.{MAX_VALUE, LAST_GRANT}
use Rattle.semaphore.specs.WaitQueue.{stands_in}
use Rattle.semaphore.specs.Units.{SemaState, IsSound, opening, stage_of, grants_of}
use Rattle.semaphore.specs.SemaHistory.{SemaEntry, sema_meaning, released, taken, held_in}
use Rattle.semaphore.specs.SemaHistory.{uncollected, collected, last_named}

-- a law of the state that each legal history leaves
abbrev pub AlwaysHolds : ((opening_value count : ℕ) → List SemaEntry → SemaState → Type 0) → Type 0
AlwaysHolds Holds =
    (value procs count : ℕ) (past : List SemaEntry) → value ≤ MAX_VALUE → count ≤ LAST_GRANT →
    IsLegal sema_meaning (opening value procs count) past →
    Holds value count past (state_after sema_meaning (opening value procs count) past)

-- No unit is lost and none is given twice: the units that nobody has, that callers got, and that
-- are granted and not collected are together the opening value and the units that were released.
abbrev pub UnitsAddUp : Type 0
UnitsAddUp = AlwaysHolds (λ value count past s.
    s.value + taken past + uncollected s.stages ≡ value + released past)

-- a seat's count is the number where it began plus the units that it was granted: those that it
-- collected, and one that it did not collect yet, if there is one
abbrev pub CountsAreGrants : Type 0
CountsAreGrants = AlwaysHolds (λ value count past s.
    (seat : ℕ) → seat < length s.stages →
    grants_of s seat ≡ count + collected seat past + held_in (stage_of s seat))

-- nobody waits where there is a unit
abbrev pub NobodyWaitsForNothing : Type 0
NobodyWaitsForNothing = AlwaysHolds (λ value count past s. (s.value ≡ 0) ⊎ (s.waiters ≡ []))

-- the value is within its limits, and each seat that waits is in line once
abbrev pub StatesAreSound : Type 0
StatesAreSound = AlwaysHolds (λ value count past s. IsSound s)

-- a seat that is not to be named any more was named with its latest count
abbrev pub EachGrantIsNamed : Type 0
EachGrantIsNamed = AlwaysHolds (λ value count past s.
    (seat : ℕ) → seat < length s.stages → stands_in s.unnamed seat ≡ false →
    grants_of s seat ≡ last_named count seat past)
