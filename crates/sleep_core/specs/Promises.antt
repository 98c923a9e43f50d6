-- What is promised of every history: no wakeup is lost, each takes the process that it finds in the
-- Rendez, no mark is stray, and each sleep ends with exactly the notes that were pending, and for a
-- cause.
use Rattle.std.specs.Prelude.{◌≡◌, ◌≢◌, ◌<◌, ◌==◌, ◌⊎◌, ⊤, ℕ, if◌then◌else◌}
use Rattle.std.specs.Prelude.{Option, Some, None, List, [], ◌∷◌}
use Rattle.sync_base.specs.declared.note.NoteSet.{NoteSet}
use Rattle.sync_base.specs.NoteSet.{no_notes, joined}
use Rattle.sleep_core.specs.History.{Effect, HasReturned}
use Rattle.sleep_core.specs.History.Effect.{Began, Passed, Fell, Roused, Withdrew, Left, Took}
use Rattle.sleep_core.specs.History.Effect.{Marked}
use Rattle.sleep_core.specs.History.Effect.{Raised, Missed, Noted, Drained}
use Rattle.sleep_core.specs.Table.{Wakeup}

-- The process began this sleep, and since then it has neither left it nor been taken out of the
-- Rendez, by itself or by a wakeup.
abbrev pub IsStillIn : List Effect → ℕ → ℕ → ℕ → Type 0
IsStillIn [] pid rendez threshold = ⊥
IsStillIn (Began by at above ∷ past) pid rendez threshold =
    ((by ≡ pid) × (at ≡ rendez) × (above ≡ threshold)) ⊎ IsStillIn past pid rendez threshold
IsStillIn (Withdrew by ∷ past) pid rendez threshold =
    (by ≢ pid) × IsStillIn past pid rendez threshold
IsStillIn (Took by sleeper ∷ past) pid rendez threshold =
    (sleeper ≢ pid) × IsStillIn past pid rendez threshold
IsStillIn (Left leaver notes ∷ past) pid rendez threshold =
    (leaver ≢ pid) × IsStillIn past pid rendez threshold
IsStillIn (effect ∷ past) pid rendez threshold = IsStillIn past pid rendez threshold

-- This holds, and in this sleep its test found the condition false: the level was not above its
-- threshold.
abbrev pub HasFallen : List Effect → ℕ → ℕ → ℕ → Type 0
HasFallen [] pid rendez threshold = ⊥
HasFallen (Fell by ∷ past) pid rendez threshold =
    ((by ≡ pid) × IsStillIn past pid rendez threshold) ⊎ HasFallen past pid rendez threshold
HasFallen (Withdrew by ∷ past) pid rendez threshold =
    (by ≢ pid) × HasFallen past pid rendez threshold
HasFallen (Took by sleeper ∷ past) pid rendez threshold =
    (sleeper ≢ pid) × HasFallen past pid rendez threshold
HasFallen (Left leaver notes ∷ past) pid rendez threshold =
    (leaver ≢ pid) × HasFallen past pid rendez threshold
HasFallen (effect ∷ past) pid rendez threshold = HasFallen past pid rendez threshold

-- A wakeup is lost: a process fell asleep and has neither been taken out nor left, though a wakeup
-- of its Rendez with a level above its threshold has returned. It is the race of which "Process
-- Sleep and Synchronization on a Shared-Memory Multiprocessor" (1991) speaks.
pub record LosesWakeup (history : List Effect) : Type 0 where
  pub pid : ℕ
  pub rendez : ℕ
  pub threshold : ℕ
  pub level : ℕ
  pub fell : HasFallen history pid rendez threshold
  pub returned : HasReturned history rendez level
  pub is_above : threshold < level

-- the wakeup that the process has begun and with which it has yet to look for a sleeper
abbrev pub owed_wakeup : ℕ → List Effect → Option Wakeup
owed_wakeup pid [] = None
owed_wakeup pid (Raised raiser rendez level ∷ past) =
    if raiser == pid
    then Some (record { rendez = rendez; level = level })
    else owed_wakeup pid past
owed_wakeup pid (Missed raiser ∷ past) = if raiser == pid then None else owed_wakeup pid past
owed_wakeup pid (Took raiser sleeper ∷ past) =
    if raiser == pid then None else owed_wakeup pid past
owed_wakeup pid (effect ∷ past) = owed_wakeup pid past

-- the process owes this wakeup, and nobody is in a sleep on its Rendez
pub record FindsNobody (past : List Effect) (pid : ℕ) : Type 0 where
  pub wakeup : Wakeup
  pub owed : owed_wakeup pid past ≡ Some wakeup
  pub free : (other threshold : ℕ) → ¬ (IsStillIn past other wakeup.rendez threshold)

-- the process owes this wakeup, and the sleeper is in its sleep on that Rendez
pub record FindsSleeper (past : List Effect) (pid sleeper : ℕ) : Type 0 where
  pub wakeup : Wakeup
  pub owed : owed_wakeup pid past ≡ Some wakeup
  pub threshold : ℕ
  pub still_in : IsStillIn past sleeper wakeup.rendez threshold

-- After wakeup in "Process Sleep and Synchronization on a Shared-Memory Multiprocessor" (1991): the
-- condition is true before the wakeup looks for the sleeper. A wakeup takes only a process that is
-- in its sleep on that Rendez and was not yet taken out, by a wakeup or by itself. It finds nobody
-- only where there is no such process.
abbrev pub TakesAreRight : List Effect → Type 0
TakesAreRight [] = ⊤
TakesAreRight (Missed pid ∷ past) = FindsNobody past pid × TakesAreRight past
TakesAreRight (Took pid sleeper ∷ past) = FindsSleeper past pid sleeper × TakesAreRight past
TakesAreRight (effect ∷ past) = TakesAreRight past

-- the raiser took this process out, and since then it has neither left its sleep nor been marked
abbrev pub IsHeld : List Effect → ℕ → ℕ → Type 0
IsHeld [] raiser pid = ⊥
IsHeld (Took by sleeper ∷ past) raiser pid =
    ((by ≡ raiser) × (sleeper ≡ pid)) ⊎ IsHeld past raiser pid
IsHeld (Marked by sleeper ∷ past) raiser pid = (sleeper ≢ pid) × IsHeld past raiser pid
IsHeld (Left by notes ∷ past) raiser pid = (by ≢ pid) × IsHeld past raiser pid
IsHeld (effect ∷ past) raiser pid = IsHeld past raiser pid

-- Own: no mark reaches a process that has left the sleep in which it was taken, and no mark comes
-- twice.
abbrev pub NoMarkIsStray : List Effect → Type 0
NoMarkIsStray [] = ⊤
NoMarkIsStray (Marked raiser sleeper ∷ past) = IsHeld past raiser sleeper × NoMarkIsStray past
NoMarkIsStray (effect ∷ past) = NoMarkIsStray past

-- After notify(2): notes that came to a process are pending until it takes them. Own: they are a
-- set, and the end of a sleep takes them all.
abbrev pub pending : List Effect → ℕ → NoteSet
pending [] pid = no_notes
pending (Noted named notes ∷ past) pid =
    if named == pid then joined (pending past pid) notes else pending past pid
pending (Drained by notes ∷ past) pid = if by == pid then no_notes else pending past pid
pending (Left by notes ∷ past) pid = if by == pid then no_notes else pending past pid
pending (effect ∷ past) pid = pending past pid

-- a sleep ends well where no notes are pending, and else with just the pending notes
abbrev pub IsRightEnding : Option NoteSet → NoteSet → Type 0
IsRightEnding None waiting = waiting ≡ no_notes
IsRightEnding (Some notes) waiting = (notes ≡ waiting) × (notes ≢ no_notes)

-- each process took exactly the notes that were pending
abbrev pub AreNotesRight : List Effect → Type 0
AreNotesRight [] = ⊤
AreNotesRight (Left pid notes ∷ past) = IsRightEnding notes (pending past pid) × AreNotesRight past
AreNotesRight (Drained pid notes ∷ past) = (notes ≡ pending past pid) × AreNotesRight past
AreNotesRight (effect ∷ past) = AreNotesRight past

-- since the process began its sleep its test found the condition true, or its look found the mark
abbrev pub IsCaused : List Effect → ℕ → Type 0
IsCaused [] pid = ⊥
IsCaused (Passed by ∷ past) pid = (by ≡ pid) ⊎ IsCaused past pid
IsCaused (Roused by ∷ past) pid = (by ≡ pid) ⊎ IsCaused past pid
IsCaused (Began by rendez threshold ∷ past) pid = (by ≢ pid) × IsCaused past pid
IsCaused (effect ∷ past) pid = IsCaused past pid

-- Own: a sleep that ends without notes has such a cause.
abbrev pub EachSleepIsCaused : List Effect → Type 0
EachSleepIsCaused [] = ⊤
EachSleepIsCaused (Left pid None ∷ past) = IsCaused past pid × EachSleepIsCaused past
EachSleepIsCaused (effect ∷ past) = EachSleepIsCaused past
