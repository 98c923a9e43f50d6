-- The laws over every run, and over every list of events.
use Rattle.std.specs.Prelude.{◌≡◌, ◌≤◌, ◌⊎◌, ℕ, List, [], length}
use Rattle.sync_base.specs.declared.ids.RendezId.{RendezId}
use Rattle.sleep_core.specs.declared.event.Event.{Event}
use Rattle.sleep_core.specs.declared.phase.Phase.TheVariants as phase
use Rattle.sleep_core.specs.State.{State, IsSound, opening, posted_as}
use Rattle.sleep_core.specs.State.{phase_of, posted_of, returned_of}
use Rattle.sleep_core.specs.Runs.{Entry, IsRun, world_of, own, kept, run_of}
use Rattle.sleep_core.specs.Runs.{world_after_all}
use Rattle.sleep_core.specs.History.{Effect, history_of, HasReturned}
use Rattle.sleep_core.specs.Promises.{LosesWakeup, TakesAreRight, NoMarkIsStray}
use Rattle.sleep_core.specs.Promises.{IsStillIn, HasFallen, AreNotesRight, EachSleepIsCaused}
use Rattle.sleep_core.specs.LostWakeup.{HasLostWakeup}

-- every list of events makes a run, which ends in the world after them
pub record IsRunOf (procs rendez : ℕ) (events : List Event) (past : List Entry) : Type 0 where
  pub run : IsRun procs rendez past
  pub world : world_of procs rendez past ≡ world_after_all (opening procs rendez) events

abbrev pub EventsMakeRuns : Type 0
EventsMakeRuns =
    (procs rendez : ℕ) (events : List Event)
    → IsRunOf procs rendez events (run_of (opening procs rendez) [] events)

-- a world keeps its size, and whatever it names is in it
pub record IsSoundIn (procs rendez : ℕ) (state : State) : Type 0 where
  pub sound : IsSound state
  pub procs_stay : length state.phases ≡ procs
  pub rendez_stay : length state.posted ≡ rendez

abbrev pub RunsAreSound : Type 0
RunsAreSound =
    (procs rendez : ℕ) (past : List Entry)
    → IsRun procs rendez past
    → IsSoundIn procs rendez (world_of procs rendez past)

-- what is promised of a history and of the world in which it ends
pub record IsKept (history : List Effect) (state : State) : Type 0 where
  pub none_lost : ¬ (LosesWakeup history)
  pub takes_right : TakesAreRight history
  pub none_stray : NoMarkIsStray history
  pub notes_right : AreNotesRight history
  pub nobody_oversleeps : ¬ (HasLostWakeup state)

-- for every run, in a world of any size
abbrev pub NoLostWakeup : Type 0
NoLostWakeup =
    (procs rendez : ℕ) (past : List Entry)
    → IsRun procs rendez past
    → IsKept (history_of past) (world_of procs rendez past)

-- for every list of events, in a world of any size
abbrev pub NoLostWakeupInEvents : Type 0
NoLostWakeupInEvents =
    (procs rendez : ℕ) (events : List Event)
    → let past = run_of (opening procs rendez) [] events in
    IsKept (history_of past) (world_after_all (opening procs rendez) events)

-- In every run the word of a Rendez says that a process is posted there if and only if the history
-- says that its sleep there goes on, whatever its phase.
abbrev pub PostedAreStillIn : Type 0
PostedAreStillIn =
    (procs rendez : ℕ) (past : List Entry)
    → IsRun procs rendez past
    → (pid at : ℕ)
    → posted_of (world_of procs rendez past) at ≡ posted_as pid
    → (threshold : ℕ) × IsStillIn (history_of past) pid at threshold

abbrev pub StillInArePosted : Type 0
StillInArePosted =
    (procs rendez : ℕ) (past : List Entry)
    → IsRun procs rendez past
    → (pid at threshold : ℕ)
    → IsStillIn (history_of past) pid at threshold
    → posted_of (world_of procs rendez past) at ≡ posted_as pid

-- a process that is asleep with a threshold and posted has fallen asleep with it in the history
abbrev pub AsleepHaveFallen : Type 0
AsleepHaveFallen =
    (procs rendez : ℕ) (past : List Entry)
    → IsRun procs rendez past
    → (pid : ℕ) (at : RendezId) (threshold : ℕ)
    → phase_of (world_of procs rendez past) pid ≡ phase.Asleep at threshold
    → posted_of (world_of procs rendez past) at.0 ≡ posted_as pid
    → HasFallen (history_of past) pid at.0 threshold

-- the level is the greatest with which a wakeup of the Rendez has returned, or 0 where none has
-- returned
pub record IsGreatestReturned (history : List Effect) (rendez level : ℕ) : Type 0 where
  pub bound : (other : ℕ) → HasReturned history rendez other → other ≤ level
  pub reached : (level ≡ 0) ⊎ HasReturned history rendez level

abbrev pub ReturnedIsGreatest : Type 0
ReturnedIsGreatest =
    (procs rendez : ℕ) (past : List Entry)
    → IsRun procs rendez past
    → (at : ℕ)
    → IsGreatestReturned (history_of past) at (returned_of (world_of procs rendez past) at)

-- The receipt of a wakeup: its level is at most the returned level of its Rendez, and no process
-- that is asleep with a threshold below it is still posted.
pub record ReleasesBelow (state : State) (rendez : RendezId) (level : ℕ) : Type 0 where
  pub counted : level ≤ returned_of state rendez.0
  pub released : (pid threshold : ℕ)
      → phase_of state pid ≡ phase.Asleep rendez threshold
      → posted_of state rendez.0 ≡ posted_as pid
      → level ≤ threshold

abbrev pub ReturnedWakeupReleases : Type 0
ReturnedWakeupReleases =
    (procs rendez : ℕ) (past : List Entry)
    → IsRun procs rendez past
    → (at : RendezId) (level : ℕ)
    → HasReturned (history_of past) at.0 level
    → ReleasesBelow (world_of procs rendez past) at level

-- the receipt is in the raiser's own events
abbrev pub ReturnsByOwnEvents : Type 0
ReturnsByOwnEvents =
    (procs rendez : ℕ) (past : List Entry)
    → IsRun procs rendez past
    → (pid at level : ℕ)
    → HasReturned (history_of (own pid past)) at level
    → HasReturned (history_of past) at level

-- events that are not kept of a run show nothing in its history
abbrev pub HistoryByKeptEvents : Type 0
HistoryByKeptEvents = (past : List Entry) → history_of (kept past) ≡ history_of past

-- so the receipt is in the kept part of the raiser's own events
abbrev pub ReturnsByKeptEvents : Type 0
ReturnsByKeptEvents =
    (procs rendez : ℕ) (past : List Entry)
    → IsRun procs rendez past
    → (pid at level : ℕ)
    → HasReturned (history_of (kept (own pid past))) at level
    → HasReturned (history_of past) at level

-- a sleep that ends without notes ended because its test passed or a look found the mark
abbrev pub SleepsEndForACause : Type 0
SleepsEndForACause =
    (procs rendez : ℕ) (past : List Entry)
    → IsRun procs rendez past
    → EachSleepIsCaused (history_of past)
