-- What holds of the words and of what the seats know, between any two steps.
use Rattle.std.specs.Prelude.{◌≡◌, ◌≤◌, ℕ, []}
use mathlib.Core.Option.{some}
use lib.ListN.{get_elem?}
use Rattle.atomic_table.specs.Table as table
use Rattle.sync_base.specs.declared.ids.RendezId.{RendezId}
use Rattle.sleep_core.specs.State.{State, phase_of}
use Rattle.sleep_core.specs.Runs.{world_of, own, phase_by}
use Rattle.sleep_core.specs.History.{history_of, HasReturned}
use Rattle.sleep_core.specs.Laws.{IsKept, ReleasesBelow}
use Rattle.sleep_core.specs.Promises.{EachSleepIsCaused}
use Rattle.sleep_core.specs.SleepPlaces.{IsInSleep, IsInOnePlace, IsAt, Place, WordsAgree}
use Rattle.rendez_words.specs.declared.view.Part.{Part}
use Rattle.rendez_words.specs.declared.view.Sizes.{Sizes}
use Rattle.rendez_words.specs.declared.view.View.{View}
use Rattle.rendez_words.specs.declared.view.View.TheVariants as view
use Rattle.rendez_words.specs.Rule.{ShowsCore}

-- What is promised of every run of the core holds of the steps of running threads.
pub record KeepsPromises (sizes : Sizes) (s : table.State (Unit {0}) View)
    (shows : ShowsCore sizes s) : Type 0 where
  pub kept : IsKept (history_of shows.run) (world_of sizes.procs sizes.rendez shows.run)
  pub caused : EachSleepIsCaused (history_of shows.run)

abbrev pub ThreadsKeepPromises : Type 0
ThreadsKeepPromises =
    (sizes : Sizes) (s : table.State (Unit {0}) View) (shows : ShowsCore sizes s)
    → KeepsPromises sizes s shows

-- The rule in words: a process whose sleep is not over is posted, or held by one raiser, or marked,
-- or has withdrawn itself, and exactly one of these; no other process is any of them.
pub record AreInPlaces (state : State) : Type 0 where
  pub sleepers : (pid : ℕ) → IsInSleep (phase_of state pid) → IsInOnePlace state pid
  pub others : (pid : ℕ) → ¬ (IsInSleep (phase_of state pid)) → (place : Place)
      → ¬ (IsAt state pid place)
  pub words : WordsAgree state

abbrev pub EachSleeperHasAPlace : Type 0
EachSleeperHasAPlace =
    (sizes : Sizes) (s : table.State (Unit {0}) View) (shows : ShowsCore sizes s)
    → AreInPlaces (world_of sizes.procs sizes.rendez shows.run)

-- the steps of a seat give the phase of its process
abbrev pub SeatsKnowPhases : Type 0
SeatsKnowPhases =
    (sizes : Sizes) (s : table.State (Unit {0}) View) (shows : ShowsCore sizes s)
    → (seat : ℕ) (part : Part)
    → get_elem? s.views seat ≡ some (view.Process part)
    → phase_of (world_of sizes.procs sizes.rendez shows.run) part.pid ≡ phase_by part.trace

-- a pid that was not given has made no step
abbrev pub PidsToComeAreUnused : Type 0
PidsToComeAreUnused =
    (sizes : Sizes) (s : table.State (Unit {0}) View) (shows : ShowsCore sizes s)
    → (seat next pid : ℕ)
    → get_elem? s.views seat ≡ some (view.Pids next)
    → next ≤ pid
    → own pid shows.run ≡ []

-- A receipt in the steps of a seat releases every sleeper below its level.
abbrev pub ReceiptsRelease : Type 0
ReceiptsRelease =
    (sizes : Sizes) (s : table.State (Unit {0}) View) (shows : ShowsCore sizes s)
    → (seat : ℕ) (part : Part) (rendez : RendezId) (level : ℕ)
    → get_elem? s.views seat ≡ some (view.Process part)
    → HasReturned (history_of part.trace) rendez.0 level
    → ReleasesBelow (world_of sizes.procs sizes.rendez shows.run) rendez level
