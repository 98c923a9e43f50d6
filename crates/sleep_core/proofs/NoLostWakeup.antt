-- What follows from what every run keeps: the laws.
use Rattle.std.proofs.Common.{◌≡◌, ◌≤◌, ◌+◌, ℕ, List, [], ◌∷◌, refl, subst, arith}
use Rattle.sleep_core.specs.declared.event.Event.{Event}
use Rattle.sleep_core.specs.declared.event.Event.TheVariants.{Note}
use Rattle.sleep_core.specs.declared.phase.Phase.{Phase}
use Rattle.sleep_core.specs.declared.phase.Phase.TheVariants as phase
use Rattle.sleep_core.specs.State.{State, opening, phase_of, posted_of}
use Rattle.sleep_core.specs.Table.{pid_of}
use Rattle.sleep_core.specs.Runs.{Entry, IsMadeBy, IsRun, world_of, entry_of, run_of}
use Rattle.sleep_core.specs.Runs.{world_after_all}
use Rattle.sleep_core.specs.History.{Effect, history_of}
use Rattle.sleep_core.specs.Promises.{LosesWakeup, TakesAreRight}
use Rattle.sleep_core.specs.LostWakeup.{Oversleeps}
use Rattle.sleep_core.specs.Laws.{IsKept, NoLostWakeup, NoLostWakeupInEvents, EventsMakeRuns}
use Rattle.sleep_core.specs.Laws.{ReturnedWakeupReleases, SleepsEndForACause, RunsAreSound}
use Rattle.sleep_core.proofs.SizeLemmas.{size_of_run}
use Rattle.sleep_core.proofs.CoreInvariant.{Core}
use Rattle.sleep_core.proofs.CoreRuns.{core_of_run, fallen_at}
use Rattle.sleep_core.proofs.TakesKept.{takes_are_right}

-- nobody oversleeps
nobody_oversleeps_in : (s : State) (h : List Effect) (pid : ℕ) (stage : Phase) → Core s h
    → phase_of s pid ≡ stage → Oversleeps s pid stage → ⊥
nobody_oversleeps_in s h pid (phase.Asleep rendez threshold) core at left =
    let low = core.fallen pid rendez.0 threshold (fallen_at s h pid rendez threshold core at left.0)
    in
    omega (arith, left.1)
nobody_oversleeps_in s h pid stage core at left = absurd left

kept_by_core : (s : State) (h : List Effect) → Core s h → TakesAreRight h → IsKept h s
kept_by_core s h core right =
    record {
      none_lost = λ lost. not_lost lost;
      takes_right = right;
      none_stray = core.marks_due;
      notes_right = core.notes_right;
      nobody_oversleeps = λ lost. nobody_oversleeps_in s h lost.0 (phase_of s lost.0) core refl
          lost.2;
    }
  where
    not_lost : LosesWakeup h → ⊥
    not_lost lost =
        let seen = core.returned lost.rendez lost.level lost.returned in
        let bound = core.fallen lost.pid lost.rendez lost.threshold lost.fell in
        let above = lost.is_above in
        omega arith

-- the law, over runs
pub no_lost_wakeup_lem : NoLostWakeup
no_lost_wakeup_lem procs rendez past run =
    kept_by_core (world_of procs rendez past) (history_of past) (core_of_run procs rendez past run)
    (takes_are_right procs rendez past run)

-- each event is made by the process that it names
made_by_itself : (event : Event) → IsMadeBy (pid_of event).0 event
made_by_itself (Note pid new) = tt
made_by_itself event = refl

run_of-run : (procs rendez : ℕ) (past : List Entry) (events : List Event) → IsRun procs rendez past
    → IsRun procs rendez (run_of (world_of procs rendez past) past events)
run_of-run procs rendez past [] run = run
run_of-run procs rendez past (event ∷ events) run =
    run_of-run procs rendez (entry_of (world_of procs rendez past) event ∷ past) events
    (run, record { made = made_by_itself event; answered = refl })

world_of-run_of : (procs rendez : ℕ) (past : List Entry) (events : List Event)
    → world_of procs rendez (run_of (world_of procs rendez past) past events)
    ≡ world_after_all (world_of procs rendez past) events
world_of-run_of procs rendez past [] = refl
world_of-run_of procs rendez past (event ∷ events) =
    world_of-run_of procs rendez (entry_of (world_of procs rendez past) event ∷ past) events

-- every list of events makes a run, which ends in the world after them
pub events_make_runs : EventsMakeRuns
events_make_runs procs rendez events =
    record {
      run = run_of-run procs rendez [] events tt;
      world = world_of-run_of procs rendez [] events;
    }

-- the law, over lists of events
pub no_lost_wakeup_in_events : NoLostWakeupInEvents
no_lost_wakeup_in_events procs rendez events =
    let past = run_of (opening procs rendez) [] events in
    subst (IsKept (history_of past)) (events_make_runs procs rendez events).world
    (no_lost_wakeup_lem procs rendez past (events_make_runs procs rendez events).run)

-- a wakeup that has returned leaves nobody posted who is asleep below its level
pub returned_wakeup_releases : ReturnedWakeupReleases
returned_wakeup_releases procs rendez past run of level returned =
    record {
      counted = core.returned of.0 level returned;
      released = below;
    }
  where
    core : Core (world_of procs rendez past) (history_of past)
    core = core_of_run procs rendez past run

    below : (pid own_threshold : ℕ)
        → phase_of (world_of procs rendez past) pid ≡ phase.Asleep of own_threshold
        → posted_of (world_of procs rendez past) of.0 ≡ pid + 1 → level ≤ own_threshold
    below pid own_threshold at posted =
        let fell = fallen_at (world_of procs rendez past) (history_of past) pid of own_threshold
        core at
        posted in
        omega (arith, core.returned of.0 level returned, core.fallen pid of.0 own_threshold fell)

-- each sleep that ends without notes has a cause
pub sleeps_end_for_a_cause : SleepsEndForACause
sleeps_end_for_a_cause procs rendez past run = (core_of_run procs rendez past run).caused

-- a world keeps its size, and whatever it names is there
pub runs_are_sound : RunsAreSound
runs_are_sound procs rendez past run =
    record {
      sound = (core_of_run procs rendez past run).sound;
      procs_stay = (size_of_run procs rendez past).phases;
      rendez_stay = (size_of_run procs rendez past).posted;
    }
