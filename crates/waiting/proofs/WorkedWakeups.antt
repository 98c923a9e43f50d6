-- Wakeups of a process, and steps that are none, each against one row.
use Rattle.std.proofs.Common.{◌≢◌, ◌≤◌, ◌+◌, ℕ, List, [], ◌∷◌, length, inl, inr, refl, ap, arith}
use mathlib.Core.Option.{some}
use lib.ListN.{get_elem?}
use Rattle.histories.specs.History.{IsPast}
use Rattle.sync_base.specs.declared.ids.RendezId.{RendezId}
use Rattle.rendez_words.specs.declared.view.View.{View}
use Rattle.rendez_words.specs.declared.view.View.TheVariants as view
use Rattle.rendez_words.specs.Process.{Process}
use Rattle.rendez_words.specs.Steps.{raises, finds_nobody}
use Rattle.sleep_wakeup.specs.Calls.{Ends}
use Rattle.sleep_wakeup.specs.Actions.{WakesOne}
use Rattle.waiting.specs.Wakeups.{Wakeup, WakesEach, HasGoneOn}

-- how many steps the process has made
abbrev steps_of : Process → ℕ
steps_of process = length process.trace

abbrev wakeup : ℕ → ℕ → Wakeup
wakeup rendez level = record { rendez = record { 0 = rendez }; level = level }

-- a wakeup is two steps or three
wakes_long : (before : Process) (rendez : RendezId) (level : ℕ) (after : Process)
    → WakesOne before rendez level after → steps_of before + 2 ≤ steps_of after
wakes_long before rendez level after wakes = by wakes.woken.ends
  where
    by : Ends (raises before rendez level) after → steps_of before + 2 ≤ steps_of after
    by (inl nobody) =
        let steps = ap (λ (process : Process). steps_of process) nobody in omega (arith, steps)
    by (inr (sleeper, taken)) =
        let steps = ap (λ (process : Process). steps_of process) taken in omega (arith, steps)

module _ (before : Process) where
  -- process 0, which has made no step
  abbrev first : Process
  first = record before { pid = 0; trace = [] }

  -- it raised the Rendez to this level, and found nobody
  abbrev missed : Process → ℕ → ℕ → Process
  missed process rendez level = finds_nobody (raises process (record { 0 = rendez }) level)

  one_is_woken : WakesEach (wakeup 3 7 ∷ []) first (missed first 3 7)
  one_is_woken =
      record {
        between = first;
        others = refl;
        last = record {
          receipt = record { rendez = record { 0 = 3 }; level = 7 };
          woken = record { ends = inl refl; rendez_is = refl; level_is = refl; receipt = inl refl };
        };
      }

  nobody_is_woken_by_no_step : ¬ WakesEach (wakeup 3 7 ∷ []) before before
  nobody_is_woken_by_no_step wakes =
      let same = ap steps_of wakes.others in
      let long = wakes_long wakes.between (record { 0 = 3 }) 7 before wakes.last in
      omega (arith, same, long)

  one_too_many_is_woken : ¬ WakesEach [] first (missed first 3 7)
  one_too_many_is_woken wakes =
      let steps = ap (λ (process : Process). steps_of process) wakes in cc

  the_second_sleeps_on : ¬ WakesEach (wakeup 3 7 ∷ wakeup 4 7 ∷ []) first (missed first 3 7)
  the_second_sleeps_on wakes =
      let others = wakes.others in
      let same = ap steps_of others.others in
      let earlier = wakes_long others.between (record { 0 = 4 }) 7 wakes.between others.last in
      let later = wakes_long wakes.between (record { 0 = 3 }) 7 (missed first 3 7) wakes.last in
      omega (arith, same, earlier, later)

-- ---- who has gone on since

module _ (views : List View) (process : Process) (gone : HasGoneOn views process) where
  nobody_is_in_its_seat : ¬ (get_elem? views gone.seat ≢ some (view.Process gone.part))
  nobody_is_in_its_seat other = other gone.there

  its_steps_are_forgotten : ¬ ¬ IsPast process.trace gone.part.trace
  its_steps_are_forgotten forgotten = forgotten gone.since
