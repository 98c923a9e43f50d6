-- The wakeups that a call makes, and that no wakeup of a call that has returned is lost.
use Rattle.std.specs.Prelude.{◌≡◌, ℕ, List, [], ◌∷◌}
use Rattle.std.specs.List.{AllByRecursion}
use mathlib.Core.Option.{some}
use lib.ListN.{get_elem?}
use Rattle.histories.specs.History.{IsPast}
use Rattle.sync_base.specs.declared.ids.RendezId.{RendezId}
use Rattle.sleep_core.specs.Laws.{ReleasesBelow}
use Rattle.sleep_core.specs.Runs.{world_of}
use Rattle.rendez_words.specs.declared.view.Sizes.{Sizes}
use Rattle.rendez_words.specs.declared.view.View.{View}
use Rattle.rendez_words.specs.declared.view.View.TheVariants as view
use Rattle.rendez_words.specs.declared.view.Part as seated
use Rattle.rendez_words.specs.Process.{Process}
use Rattle.rendez_words.specs.Rule.{ShowsCore}
use Rattle.sleep_wakeup.specs.Actions.{WakesOne}

-- a wakeup that a call owes: of this Rendez, with this level
pub record Wakeup : Type 0 where
  pub rendez : RendezId
  pub level : ℕ

-- one more wakeup
pub record WakesToo (Before : Process → Type 0) (wakeup : Wakeup) (after : Process) : Type 0 where
  pub between : Process
  pub others : Before between
  pub last : WakesOne between wakeup.rendez wakeup.level after

-- the process made just these wakeups, the newest first
abbrev pub WakesEach : List Wakeup → Process → Process → Type 0
WakesEach [] before after = after ≡ before
WakesEach (wakeup ∷ others) before after = WakesToo (WakesEach others before) wakeup after

-- between any two steps of running threads, the process of these steps has a seat and has gone on
pub record HasGoneOn (views : List View) (process : Process) : Type 0 where
  pub seat : ℕ
  pub part : seated.Part
  pub there : get_elem? views seat ≡ some (view.Process part)
  pub since : IsPast process.trace part.trace

-- No wakeup is lost, at whatever device: a process that fell asleep on one of these Rendez below
-- its level is no longer posted there, once the call that woke it has returned.
abbrev pub ReturnedCallsRelease : Type 0
ReturnedCallsRelease =
    (sizes : Sizes) (s : _) (shows : ShowsCore sizes s)
    → (wakeups : List Wakeup) (before after : Process)
    → WakesEach wakeups before after → HasGoneOn s.views after
    → AllByRecursion (λ wakeup.
    ReleasesBelow (world_of sizes.procs sizes.rendez shows.run) wakeup.rendez wakeup.level)
    wakeups
