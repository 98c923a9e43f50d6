-- Whoever a call of a queue wakes is released, by the law of all devices.
use Rattle.std.proofs.Common.{◌≡◌, ◌≢◌, ◌⊎◌, ◌<◌, inl, inr, ℕ, zero, suc, List, [], ◌∷◌, refl, sym}
use Rattle.std.proofs.Common.{subst, arith}
use Rattle.std.specs.List.{AllByRecursion}
use Rattle.rendez_words.specs.Process.{Process}
use Rattle.sleep_core.specs.Laws.{ReleasesBelow}
use Rattle.sleep_core.specs.Runs.{world_of}
use Rattle.waiting.proofs.Cases.{same_or_not}
use Rattle.waiting.proofs.WakeupLemmas.{returned_release}
use Rattle.waiting.specs.Wakeups.{Wakeup, WakesEach}
use Rattle.messages.specs.declared.channel.Channel.{Channel}
use Rattle.messages.specs.Handles.{rendez_of_place}
use Rattle.messages.specs.WakeLaws.{GrantsRelease, HangupsRelease}
use Rattle.messages.specs.Waking.{WakesAll}

-- who is granted something is released when the call that woke it has returned
pub grants_release : (T : Type 0) → GrantsRelease T
grants_release T sizes s shows channel wake before after woken gone =
    (returned_release sizes s shows
    (record { rendez = rendez_of_place channel wake.place; level = wake.number } ∷ []) before after
    (record { between = before; others = refl; last = woken }) gone).0

module _ {T : Type 0} (channel : Channel T) (number : ℕ) where
  -- the wakeups of a hangup, the newest first
  abbrev wakeups : ℕ → List Wakeup
  wakeups zero = []
  wakeups (suc count) =
      record { rendez = rendez_of_place channel count; level = number } ∷ wakeups count

  wakes_each : (count : ℕ) (before after : Process) → WakesAll channel count number before after
      → WakesEach (wakeups count) before after
  wakes_each zero before after same = same
  wakes_each (suc count) before after woken =
      record {
        between = woken.between;
        others = wakes_each count before woken.between woken.others;
        last = woken.last;
      }

  one_of : (Holds : Wakeup → Type 0) (count seat : ℕ) → seat < count
      → AllByRecursion Holds (wakeups count)
      → Holds (record { rendez = rendez_of_place channel seat; level = number })
  one_of Holds zero seat below all = absurd (omega (arith, below))
  one_of Holds (suc count) seat below all =
      by (same_or_not seat count) (one_of Holds count seat)
    where
      by : (seat ≡ count) ⊎ (seat ≢ count)
          → (seat < count → AllByRecursion Holds (wakeups count)
          → Holds (record { rendez = rendez_of_place channel seat; level = number }))
          → Holds (record { rendez = rendez_of_place channel seat; level = number })
      by (inl same) others =
          subst (λ n. Holds (record { rendez = rendez_of_place channel n; level = number }))
          (sym same) all.0
      by (inr other) others = others (omega (arith, below, other)) all.1

-- whoever waits is released when the hangup has returned
pub hangups_release : (T : Type 0) → HangupsRelease T
hangups_release T sizes s shows channel count number before after woken gone seat below =
    one_of channel number
    (λ wakeup. ReleasesBelow (world_of sizes.procs sizes.rendez shows.run) wakeup.rendez
    wakeup.level) count seat below
    (returned_release sizes s shows (wakeups channel number count) before after
    (wakes_each channel number count before after woken) gone)
