-- By computing what each history says.
use Rattle.std.proofs.Common.{◌≡◌, inl, inr, ℕ, refl}
use Rattle.sleep_core.specs.Promises.{IsStillIn}
use Rattle.sleep_core.specs.Broken.{falls_asleep}
use Rattle.sleep_core.proofs.laws.promises_can_be_kept.Goals as goal

-- the sleeper is in its sleep on the Rendez of the wakeup
pub returns-clause-takes : goal.returns-clause-takes
returns-clause-takes c = (
  record {
    wakeup = record { rendez = 0; level = 1 };
    owed = refl;
    threshold = 0;
    still_in = inl (refl, refl, refl);
  },
  tt,
)

-- nobody's sleep goes on there, since the only sleeper withdrew
pub returns-clause-misses : goal.returns-clause-misses
returns-clause-misses c = (
  record {
    wakeup = record { rendez = 0; level = 1 };
    owed = refl;
    free = λ other threshold still. gone other threshold still.0 still.1;
  },
  tt,
)
  where
    -- whoever fell asleep is the one that withdrew
    gone : (other threshold : ℕ) → (0 ≡ other → ⊥) → IsStillIn falls_asleep other 0 threshold → ⊥
    gone other threshold differ (inl same) = differ same.0
    gone other threshold differ (inr none) = none
