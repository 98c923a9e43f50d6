-- The wakeup that took the sleeper is the newest that the raiser began.
use Rattle.std.proofs.Common.{inl, refl}
use Rattle.sleep_core.specs.Broken.{falls_asleep_in}
use Rattle.sleep_core.proofs.NewestWakeup.{owes}
use Rattle.sleep_core.proofs.laws.promises_can_be_kept_by_anybody.Goals as goal

pub returns-clause-takes_right : goal.returns-clause-takes_right
returns-clause-takes_right c sleeper raiser rendez threshold level = (
  record {
    wakeup = record { rendez = rendez; level = level };
    owed = owes raiser rendez level (falls_asleep_in sleeper rendez threshold);
    threshold = threshold;
    still_in = inl (refl, refl, refl);
  },
  tt,
)
