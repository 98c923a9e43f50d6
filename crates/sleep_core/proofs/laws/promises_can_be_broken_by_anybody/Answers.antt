-- By computing what each history says: the wakeup is the newest that the raiser began.
use Rattle.std.proofs.Common.{◌≡◌, inl, refl, ap, sym, ◌∙◌, Some, []}
use Rattle.std.proofs.lemmas.Option.{same_Some}
use Rattle.sleep_core.specs.Broken.{falls_asleep_in}
use Rattle.sleep_core.specs.Table.{Wakeup}
use Rattle.sleep_core.proofs.NewestWakeup.{has_begun, owes}
use Rattle.sleep_core.proofs.laws.promises_can_be_broken_by_anybody.Goals as goal

pub returns-clause-overlooks : goal.returns-clause-overlooks
returns-clause-overlooks c sleeper raiser rendez threshold level above =
    record {
      pid = sleeper;
      rendez = rendez;
      threshold = threshold;
      level = level;
      fell = inl (refl, inl (refl, refl, refl));
      returned = inl (has_begun raiser rendez level
          (falls_asleep_in sleeper rendez threshold));
      is_above = above;
    }

pub returns-clause-test_misses : goal.returns-clause-test_misses
returns-clause-test_misses c sleeper raiser rendez threshold level above =
    record {
      pid = sleeper;
      rendez = rendez;
      threshold = threshold;
      level = level;
      fell = inl (refl, inl (refl, refl, refl));
      returned = inl (has_begun raiser rendez level []);
      is_above = above;
    }

-- the sleep goes on in the Rendez of the wakeup
pub returns-clause-misses : goal.returns-clause-misses
returns-clause-misses c sleeper raiser rendez threshold level right =
    let begun : Wakeup = record { rendez = rendez; level = level } in
    let owed : Some begun ≡ Some right.0.wakeup =
    sym (owes raiser rendez level (falls_asleep_in sleeper rendez threshold)) ∙ right.0.owed in
    right.0.free sleeper threshold
    (inl (refl, ap (λ (w : Wakeup). w.rendez) (same_Some begun right.0.wakeup owed), refl))
