-- Each way in which a wakeup may end is shown by its steps, and has its receipt.
use Rattle.std.proofs.Common.{inl, inr, refl}
use Rattle.sleep_wakeup.specs.Broken.{process}
use Rattle.sleep_wakeup.proofs.laws.wakeups_can_be_kept.Goals as goal

pub returns-clause-finds_nobody : goal.returns-clause-finds_nobody
returns-clause-finds_nobody c = λ table. record {
  ends = inl refl;
  rendez_is = refl;
  level_is = refl;
  receipt = inl refl;
}

pub returns-clause-marks_the_sleeper : goal.returns-clause-marks_the_sleeper
returns-clause-marks_the_sleeper c = λ table. record {
  ends = inr (process 1, refl);
  rendez_is = refl;
  level_is = refl;
  receipt = inl refl;
}
