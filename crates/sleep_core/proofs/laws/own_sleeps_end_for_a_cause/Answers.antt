-- By the cause of each sleep of the run.
use Rattle.sleep_core.proofs.OwnCauses.{own_sleeps_end_for_a_cause}
use Rattle.sleep_core.proofs.laws.own_sleeps_end_for_a_cause.Goals as goal

pub returns : goal.returns
returns c = own_sleeps_end_for_a_cause
