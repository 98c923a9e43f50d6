-- By what every run keeps.
use Rattle.sleep_core.proofs.NoLostWakeup.{sleeps_end_for_a_cause}
use Rattle.sleep_core.proofs.laws.sleep_ends_for_a_cause.Goals as goal

pub returns : goal.returns
returns c = sleeps_end_for_a_cause
