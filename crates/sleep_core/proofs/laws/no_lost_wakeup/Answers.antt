-- By induction over the run.
use Rattle.sleep_core.proofs.NoLostWakeup.{no_lost_wakeup_lem, no_lost_wakeup_in_events}
use Rattle.sleep_core.proofs.laws.no_lost_wakeup.Goals as goal

pub returns-clause-runs : goal.returns-clause-runs
returns-clause-runs c = no_lost_wakeup_lem

pub returns-clause-events : goal.returns-clause-events
returns-clause-events c = no_lost_wakeup_in_events
