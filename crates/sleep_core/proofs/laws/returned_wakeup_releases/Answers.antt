-- By what every run keeps, and by induction over the run.
use Rattle.sleep_core.proofs.NoLostWakeup.{returned_wakeup_releases}
use Rattle.sleep_core.proofs.OwnWakeups.{returns_by_own_events}
use Rattle.sleep_core.proofs.KeptHistory.{returns_by_kept_events}
use Rattle.sleep_core.proofs.laws.returned_wakeup_releases.Goals as goal

pub returns-clause-releases : goal.returns-clause-releases
returns-clause-releases c = returned_wakeup_releases

pub returns-clause-own : goal.returns-clause-own
returns-clause-own c = returns_by_own_events

pub returns-clause-kept : goal.returns-clause-kept
returns-clause-kept c = returns_by_kept_events
