-- By induction over the run.
use Rattle.sleep_core.proofs.OwnEvents.{phase_by-own, phase_by-kept_own}
use Rattle.sleep_core.proofs.laws.phase_by_own_events.Goals as goal

pub returns-clause-all : goal.returns-clause-all
returns-clause-all c = phase_by-own

pub returns-clause-kept : goal.returns-clause-kept
returns-clause-kept c = phase_by-kept_own
