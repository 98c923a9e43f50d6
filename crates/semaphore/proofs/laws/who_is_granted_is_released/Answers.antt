-- By the law of all devices, of each wakeup; and by the counts of grants.
use Rattle.semaphore.proofs.WokenLemmas.{releasing_releases, waiters_above}
use Rattle.semaphore.proofs.laws.who_is_granted_is_released.Goals as goal

pub returns-clause-released : goal.returns-clause-released
returns-clause-released c = releasing_releases

pub returns-clause-above : goal.returns-clause-above
returns-clause-above c = waiters_above
