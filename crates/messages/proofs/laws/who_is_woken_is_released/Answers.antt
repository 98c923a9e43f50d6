-- By the law of all devices, of each wakeup.
use Rattle.messages.proofs.ReleaseLemmas.{grants_release, hangups_release}
use Rattle.messages.proofs.laws.who_is_woken_is_released.Goals as goal

pub returns-clause-granted : goal.returns-clause-granted
returns-clause-granted g c = grants_release g.row.T.Denot

pub returns-clause-hung : goal.returns-clause-hung
returns-clause-hung g c = hangups_release g.row.T.Denot
