-- A seat has its own steps of the run, and of a pid to come the run has none.
use Rattle.rendez_words.proofs.LawLemmas.{seats_know, pids_unused, receipts_release}
use Rattle.rendez_words.proofs.laws.seats_know_their_own.Goals as goal

pub returns-clause-phases : goal.returns-clause-phases
returns-clause-phases c = seats_know

pub returns-clause-pids : goal.returns-clause-pids
returns-clause-pids c = pids_unused

pub returns-clause-receipts : goal.returns-clause-receipts
returns-clause-receipts c = receipts_release
