-- A number that was given is told by the seat of a lower one, and so down to 0: nobody else has
-- one.
use Rattle.histories.proofs.AloneLemmas.{has_every_number, no_other_has_one, knows_whole}
use Rattle.histories.proofs.laws.all_numbers_know_all.Goals as goal

pub returns-clause-every : goal.returns-clause-every
returns-clause-every g c = λ by ledger accounts seat account is number below.
    has_every_number by (λ its.
    its) ledger accounts is.seats seat account is.there is.all number below

pub returns-clause-alone : goal.returns-clause-alone
returns-clause-alone g c = λ by ledger accounts seat account is place other apart there.
    no_other_has_one by (λ its.
    its) ledger accounts is.seats seat account is.there is.all place other
    apart there

pub returns-clause-whole : goal.returns-clause-whole
returns-clause-whole g c = λ by ledger accounts seat account is.
    knows_whole by (λ its. its) ledger accounts is.seats seat account is.there is.all
