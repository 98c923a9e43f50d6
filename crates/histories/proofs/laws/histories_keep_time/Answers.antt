-- An entry of a number was not in the history before its seat had made it, and of two pasts the
-- shorter is a past of the longer.
use Rattle.histories.proofs.TimeLemmas.{keeps_time}
use Rattle.histories.proofs.laws.histories_keep_time.Goals as goal

pub returns : goal.returns
returns g c = λ by account_of first last begun ended at_first at_last stays.
    keeps_time by account_of first last begun ended at_first at_last stays
