-- By what each call keeps.
use Rattle.messages.proofs.LawLemmas.{history_keeps}
use Rattle.messages.proofs.laws.first_in_first_out.Goals as goal

pub returns : goal.returns
returns g c capacity handles past legal = (history_keeps capacity handles past legal).order
