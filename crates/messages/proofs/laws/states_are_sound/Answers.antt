-- By what each call keeps.
use Rattle.messages.proofs.LawLemmas.{history_keeps}
use Rattle.messages.proofs.laws.states_are_sound.Goals as goal

pub returns : goal.returns
returns g c capacity handles past legal = (history_keeps capacity handles past legal).sound
