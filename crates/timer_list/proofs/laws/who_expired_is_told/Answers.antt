-- The note came, and whoever is told of notes is told of all that are pending.
use Rattle.timer_list.proofs.NoteLemmas.{ticking_tells}
use Rattle.timer_list.proofs.laws.who_expired_is_told.Goals as goal

pub returns : goal.returns
returns c = ticking_tells
