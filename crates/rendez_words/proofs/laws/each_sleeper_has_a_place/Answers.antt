-- What threads did is a run of the core, and in each run a sleeper is in just one place.
use Rattle.rendez_words.proofs.LawLemmas.{sleepers_have_places}
use Rattle.rendez_words.proofs.laws.each_sleeper_has_a_place.Goals as goal

pub returns : goal.returns
returns c = sleepers_have_places
