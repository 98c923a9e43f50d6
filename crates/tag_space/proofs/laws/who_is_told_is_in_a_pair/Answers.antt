-- who finds a call makes the pair with it, and who was found is told of that pair
use Rattle.tag_space.proofs.PartnerLemmas.{found_is_in_pair, told_is_in_pair}
use Rattle.tag_space.proofs.laws.who_is_told_is_in_a_pair.Goals as goal

pub returns-clause-found : goal.returns-clause-found
returns-clause-found c = found_is_in_pair

pub returns-clause-told : goal.returns-clause-told
returns-clause-told c = told_is_in_pair
