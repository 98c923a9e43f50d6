-- each step of the object is answered as the history allows, and keeps what it then says
use Rattle.tag_space.proofs.SpaceLemmas.{objects_are_spaces}
use Rattle.tag_space.proofs.laws.objects_are_spaces.Goals as goal

pub returns : goal.returns
returns c = objects_are_spaces
