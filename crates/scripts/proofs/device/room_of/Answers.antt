-- The room is as long as it was asked for.
use Rattle.scripts.proofs.device.room_of.Goals as goal

pub returns : goal.returns
returns c = c.from_elem.ensures.len
