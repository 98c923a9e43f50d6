-- the entries of the table are the calls that wait, tags rising, so they are what is lent
use Rattle.tag_space.proofs.group_object.GroupObject.waiting.Goals as goal

-- the entries of the table are the calls that wait
pub returns : goal.returns
returns c = rw (← c.self.view_is, c.as_slice.ensures) c.self.invariant.entries
