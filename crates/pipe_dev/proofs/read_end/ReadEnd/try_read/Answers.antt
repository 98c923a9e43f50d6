-- No request of a read is refused.
use Rattle.pipe_dev.proofs.read_end.ReadEnd.try_read.Goals as goal

pub unreachable-requires : goal.unreachable-requires
unreachable-requires c = c.in-Refused.ensures.asked
