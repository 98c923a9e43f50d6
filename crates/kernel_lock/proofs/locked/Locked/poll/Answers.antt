-- A look changes nothing.
use Rattle.std.proofs.Common.{rules}
use Rattle.kernel_lock.proofs.PollKeeps.{poll_keeps}
use Rattle.kernel_lock.proofs.locked.Locked.poll.Goals as goal

pub load-requires : goal.load-requires
load-requires g c =
    (search rules, search rules, poll_keeps g.O.Object.definition _ _ _ _)
