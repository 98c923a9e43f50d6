-- The split is the step Divide, which keeps the rule: there is room, and the seat is inside.
use Rattle.std.proofs.Common.{rules}
use Rattle.kernel_lock.proofs.DivideKeeps.{divide_keeps}
use Rattle.kernel_lock.proofs.locked.Locked.divide.Goals as goal

pub split_seat-requires : goal.split_seat-requires
split_seat-requires g c = (
  search rules,
  search rules,
  divide_keeps g.O.Object.definition _ _ _ _ c.requires.inside.1 c.requires.room c.requires.own,
)
