-- The load is the step Enter, which keeps the rule.
use Rattle.std.proofs.Common.{rules}
use Rattle.kernel_lock.proofs.EnterKeeps.{enter_keeps}
use Rattle.kernel_lock.proofs.locked.Locked.enter.Goals as goal

pub load-requires : goal.load-requires
load-requires g c =
    (search rules, search rules, enter_keeps g.O.Object.definition _ _ _ _ _ c.requires.due)
