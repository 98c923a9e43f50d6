-- The exchange is the step Acquire, which keeps the rule.
use Rattle.std.proofs.Common.{rules}
use Rattle.kernel_lock.proofs.AcquireKeeps.{acquire_keeps}
use Rattle.kernel_lock.proofs.locked.Locked.acquire.Goals as goal

pub compare_exchange-found-requires : goal.compare_exchange-found-requires
compare_exchange-found-requires g c =
    (search rules, search rules, acquire_keeps g.O.Object.definition _ _ _ _ c.requires.key)
