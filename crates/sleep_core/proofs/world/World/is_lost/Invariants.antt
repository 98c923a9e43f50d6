-- The processes below this one were looked at, and none of them is left asleep.
use Rattle.std.proofs.Common.{◌≡◌, false}
use Rattle.sleep_core.specs.LostWakeup.{oversleeps_below}
use Rattle.sleep_core.proofs.world.World.is_lost.Given as goal

-- nobody that was looked at is left asleep
abbrev pub invariant-loop-pid : goal.invariant-loop-pid
invariant-loop-pid l = oversleeps_below l.self l.pid ≡ false
