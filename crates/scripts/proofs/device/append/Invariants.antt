-- What was copied and what is left are all the bytes.
use Rattle.std.proofs.Common.{◌≡◌, ◌++◌, length}
use Rattle.scripts.proofs.device.append.Given as goal

-- what was copied stands there, and the rest is left
abbrev pub invariant-loop-rest : goal.invariant-loop-rest
invariant-loop-rest l = l.bytes.items ++ l.rest ≡ l.fn.bytes.items ++ l.fn.more

abbrev pub decreases-loop-rest : goal.decreases-loop-rest
decreases-loop-rest l = length l.rest
