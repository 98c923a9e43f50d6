-- A flush that was interrupted has written nothing, so the writer has what it had.
use Rattle.std.specs.Io.KnownBytes.{Keeps}
use Rattle.scripts.proofs.device.flush.Given as goal

-- nothing is written
abbrev pub invariant-loop : goal.invariant-loop
invariant-loop g l = Keeps (g.W.Write.contents l.fn.writer) (g.W.Write.contents l.writer)
