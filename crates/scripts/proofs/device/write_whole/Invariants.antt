-- What was written and what is left are all the bytes.
use Rattle.scripts.proofs.DeviceLemmas.{IsWriting}
use Rattle.scripts.proofs.device.write_whole.Given as goal

abbrev pub invariant-loop : goal.invariant-loop
invariant-loop g l =
    IsWriting (g.W.Write.contents l.fn.writer) (g.W.Write.contents l.writer) l.fn.bytes l.rest
