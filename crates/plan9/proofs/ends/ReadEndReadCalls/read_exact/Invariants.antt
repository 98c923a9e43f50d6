-- some pieces were read, one after the other, and lie in the buffer
use Rattle.plan9.specs.Callers.{reader}
use Rattle.plan9.specs.Readings.{filling}
use Rattle.plan9.proofs.ReadingLemmas.{SoFar}
use Rattle.plan9.proofs.ends.ReadEndReadCalls.read_exact.Given as goal

abbrev pub invariant-reading : goal.invariant-reading
invariant-reading g l =
    record {
      so_far : SoFar (filling (reader l.initial.self l.initial.proc) l.initial.buffer 0)
          (filling (reader l.self l.proc) l.buffer l.count);
    }
