-- some empty writes were passed, and no fault came
use Rattle.std.proofs.Common.{◌≡◌}
use Rattle.plan9.specs.Streams.{lent}
use Rattle.plan9.proofs.StreamLemmas.{Passed}
use Rattle.plan9.proofs.streams.ReadStreamRead.read.Given as goal

abbrev pub invariant-reading : goal.invariant-reading
invariant-reading g l =
    record {
      so_far : Passed (lent l.initial.self.end l.initial.self.proc l.initial.buf)
          (lent l.self.end l.self.proc l.buf);
      kept : l.self.fault ≡ l.initial.self.fault;
    }
