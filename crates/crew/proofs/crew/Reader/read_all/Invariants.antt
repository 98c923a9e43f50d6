-- it counts what the same writers write, all the while
use Rattle.crew.specs.Tally.{AreOfOneRun}
use Rattle.crew.proofs.crew.Reader.read_all.Given as goal

abbrev pub invariant-reading : goal.invariant-reading
invariant-reading g l = AreOfOneRun l.fn.self.tally l.tally
