-- what was read so far is kept, and nothing was refused or hung up
use Rattle.std.proofs.Common.{◌≡◌}
use Rattle.std.specs.Prelude.{None}
use Rattle.example_headline.specs.Crew.{HasReadOn, IsClearReader}
use Rattle.example_headline.proofs.reader.Reader.read_all.Given as goal

abbrev pub invariant-reading : goal.invariant-reading
invariant-reading g l =
    record {
      on : HasReadOn l.fn.self l.self;
      none : l.self.stopped ≡ None;
      clear : IsClearReader l.fn.self → IsClearReader l.self;
    }
