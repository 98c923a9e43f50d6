-- what was accepted so far is counted, and nothing was refused or hung up; a message less is left
-- with each turn
use Rattle.std.proofs.Common.{◌≡◌, ◌-◌, length}
use Rattle.std.specs.Prelude.{None}
use Rattle.example_headline.specs.Crew.{HasWrittenOn, IsClearWriter}
use Rattle.example_headline.proofs.writer.Writer.write_all.Given as goal

abbrev pub invariant-writing : goal.invariant-writing
invariant-writing g l =
    record {
      on : HasWrittenOn l.fn.self l.self;
      none : l.self.refused ≡ None;
      clear : IsClearWriter l.fn.self → IsClearWriter l.self;
    }

abbrev pub decreases-writing : goal.decreases-writing
decreases-writing g l = length l.self.messages.items - l.self.accepted
