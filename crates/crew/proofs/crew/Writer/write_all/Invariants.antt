-- it has written on, and a message less is left with each turn
use Rattle.std.proofs.Common.{◌-◌}
use Rattle.crew.specs.Writing.{HasWrittenOn}
use Rattle.crew.proofs.crew.Writer.write_all.Given as goal

abbrev pub invariant-writing : goal.invariant-writing
invariant-writing g l = HasWrittenOn l.fn.self l.writer

abbrev pub decreases-writing : goal.decreases-writing
decreases-writing g l = l.writer.writes - l.writer.done
