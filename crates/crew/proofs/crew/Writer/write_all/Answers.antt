-- it has written on, and then once more
use Rattle.crew.proofs.WritingLemmas.{then_written}
use Rattle.crew.proofs.crew.Writer.write_all.Goals as goal

pub writing-preserved : goal.writing-preserved
writing-preserved g c =
    then_written c.args.self c.writing.writer c.write_next.new.self c.writing.invariant
    c.write_next.ensures.on

pub returns-clause-on : goal.returns-clause-on
returns-clause-on g c =
    then_written c.args.self c.writing.writer c.write_next.new.self c.writing.invariant
    c.write_next.ensures.on
