-- The run of a long write, as long as it takes.
use Rattle.std.proofs.Common.{ap}
use Rattle.std.specs.Prelude.{⊤}
use Rattle.histories.specs.declared.account.Account.{Account}
use Rattle.block_queue.specs.declared.entry.Entry.{Entry}
use Rattle.waiting.specs.Runners.{RunPoint}
use Rattle.pipe_dev.specs.WriteCalls.{call_of, run_writer}
use Rattle.pipe_dev.proofs.ForeverLemmas.{long_so}
use Rattle.pipe_dev.proofs.write_end.WriteEnd.write_long.Goals as goal

pub returns-clause-too_big : goal.returns-clause-too_big
returns-clause-too_big g c =
    (long_so (call_of c.args.self.now c.args.bytes.now) c.args.proc.now.words
    (run_writer c.args.self.now tt c.args.proc.now)
    (run_writer c.write_long_by.new.self c.write_long_by.new.timer c.write_long_by.new.proc)
    c.write_long_by.result c.write_long_by.ensures.no_rendez c.write_long_by.ensures.wrote).0

pub returns-clause-no_rendez : goal.returns-clause-no_rendez
returns-clause-no_rendez g c =
    (long_so (call_of c.args.self.now c.args.bytes.now) c.args.proc.now.words
    (run_writer c.args.self.now tt c.args.proc.now)
    (run_writer c.write_long_by.new.self c.write_long_by.new.timer c.write_long_by.new.proc)
    c.write_long_by.result c.write_long_by.ensures.no_rendez c.write_long_by.ensures.wrote).1

pub returns-clause-refused : goal.returns-clause-refused
returns-clause-refused g c =
    λ foreign. let none = c.write_long_by.ensures.no_rendez foreign in
    record {
      long_is = none.long_is;
      same = ap (λ (t : RunPoint ⊤ (Account Entry)). t.at) none.same;
    }

pub returns-clause-wrote : goal.returns-clause-wrote
returns-clause-wrote g c =
    (long_so (call_of c.args.self.now c.args.bytes.now) c.args.proc.now.words
    (run_writer c.args.self.now tt c.args.proc.now)
    (run_writer c.write_long_by.new.self c.write_long_by.new.timer c.write_long_by.new.proc)
    c.write_long_by.result c.write_long_by.ensures.no_rendez c.write_long_by.ensures.wrote).2
