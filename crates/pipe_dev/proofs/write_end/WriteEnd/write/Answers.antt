-- The run of a write, as long as it takes.
use Rattle.std.proofs.Common.{length}
use Rattle.pipe_dev.specs.WriteCalls.{call_of, run_writer}
use Rattle.pipe_dev.proofs.ForeverLemmas.{write_so}
use Rattle.pipe_dev.proofs.write_end.WriteEnd.write.Goals as goal

pub returns-clause-too_big : goal.returns-clause-too_big
returns-clause-too_big g c =
    (write_so (call_of c.args.self.now c.args.bytes.now) c.args.proc.now.words
    (length c.args.bytes.now) (run_writer c.args.self.now tt c.args.proc.now)
    (run_writer c.write_by.new.self c.write_by.new.timer c.write_by.new.proc) c.write_by.result
    c.write_by.ensures.too_big c.write_by.ensures.no_rendez c.write_by.ensures.wrote).refused

pub returns-clause-no_rendez : goal.returns-clause-no_rendez
returns-clause-no_rendez g c =
    (write_so (call_of c.args.self.now c.args.bytes.now) c.args.proc.now.words
    (length c.args.bytes.now) (run_writer c.args.self.now tt c.args.proc.now)
    (run_writer c.write_by.new.self c.write_by.new.timer c.write_by.new.proc) c.write_by.result
    c.write_by.ensures.too_big c.write_by.ensures.no_rendez c.write_by.ensures.wrote).foreign

pub returns-clause-wrote : goal.returns-clause-wrote
returns-clause-wrote g c =
    (write_so (call_of c.args.self.now c.args.bytes.now) c.args.proc.now.words
    (length c.args.bytes.now) (run_writer c.args.self.now tt c.args.proc.now)
    (run_writer c.write_by.new.self c.write_by.new.timer c.write_by.new.proc) c.write_by.result
    c.write_by.ensures.too_big c.write_by.ensures.no_rendez c.write_by.ensures.wrote).did
