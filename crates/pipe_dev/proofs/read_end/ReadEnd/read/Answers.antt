-- The run of a read, as long as it takes.
use Rattle.block_queue.specs.Seats.{key_of}
use Rattle.pipe_dev.specs.ReadCalls.{calling}
use Rattle.pipe_dev.proofs.ForeverLemmas.{read_so}
use Rattle.pipe_dev.proofs.read_end.ReadEnd.read.Goals as goal

pub returns-clause-bad_count : goal.returns-clause-bad_count
returns-clause-bad_count g c =
    (read_so (key_of c.args.self.now.queue) c.args.self.now.row c.args.proc.now.words
    (calling c.args.self.now c.args.proc.now c.args.buffer.now)
    (calling c.read_by.new.self c.read_by.new.proc c.read_by.new.buffer) tt
    c.read_by.new.timer c.read_by.result
    c.read_by.ensures.bad_count c.read_by.ensures.no_rendez c.read_by.ensures.read).refused

pub returns-clause-no_rendez : goal.returns-clause-no_rendez
returns-clause-no_rendez g c =
    (read_so (key_of c.args.self.now.queue) c.args.self.now.row c.args.proc.now.words
    (calling c.args.self.now c.args.proc.now c.args.buffer.now)
    (calling c.read_by.new.self c.read_by.new.proc c.read_by.new.buffer) tt
    c.read_by.new.timer c.read_by.result
    c.read_by.ensures.bad_count c.read_by.ensures.no_rendez c.read_by.ensures.read).foreign

pub returns-clause-read : goal.returns-clause-read
returns-clause-read g c =
    (read_so (key_of c.args.self.now.queue) c.args.self.now.row c.args.proc.now.words
    (calling c.args.self.now c.args.proc.now c.args.buffer.now)
    (calling c.read_by.new.self c.read_by.new.proc c.read_by.new.buffer) tt
    c.read_by.new.timer c.read_by.result
    c.read_by.ensures.bad_count c.read_by.ensures.no_rendez c.read_by.ensures.read).did
