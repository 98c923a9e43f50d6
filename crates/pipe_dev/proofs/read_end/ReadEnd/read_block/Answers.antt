-- The run of a read of a block, as long as it takes.
use Rattle.block_queue.specs.Seats.{key_of}
use Rattle.pipe_dev.specs.ReadCalls.{calling}
use Rattle.pipe_dev.proofs.ForeverLemmas.{block_read_so}
use Rattle.pipe_dev.proofs.read_end.ReadEnd.read_block.Goals as goal

pub returns-clause-no_rendez : goal.returns-clause-no_rendez
returns-clause-no_rendez g c =
    (block_read_so (key_of c.args.self.now.queue) c.args.self.now.row c.args.proc.now.words
    (calling c.args.self.now c.args.proc.now c.args.block.now.items)
    (calling c.read_block_by.new.self c.read_block_by.new.proc c.read_block_by.new.block.items) tt
    c.read_block_by.new.timer c.read_block_by.result
    c.read_block_by.ensures.no_rendez c.read_block_by.ensures.read).0

pub returns-clause-read : goal.returns-clause-read
returns-clause-read g c =
    (block_read_so (key_of c.args.self.now.queue) c.args.self.now.row c.args.proc.now.words
    (calling c.args.self.now c.args.proc.now c.args.block.now.items)
    (calling c.read_block_by.new.self c.read_block_by.new.proc c.read_block_by.new.block.items) tt
    c.read_block_by.new.timer c.read_block_by.result
    c.read_block_by.ensures.no_rendez c.read_block_by.ensures.read).1
