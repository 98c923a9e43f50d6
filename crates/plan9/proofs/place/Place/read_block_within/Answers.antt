-- one read of a block until a moment, of the end that was taken up
use Rattle.timer_list.specs.Timers.{deadline_of}
use Rattle.plan9.specs.Sharings.{buffers}
use Rattle.plan9.specs.TimedSharings.{ReadsBlockOnceWithin, watches}
use Rattle.plan9.proofs.SharingLemmas.{calls_shared}
use Rattle.plan9.proofs.place.Place.read_block_within.Goals as goal

pub returns-clause-called : goal.returns-clause-called
returns-clause-called g c =
    let read = c.read_block_within-answer.ensures in
    calls_shared c.args.self.now.slot.value c.take_up-taken.result.end
    c.read_block_within-answer.new.self c.args.proc.now _
    (ReadsBlockOnceWithin (deadline_of c.args.now c.args.ms)
    (watches c.args.watch.now c.read_block_within-answer.new.watch)
    (buffers c.args.block.now.items c.read_block_within-answer.new.block.items)
    c.read_block_within-answer.result)
    c.take_up-taken.ensures
    read.end
    read.read
    read.words c.lay_down-laid.result c.lay_down-laid.ensures
