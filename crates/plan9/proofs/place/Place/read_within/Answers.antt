-- one read until a moment, of the end that was taken up
use Rattle.timer_list.specs.Timers.{deadline_of}
use Rattle.plan9.specs.Sharings.{buffers}
use Rattle.plan9.specs.TimedSharings.{ReadsOnceWithin, watches}
use Rattle.plan9.proofs.SharingLemmas.{calls_shared}
use Rattle.plan9.proofs.place.Place.read_within.Goals as goal

pub returns-clause-called : goal.returns-clause-called
returns-clause-called g c =
    let read = c.read_within-answer.ensures in
    calls_shared c.args.self.now.slot.value c.take_up-taken.result.end
    c.read_within-answer.new.self c.args.proc.now _
    (ReadsOnceWithin (deadline_of c.args.now c.args.ms)
    (watches c.args.watch.now c.read_within-answer.new.watch)
    (buffers c.args.buffer.now c.read_within-answer.new.buffer)
    c.read_within-answer.result)
    c.take_up-taken.ensures
    read.end
    read.read
    read.words c.lay_down-laid.result c.lay_down-laid.ensures
