-- one read, of the end that was taken up
use Rattle.plan9.specs.Sharings.{ReadsOnce, buffers}
use Rattle.plan9.proofs.SharingLemmas.{calls_shared}
use Rattle.plan9.proofs.place.Place.read.Goals as goal

pub returns : goal.returns
returns g c =
    let read = c.read-answer.ensures in
    calls_shared c.args.self.now.slot.value c.take_up-taken.result.end c.read-answer.new.self
    c.args.proc.now _
    (ReadsOnce (buffers c.args.buffer.now c.read-answer.new.buffer) c.read-answer.result)
    c.take_up-taken.ensures
    read.end
    record {
      bad_count = read.bad_count;
      no_rendez = read.no_rendez;
      reads = read.read;
    }
    read.words c.lay_down-laid.result c.lay_down-laid.ensures
