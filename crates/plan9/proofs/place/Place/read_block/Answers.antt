-- one read of a block, of the end that was taken up
use Rattle.plan9.specs.Sharings.{ReadsBlockOnce, buffers}
use Rattle.plan9.proofs.SharingLemmas.{calls_shared}
use Rattle.plan9.proofs.place.Place.read_block.Goals as goal

pub returns : goal.returns
returns g c =
    let read = c.read_block-answer.ensures in
    calls_shared c.args.self.now.slot.value c.take_up-taken.result.end c.read_block-answer.new.self
    c.args.proc.now _
    (ReadsBlockOnce (buffers c.args.block.now.items c.read_block-answer.new.block.items)
    c.read_block-answer.result)
    c.take_up-taken.ensures
    read.end
    record {
      no_rendez = read.no_rendez;
      reads = read.read;
    }
    read.words c.lay_down-laid.result c.lay_down-laid.ensures
