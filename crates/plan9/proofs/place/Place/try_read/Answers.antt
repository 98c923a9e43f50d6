-- one read that does not wait, of the end that was taken up
use Rattle.plan9.specs.Callers.{reader}
use Rattle.plan9.specs.Sharings.{TriesOnce, buffers}
use Rattle.plan9.proofs.SharingLemmas.{calls_shared, tries_by}
use Rattle.plan9.proofs.place.Place.try_read.Goals as goal

pub returns : goal.returns
returns g c =
    let read = c.try_read-answer.ensures in
    calls_shared c.args.self.now.slot.value c.take_up-taken.result.end c.try_read-answer.new.self
    c.args.proc.now _
    (TriesOnce (buffers c.args.buffer.now c.try_read-answer.new.buffer) c.try_read-answer.result)
    c.take_up-taken.ensures
    read.end
    record {
      bad_count = read.bad_count;
      no_rendez = read.no_rendez;
      fault = read.fault;
      tries = tries_by (reader c.take_up-taken.result.end c.args.proc.now) c.args.buffer.now
          c.try_read-answer.result (reader c.try_read-answer.new.self c.try_read-answer.new.proc)
          c.try_read-answer.new.buffer read.tried read.refused;
    }
    read.words c.lay_down-laid.result c.lay_down-laid.ensures
