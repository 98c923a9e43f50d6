-- a piece more, or none, or the buffer is full
use Rattle.std.proofs.Common.{◌≡◌, Ok, Some, None, refl}
use Rattle.plan9.specs.Callers.{reader}
use Rattle.plan9.specs.Readings.{filling}
use Rattle.plan9.proofs.ReadingLemmas.{one_more, at_the_end, at_a_fault, is_full}
use Rattle.plan9.proofs.ends.ReadEndReadCalls.read_exact.Goals as goal

pub reading-preserved : goal.reading-preserved
reading-preserved g c =
    let came : c.next_piece.result ≡ Ok (Some c.in-Ok-Some.more) = cc in
    record {
      so_far = one_more (filling (reader c.args.self.now c.args.proc.now) c.args.buffer.now 0)
          (filling (reader c.reading.self c.reading.proc) c.reading.buffer c.reading.count)
          c.next_piece.result c.in-Ok-Some.more
          (reader c.next_piece.new.self c.next_piece.new.proc) c.next_piece.new.buffer
          c.reading.invariant.so_far came c.next_piece.ensures;
    }

pub returns-in-Ok-None : goal.returns-in-Ok-None
returns-in-Ok-None g c =
    let came : c.next_piece.result ≡ Ok None = cc in
    at_the_end (filling (reader c.args.self.now c.args.proc.now) c.args.buffer.now 0)
    (filling (reader c.reading.self c.reading.proc) c.reading.buffer c.reading.count)
    c.next_piece.result (reader c.next_piece.new.self c.next_piece.new.proc)
    c.next_piece.new.buffer
    c.reading.invariant.so_far came c.next_piece.ensures refl c.if-count-buffer.false

pub returns-in-Err : goal.returns-in-Err
returns-in-Err g c =
    at_a_fault (filling (reader c.args.self.now c.args.proc.now) c.args.buffer.now 0)
    (filling (reader c.reading.self c.reading.proc) c.reading.buffer c.reading.count)
    c.next_piece.result c.in-Err.fault (reader c.next_piece.new.self c.next_piece.new.proc)
    c.next_piece.new.buffer
    c.reading.invariant.so_far c.in-Err.is c.next_piece.ensures refl c.if-count-buffer.false

pub returns-then-count-buffer : goal.returns-then-count-buffer
returns-then-count-buffer g c =
    is_full (filling (reader c.args.self.now c.args.proc.now) c.args.buffer.now 0)
    (filling (reader c.reading.self c.reading.proc) c.reading.buffer c.reading.count)
    c.reading.invariant.so_far refl c.if-count-buffer.true
