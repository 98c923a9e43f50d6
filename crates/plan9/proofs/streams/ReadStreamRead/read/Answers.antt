-- an empty write more, or bytes, the end or a fault
use Rattle.std.proofs.Common.{◌≡◌, Ok, Some, None, ◌∙◌}
use Rattle.plan9.specs.Streams.{lent}
use Rattle.plan9.proofs.StreamLemmas.{passes, gives_bytes, is_at_end, fails}
use Rattle.plan9.proofs.streams.ReadStreamRead.read.Goals as goal

pub reading-preserved : goal.reading-preserved
reading-preserved g c =
    let came : c.next_piece.result ≡ Ok (Some 0) = cc in
    record {
      so_far = passes (lent c.args.self.now.end c.args.self.now.proc c.args.buf.now)
          (lent c.reading.self.end c.reading.self.proc c.reading.buf)
          (lent c.next_piece.new.self c.next_piece.new.proc c.next_piece.new.buffer)
          c.next_piece.result c.reading.invariant.so_far came c.next_piece.ensures;
      kept = c.reading.invariant.kept;
    }

pub returns-in-Ok-Some-clause-reads : goal.returns-in-Ok-Some-clause-reads
returns-in-Ok-Some-clause-reads g c =
    let came : c.next_piece.result ≡ Ok (Some c.in-Ok-Some.count) = cc in
    gives_bytes (lent c.args.self.now.end c.args.self.now.proc c.args.buf.now)
    (lent c.reading.self.end c.reading.self.proc c.reading.buf)
    (lent c.next_piece.new.self c.next_piece.new.proc c.next_piece.new.buffer)
    c.next_piece.result
    c.in-Ok-Some.count c.reading.self.fault
    c.reading.invariant.so_far came c.in-Ok-Some.count-test.1 c.next_piece.ensures

pub returns-in-Ok-None-clause-reads : goal.returns-in-Ok-None-clause-reads
returns-in-Ok-None-clause-reads g c =
    let came : c.next_piece.result ≡ Ok None = cc in
    is_at_end (lent c.args.self.now.end c.args.self.now.proc c.args.buf.now)
    (lent c.reading.self.end c.reading.self.proc c.reading.buf)
    (lent c.next_piece.new.self c.next_piece.new.proc c.next_piece.new.buffer)
    c.next_piece.result
    c.reading.self.fault c.reading.invariant.so_far came c.next_piece.ensures

pub returns-in-Err-clause-reads : goal.returns-in-Err-clause-reads
returns-in-Err-clause-reads g c =
    fails (lent c.args.self.now.end c.args.self.now.proc c.args.buf.now)
    (lent c.reading.self.end c.reading.self.proc c.reading.buf)
    (lent c.next_piece.new.self c.next_piece.new.proc c.next_piece.new.buffer)
    c.next_piece.result
    c.in-Err.fault c.from.result c.reading.invariant.so_far c.in-Err.is
    (c.from.ensures ∙ c.kind_of.ensures) c.next_piece.ensures
