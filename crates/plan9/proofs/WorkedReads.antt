-- What a read and a write are, and what no stream answers: each against one row.
use Rattle.std.proofs.Common.{◌≡◌, ◌≤◌, ℕ, List, length, Option, Some, Ok, Err, ap}
use Rattle.std.specs.declared.io.Error.{Error}
use Rattle.sync_base.specs.declared.fault.Fault.{Fault}
use Rattle.sync_base.specs.declared.fault.Fault.TheVariants as fault
use Rattle.pipe_dev.specs.ReadCalls.{Calling}
use Rattle.pipe_dev.specs.WriteCalls.{writer_of}
use Rattle.plan9.specs.Callers.{Reader, Writer}
use Rattle.plan9.specs.Readings.{ReadsBy}
use Rattle.plan9.specs.Streams.{Lent, Takes, TakesNothing, WritesNothing, WritesOnce, EndsWriting}
use Rattle.plan9.specs.Streams.{WritesFront}

-- a read that is refused leaves its buffer as it was
a_refused_read_leaves_the_buffer : (old new : Reader) (buffer buffer' : List ℕ)
    → ReadsBy old buffer (Err fault.BadCount) new buffer' → buffer' ≡ buffer
a_refused_read_leaves_the_buffer old new buffer buffer' reads =
    ap (λ (c : Calling). c.seat.buffer) reads

module _ (old new : Lent) where
  -- a piece lies in the buffer
  a_piece_fits : Takes old (Ok (Some 3)) new → 3 ≤ length new.buffer
  a_piece_fits takes = takes.fits

  no_bytes_are_read_into_no_room : ¬ TakesNothing old (Ok 3) new
  no_bytes_are_read_into_no_room takes = let no : Ok 3 ≡ Ok 0 = takes.answer_is in cc

module _ (old new : Writer) (bytes : List ℕ) (kept : Option Fault) (error : Error) where
  nothing_is_written_of_no_bytes : ¬ WritesNothing old bytes (Ok 3) new
  nothing_is_written_of_no_bytes writes = let no : Ok 3 ≡ Ok 0 = writes.answer_is in cc

  -- a write that is too big leaves its writer as it was
  a_write_too_big_does_nothing : WritesOnce old bytes (Err fault.TooBig) new
      → writer_of new.end new.proc ≡ writer_of old.end old.proc
  a_write_too_big_does_nothing wrote = wrote

  -- an error is of a write that was refused
  an_error_of_no_write : ((why : Fault) → ¬ WritesFront old bytes (Err why) new)
      → ¬ EndsWriting old bytes (Err error) kept new
  an_error_of_no_write none (why, wrote, told) = none why wrote
