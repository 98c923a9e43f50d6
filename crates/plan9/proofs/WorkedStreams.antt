-- What is no read and no write of a stream: each against one row of what the streams say.
use Rattle.std.proofs.Common.{◌≡◌, ◌≢◌, ℕ, List, [], length, Option, Some, None, Result, Ok, Err}
use Rattle.std.proofs.Common.{inl, inr, refl}
use Rattle.std.specs.declared.io.Error.{Error}
use Rattle.std.specs.IoError.{error_kind}
use Rattle.sync_base.specs.declared.fault.Fault.{Fault}
use Rattle.sync_base.specs.declared.fault.Fault.TheVariants as fault
use Rattle.pipe_dev.specs.Rendezes.{OwnsRow}
use Rattle.plan9.specs.Callers.{Writer}
use Rattle.plan9.specs.Streams.{Lent, Streams, StreamsOut, Takes, TakesNext, IsErrorFor}
use Rattle.plan9.specs.Streams.{WritesFront, WritesOnce, front_of, kind_of}

module _ (why : Fault) (kept : Option Fault) (error : Error) where
  -- the fault is not kept, or the error is of another kind
  fault_is_lost : kept ≢ Some why → IsErrorFor why kept error → ⊥
  fault_is_lost lost stands = lost stands.kept_is

  error_of_another_kind : error_kind error ≢ kind_of why → IsErrorFor why kept error → ⊥
  error_of_another_kind other stands = other stands.kind_is

module _ (old new : Lent) (kept : Option Fault) where
  -- no bytes are said where there is room, and nothing was read to the end
  no_end_was_read : old.buffer ≢ [] → ((before : Lent) → Takes before (Ok None) new → ⊥)
      → Streams old (Ok 0) kept new → ⊥
  no_end_was_read room none (inl nothing) = room nothing.no_room
  no_end_was_read room none (inr next) = none next.before next.ended

  -- a buffer of no bytes is read into
  a_read_into_no_room : (answer : Result ℕ Error) → old.buffer ≡ []
      → ¬ TakesNext old answer kept new
  a_read_into_no_room answer none next = next.room none

  -- bytes are said where no piece of as many was read
  bytes_of_no_piece : ((before : Lent) → Takes before (Ok (Some 3)) new → ⊥)
      → TakesNext old (Ok 3) kept new → ⊥
  bytes_of_no_piece none next = none next.before next.ended

module _ (old new : Writer) (bytes : List ℕ) (answer : Result ℕ Error) (kept : Option Fault) where
  -- bytes are taken that were not written
  more_than_is_written : bytes ≢ [] → 3 ≢ length (front_of bytes)
      → StreamsOut old bytes (Ok 3) kept new → ⊥
  more_than_is_written some other (same, inl nothing) = some nothing.no_bytes
  more_than_is_written some other (same, inr (not_empty, (count, wrote))) = other count

  -- they are said to be written, and no write was accepted
  no_write_was_accepted : bytes ≢ []
      → ((number : ℕ) → WritesFront old bytes (Ok number) new → ⊥)
      → StreamsOut old bytes (Ok 3) kept new → ⊥
  no_write_was_accepted some none (same, inl nothing) = some nothing.no_bytes
  no_write_was_accepted some none (same, inr (not_empty, (count, (number, wrote)))) =
      none number wrote

  -- no bytes are written, as an empty write
  an_empty_write : bytes ≡ [] → new ≢ old → StreamsOut old bytes answer kept new → ⊥
  an_empty_write none wrote (same, inl nothing) = wrote nothing.same
  an_empty_write none wrote (same, inr (not_empty, ends)) = not_empty none

module _ (old new : Writer) (bytes : List ℕ) where
  -- what fits is refused as too big; a writer is refused by its own kernel; or it is not that write
  the_front_is_too_big : ¬ WritesFront old bytes (Err fault.TooBig) new
  the_front_is_too_big wrote = wrote.too_big refl

  refused_by_its_own_kernel : OwnsRow old.proc.words old.end.row
      → ¬ WritesFront old bytes (Err fault.NoRendez) new
  refused_by_its_own_kernel row wrote = wrote.no_rendez.0 refl row

  another_write : (answer : Result ℕ Fault) → ¬ WritesOnce old (front_of bytes) answer new
      → ¬ WritesFront old bytes answer new
  another_write answer other wrote = other wrote.wrote
