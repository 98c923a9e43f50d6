-- What a reader and a stream did that went on piece by piece: each row says just this.
use Rattle.std.proofs.Common.{◌≡◌, ◌≢◌, ◌≤◌, ◌+◌, ◌++◌, ℕ, List, [], ◌∷◌, length, take, drop}
use Rattle.std.proofs.Common.{ap, arith, Option, Some, None, Result, Ok, Err}
use Rattle.std.specs.Prelude.{⊤}
use Rattle.std.specs.declared.io.Error.{Error}
use Rattle.sync_base.specs.declared.fault.Fault.{Fault}
use Rattle.pipe_dev.specs.Ends.{IsSameReadEnd}
use Rattle.pipe_dev.specs.Rounds.{Rounds}
use Rattle.plan9.specs.Callers.{Reader, Writer, IsSameReader}
use Rattle.plan9.specs.declared.ends.ShortRead.{ShortRead}
use Rattle.plan9.specs.Readings.{Filling, LiesIn, ReadsBy, ReadsPiece, ReadsAfter}
use Rattle.plan9.specs.Readings.{GoesOn, Stops, EndsFilling, FillsUp, filling, read_answer}
use Rattle.plan9.specs.Readings.{stopped}
use Rattle.plan9.specs.Streams.{Lent, Takes, PassesEmpty, EndsTaking, TakesNext, TakesNothing}
use Rattle.plan9.specs.Streams.{IsErrorFor, WritesNothing}

-- ---- one piece

two_bytes_lie_in_no_buffer_of_one : ¬ LiesIn (7 ∷ []) (Ok (Some 2))
two_bytes_lie_in_no_buffer_of_one lies = let two : 2 ≤ 1 = lies in omega (arith, two)

module _ (old new : Reader) where
  a_reader_of_another_end : ¬ IsSameReadEnd old.end new.end → ¬ IsSameReader old new
  a_reader_of_another_end other same = other same.end_is

  a_reader_of_another_kernel : new.proc.words ≢ old.proc.words → ¬ IsSameReader old new
  a_reader_of_another_kernel other same = other same.words_are

module _ (old new : Reader) (buffer buffer' : List ℕ) (answer : Result (Option ℕ) Fault) where
  a_piece_that_was_not_read : ¬ ReadsBy old buffer (read_answer answer) new buffer'
      → ¬ ReadsPiece old buffer answer new buffer'
  a_piece_that_was_not_read none reads = none reads.reads

  a_piece_that_does_not_fit : ¬ LiesIn buffer' answer → ¬ ReadsPiece old buffer answer new buffer'
  a_piece_that_does_not_fit beside reads = beside reads.fits

  a_piece_of_another_reader : ¬ IsSameReader old new → ¬ ReadsPiece old buffer answer new buffer'
  a_piece_of_another_reader other reads = other reads.same

-- ---- until a buffer is full

module _ (old : Filling) (answer : Result (Option ℕ) Fault) (reader : Reader)
    (buffer : List ℕ) where
  nothing_was_read_after : ((rest : List ℕ)
      → ¬ ReadsPiece old.reader (drop old.count old.buffer) answer reader rest)
      → ¬ ReadsAfter old answer reader buffer
  nothing_was_read_after none reads = none reads.rest reads.read

  what_was_filled_is_lost : ((rest : List ℕ) → buffer ≢ take old.count old.buffer ++ rest)
      → ¬ ReadsAfter old answer reader buffer
  what_was_filled_is_lost other reads = other reads.rest reads.buffer_is

module _ (old new : Filling) where
  no_piece_came : ((more : ℕ) → ¬ ReadsAfter old (Ok (Some more)) new.reader new.buffer)
      → ¬ GoesOn old new
  no_piece_came none goes = none goes.more goes.reads

  each_byte_counts : (goes : GoesOn old new) → new.count ≡ old.count + goes.more
  each_byte_counts goes = goes.count_is

module _ (before : Filling) (short : ShortRead) (reader : Reader) (buffer : List ℕ) where
  what_came_is_told : Stops before short reader buffer → short.count ≡ before.count
  what_came_is_told stops = stops.count_is

  -- a full buffer is short, also one of no bytes
  it_stops_where_all_is_full : before.count ≡ length before.buffer
      → ¬ Stops before short reader buffer
  it_stops_where_all_is_full full stops =
      let left = stops.left in omega (arith, full, left)

  it_stops_at_a_piece : ¬ ReadsAfter before (stopped short.fault) reader buffer
      → ¬ Stops before short reader buffer
  it_stops_at_a_piece none stops = none stops.reads

  a_full_buffer_is_counted_whole : EndsFilling before (Ok tt) reader buffer
      → before.count ≡ length buffer
  a_full_buffer_is_counted_whole ends = ap (λ it. it.count) ends

  it_is_short_and_did_not_stop : ¬ Stops before short reader buffer
      → ¬ EndsFilling before (Err short) reader buffer
  it_is_short_and_did_not_stop none ends = none ends

module _ (old new : Reader) (buffer buffer' : List ℕ) (answer : Result ⊤ ShortRead) where
  filled_by_another_reader : ¬ IsSameReader old new → ¬ FillsUp old buffer answer new buffer'
  filled_by_another_reader other fills = other fills.same

  filled_by_no_pieces :
      ((times : ℕ) (before : Filling) → ¬ Rounds GoesOn times (filling old buffer 0) before)
      → ¬ FillsUp old buffer answer new buffer'
  filled_by_no_pieces none fills = none fills.times fills.before fills.pieces

  filled_and_not_ended : ((before : Filling) → ¬ EndsFilling before answer new buffer')
      → ¬ FillsUp old buffer answer new buffer'
  filled_and_not_ended none fills = none fills.before fills.ended

-- ---- streams

module _ (old new : Lent) (kept : Option Fault) where
  a_piece_of_bytes_is_passed : ¬ Takes old (Ok (Some 0)) new → ¬ PassesEmpty old new
  a_piece_of_bytes_is_passed other passes = other passes

  three_bytes_of_no_piece : ¬ Takes old (Ok (Some 3)) new → ¬ EndsTaking old (Ok 3) kept new
  three_bytes_of_no_piece none ends = none ends

  no_bytes_before_the_end : ¬ Takes old (Ok None) new → ¬ EndsTaking old (Ok 0) kept new
  no_bytes_before_the_end none ends = none ends

  an_error_of_no_fault : (error : Error) → ((why : Fault) → ¬ IsErrorFor why kept error)
      → ¬ EndsTaking old (Err error) kept new
  an_error_of_no_fault error none (why, took, told) = none why told

  bytes_were_passed : (answer : Result ℕ Error)
      → ((times : ℕ) (before : Lent) → ¬ Rounds PassesEmpty times old before)
      → ¬ TakesNext old answer kept new
  bytes_were_passed answer none next = none next.times next.before next.passed

  nothing_is_taken_where_there_is_room : old.buffer ≢ [] → ¬ TakesNothing old (Ok 0) new
  nothing_is_taken_where_there_is_room room takes = room takes.no_room

nothing_is_written_of_bytes : (old new : Writer) → ¬ WritesNothing old (7 ∷ []) (Ok 0) new
nothing_is_written_of_bytes old new writes = let no : 7 ∷ [] ≡ [] = writes.no_bytes in cc
