-- What an end has between two calls and what a request of a write comes to, in plain words.
use Rattle.std.proofs.Common.{◌≡◌, ◌≢◌, ℕ, List, true, [], ◌∷◌, Option}
use Rattle.histories.specs.Account.{numbers_from}
use Rattle.block_queue.specs.declared.queue.Queue.{Queue}
use Rattle.block_queue.specs.declared.seats.PutSeat.{PutSeat}
use Rattle.block_queue.specs.Meaning.{KnowsQueue}
use Rattle.block_queue.specs.Seats.{IsPutSeatOf, IsTakeSeatOf, key_of, put_account, take_account}
use Rattle.block_queue.specs.Steps.{saw_hangup}
use Rattle.pipe_dev.specs.declared.row.Row.{Row}
use Rattle.pipe_dev.specs.declared.state.ReadState.{ReadState}
use Rattle.pipe_dev.specs.declared.state.WriteState.{WriteState}
use Rattle.pipe_dev.specs.Ends.{ReadSide, WriteSide, IsReadState, IsRowOf, IsSameReadEnd}
use Rattle.pipe_dev.specs.Ends.{IsSameWriteEnd, IsWriteSeat, IsWriteState}
use Rattle.pipe_dev.specs.Seating.{AreSeated}
use Rattle.pipe_dev.specs.WriteCalls.{WriteCall, Writer, HasHang, IsTooLate, IsWornOut}
use Rattle.pipe_dev.specs.WriteCalls.{FindsFull}

module _ (queue : Queue) (row : Row) where
  module _ (writer : ℕ) (block : Option (List ℕ)) (state : WriteState) where
    -- the seat of a write end is one of its direction, and that of its writer
    a_state_without_a_seat : ¬ IsWriteSeat queue row state.seat
        → ¬ IsWriteState queue row writer block state
    a_state_without_a_seat none is = none is.seat

    the_seat_is_its_writers : IsWriteState queue row writer block state
        → state.seat.writer ≡ writer
    the_seat_is_its_writers is = is.writer_is

    -- and its block is this one: none between two calls
    a_state_with_another_block : state.block ≢ block → ¬ IsWriteState queue row writer block state
    a_state_with_another_block other is = other is.block_is

  -- no seat is left without an end, and no end is of no seat
  seat_has_no_end : (seat : PutSeat) → AreSeated queue row (seat ∷ []) [] → ⊥
  seat_has_no_end seat none = cc

  end_has_no_seat : (write : WriteSide) → AreSeated queue row [] (write ∷ []) → ⊥
  end_has_no_seat write one = cc

  -- ---- a Rendez, a state and a seat of another queue

  a_row_of_other_writers : row.writers ≢ (key_of queue).writers → ¬ IsRowOf queue row
  a_row_of_other_writers other is = other is.writers

  a_row_of_later_numbers : (key_of queue).first ≢ 0 → ¬ IsRowOf queue row
  a_row_of_later_numbers later is = later is.first

  module _ (state : ReadState) where
    a_state_of_another_queue : ¬ IsTakeSeatOf queue state.seat → ¬ IsReadState queue row state
    a_state_of_another_queue other is = other is.seat

    a_state_that_knows_no_queue : ¬ KnowsQueue (key_of queue) (take_account state.seat)
        → ¬ IsReadState queue row state
    a_state_that_knows_no_queue none is = none is.knows

    a_state_that_gave_others : (take_account state.seat).gave ≢ numbers_from 1 row.writers
        → ¬ IsReadState queue row state
    a_state_that_gave_others other is = other is.gave

  module _ (seat : PutSeat) where
    a_seat_in_another_row : ¬ IsRowOf queue row → ¬ IsWriteSeat queue row seat
    a_seat_in_another_row other is = other is.row_is

    a_seat_of_another_queue : ¬ IsPutSeatOf queue seat → ¬ IsWriteSeat queue row seat
    a_seat_of_another_queue other is = other is.seat_is

    a_seat_that_knows_no_queue : ¬ KnowsQueue (key_of queue) (put_account seat)
        → ¬ IsWriteSeat queue row seat
    a_seat_that_knows_no_queue none is = none is.knows

    a_seat_that_gave_another : (put_account seat).gave ≢ [] → ¬ IsWriteSeat queue row seat
    a_seat_that_gave_another other is = other is.gave

-- ---- a call moves no end to another direction

module _ (old new : ReadSide) where
  a_read_end_of_another_queue : new.queue ≢ old.queue → ¬ IsSameReadEnd old new
  a_read_end_of_another_queue other same = other same.queue

  a_read_end_of_another_row : new.row ≢ old.row → ¬ IsSameReadEnd old new
  a_read_end_of_another_row other same = other same.row

module _ (old new : WriteSide) where
  a_write_end_of_another_queue : new.queue ≢ old.queue → ¬ IsSameWriteEnd old new
  a_write_end_of_another_queue other same = other same.queue

  a_write_end_of_another_row : new.row ≢ old.row → ¬ IsSameWriteEnd old new
  a_write_end_of_another_row other same = other same.row

  a_write_end_of_another_writer : new.writer ≢ old.writer → ¬ IsSameWriteEnd old new
  a_write_end_of_another_writer other same = other same.writer

module _ (call : WriteCall) (old new : Writer) where
  -- who is told of a hangup has seen it
  who_is_too_late_has_seen_it : IsTooLate call old new → HasHang new.seat.seen
  who_is_too_late_has_seen_it late = late.knew

  -- who is told that the last number is given makes no step
  worn_out_makes_no_step : IsWornOut call old new → new.process ≡ old.process
  worn_out_makes_no_step worn = worn.process

  -- who has seen the hangup is not told that there is no room
  full_after_a_hangup : (number : ℕ) → saw_hangup call.key old.seat ≡ true
      → FindsFull call number old new → ⊥
  full_after_a_hangup number saw full = let fresh = full.fresh in cc

  -- and who is told so makes no step there
  full_makes_no_step : (number : ℕ) → FindsFull call number old new → new.process ≡ old.process
  full_makes_no_step number full = full.process
