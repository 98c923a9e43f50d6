-- What is no read end, and what no new pipe is made of: each against one row.
use Rattle.std.proofs.Common.{◌≢◌, ◌<◌, List, [], map, length, arith}
use Rattle.std.specs.List.{AllByRecursion}
use Rattle.std.specs.Vec.{vec_capacity}
use Rattle.std.specs.Prelude.{None, ℕ}
use Rattle.histories.specs.Account.{numbers_from}
use Rattle.rendez_words.specs.declared.words.Words.{Words}
use Rattle.block_queue.specs.declared.queue.Queue.{Queue}
use Rattle.block_queue.specs.Opening.{AreNewPutSeats, reader_account}
use Rattle.block_queue.specs.Seats.{IsTakeSeatOf, key_of, take_account}
use Rattle.pipe_dev.specs.declared.state.ReadState.{ReadState}
use Rattle.pipe_dev.specs.declared.pipe.DirectionStart.{DirectionStart}
use Rattle.pipe_dev.specs.declared.pipe.Opened.{Opened}
use Rattle.pipe_dev.specs.declared.pipe.Pipe.{Pipe}
use Rattle.pipe_dev.specs.declared.pipe.PipeStart.{PipeStart}
use Rattle.pipe_dev.specs.declared.pipe.Direction.{Direction}
use Rattle.pipe_dev.specs.declared.row.Row.{Row}
use Rattle.pipe_dev.specs.Ends.{ReadSide, WriteSide, IsRowOf, IsReadState, AreAllEnds}
use Rattle.pipe_dev.specs.Openings.{IsSeatToGive, IsDirectionStartOf, IsStartOf, OwnsRows}
use Rattle.pipe_dev.specs.Openings.{AreNewEnds, key_for}
use Rattle.pipe_dev.specs.Reading.{IsRest}
use Rattle.pipe_dev.specs.Rendezes.{OwnsRow}
use Rattle.pipe_dev.specs.Directions.{IsNewDirection}

-- ---- a read end

module _ (queue : Queue) (row : Row) (state : ReadState) where
  a_state_with_another_row : ¬ IsRowOf queue row → ¬ IsReadState queue row state
  a_state_with_another_row other is_state = other is_state.row_is

  a_state_that_keeps_nothing_as_its_rest : ¬ IsRest state.rest → ¬ IsReadState queue row state
  a_state_that_keeps_nothing_as_its_rest other is_state = other is_state.some_left

-- ---- what the ends of a direction are made of

module _ (queue : Queue) (start : DirectionStart) where
  a_start_without_a_read_end : ¬ IsReadState queue start.row start.read
      → ¬ IsDirectionStartOf queue start
  a_start_without_a_read_end none of_it = none of_it.read

  a_start_that_was_read : take_account start.read.seat ≢ reader_account start.row.writers
      → ¬ IsDirectionStartOf queue start
  a_start_that_was_read other of_it = other of_it.unread

  a_start_with_a_rest : start.read.rest ≢ None → ¬ IsDirectionStartOf queue start
  a_start_with_a_rest some of_it = some of_it.rest

  a_start_that_was_written : ¬ AllByRecursion (IsSeatToGive queue start.row) start.puts.items
      → ¬ IsDirectionStartOf queue start
  a_start_that_was_written other of_it = other of_it.writes

  a_start_out_of_order :
      map (λ seat. seat.writer) start.puts.items ≢ numbers_from 0 start.row.writers
      → ¬ IsDirectionStartOf queue start
  a_start_out_of_order other of_it = other of_it.order

  a_start_with_ends : start.room.items ≢ [] → ¬ IsDirectionStartOf queue start
  a_start_with_ends some of_it = some of_it.none

  a_start_without_room : vec_capacity start.room < length start.puts.items
      → ¬ IsDirectionStartOf queue start
  a_start_without_room few of_it = let room = of_it.room in omega (arith, few, room)

module _ (pipe : Pipe) (start : PipeStart) where
  a_start_of_another_pipe_there : ¬ IsDirectionStartOf pipe.there start.there
      → ¬ IsStartOf pipe start
  a_start_of_another_pipe_there other of_it = other of_it.there

  a_start_of_another_pipe_back : ¬ IsDirectionStartOf pipe.back start.back → ¬ IsStartOf pipe start
  a_start_of_another_pipe_back other of_it = other of_it.back

module _ (words : Words) (opened : Opened) where
  a_pipe_of_another_kernel : ¬ OwnsRow words opened.start.there.row → ¬ OwnsRows words opened
  a_pipe_of_another_kernel other has = other has.there

module _ (queue : Queue) (row : Row) (read : ReadSide) (writes : List WriteSide) where
  new_ends_that_are_not_all : ¬ AreAllEnds read writes → ¬ AreNewEnds queue row read writes
  new_ends_that_are_not_all other new = other new.all

-- ---- a direction before it has its Rendez

module _ (limit writers : ℕ) (direction : Direction) where
  a_queue_of_other_sizes : key_of direction.queue ≢ key_for limit writers
      → ¬ IsNewDirection limit writers direction
  a_queue_of_other_sizes other new = other new.key_is

  the_readers_seat_of_another_queue : ¬ IsTakeSeatOf direction.queue direction.read.seat
      → ¬ IsNewDirection limit writers direction
  the_readers_seat_of_another_queue other new = other new.take_is

  a_reader_that_was_at_work : take_account direction.read.seat ≢ reader_account writers
      → ¬ IsNewDirection limit writers direction
  a_reader_that_was_at_work other new = other new.account_is

  a_rest_before_any_read : direction.read.rest ≢ None → ¬ IsNewDirection limit writers direction
  a_rest_before_any_read some new = some new.rest

  the_writers_seats_of_another_queue : ¬ AreNewPutSeats direction.queue writers direction.puts.items
      → ¬ IsNewDirection limit writers direction
  the_writers_seats_of_another_queue other new = other new.puts_are

  room_that_is_used : direction.room.items ≢ [] → ¬ IsNewDirection limit writers direction
  room_that_is_used some new = some new.none

  room_for_fewer : vec_capacity direction.room < writers → ¬ IsNewDirection limit writers direction
  room_for_fewer few new = let room = new.room in omega (arith, few, room)
