-- What clauses see of the ends of a direction.
use Rattle.std.specs.Prelude.{◌≡◌, ℕ, List, [], map, Option}
use Rattle.std.specs.List.{AllByRecursion}
use Rattle.histories.specs.declared.account.Account.{Account}
use Rattle.histories.specs.Account.{numbers_from}
use Rattle.block_queue.specs.declared.entry.Entry.{Entry}
use Rattle.block_queue.specs.declared.queue.Queue.{Queue}
use Rattle.block_queue.specs.declared.seats.PutSeat.{PutSeat}
use Rattle.block_queue.specs.Meaning.{KnowsQueue}
use Rattle.block_queue.specs.Seats.{IsPutSeatOf, IsTakeSeatOf, key_of, put_account, take_account}
use Rattle.pipe_dev.specs.declared.row.Row.{Row}
use Rattle.pipe_dev.specs.declared.state.ReadState.{ReadState}
use Rattle.pipe_dev.specs.declared.state.WriteState.{WriteState}
use Rattle.pipe_dev.specs.Parts.{Part}
use Rattle.pipe_dev.specs.Reading.{Reading, IsRest}

-- a read end: its direction and Rendez, what its seat at the queue knows, and what is left of a
-- write that was begun
pub record ReadSide : Type 0 where
  pub queue : Queue
  pub row : Row
  pub account : Account Entry
  pub rest : Option Part

-- a write end: its direction and Rendez, the number of its writer, and what its seat knows
pub record WriteSide : Type 0 where
  pub queue : Queue
  pub row : Row
  pub writer : ℕ
  pub account : Account Entry

-- a read end that has read these parts
abbrev pub reading_of : ReadSide → List Part → Reading
reading_of side parts = record { account = side.account; parts = parts; rest = side.rest }

-- the Rendez are those of this queue, whose writes are numbered from 1 on
pub record IsRowOf (queue : Queue) (row : Row) : Type 0 where
  pub writers : row.writers ≡ (key_of queue).writers
  pub first : (key_of queue).first ≡ 0

-- the state of a read end: the reader's seat, which gave the writers their numbers, and what is
-- left of a write that was begun
pub record IsReadState (queue : Queue) (row : Row) (state : ReadState) : Type 0 where
  pub row_is : IsRowOf queue row
  pub seat : IsTakeSeatOf queue state.seat
  pub knows : KnowsQueue (key_of queue) (take_account state.seat)
  pub gave : (take_account state.seat).gave ≡ numbers_from 1 row.writers
  pub some_left : IsRest state.rest

-- the seat of a writer, which gave no number
pub record IsWriteSeat (queue : Queue) (row : Row) (seat : PutSeat) : Type 0 where
  pub row_is : IsRowOf queue row
  pub seat_is : IsPutSeatOf queue seat
  pub knows : KnowsQueue (key_of queue) (put_account seat)
  pub gave : (put_account seat).gave ≡ []

-- the state of a write end: the seat of its writer, and this block, which the queue has not taken;
-- there is no such block between two calls
pub record IsWriteState (queue : Queue) (row : Row) (writer : ℕ) (block : Option (List ℕ))
    (state : WriteState) : Type 0 where
  pub seat : IsWriteSeat queue row state.seat
  pub writer_is : state.seat.writer ≡ writer
  pub block_is : state.block ≡ block

-- both ends are of one direction
pub record AreOfOne (read : ReadSide) (write : WriteSide) : Type 0 where
  pub queue : write.queue ≡ read.queue
  pub row : write.row ≡ read.row

-- these are all ends of one direction, the write ends in the order of their writers
pub record AreAllEnds (read : ReadSide) (writes : List WriteSide) : Type 0 where
  pub one : AllByRecursion (AreOfOne read) writes
  pub order : map (λ write. write.writer) writes ≡ numbers_from 0 read.row.writers

-- a call leaves an end at its direction and Rendez
pub record IsSameReadEnd (old new : ReadSide) : Type 0 where
  pub queue : new.queue ≡ old.queue
  pub row : new.row ≡ old.row

pub record IsSameWriteEnd (old new : WriteSide) : Type 0 where
  pub queue : new.queue ≡ old.queue
  pub row : new.row ≡ old.row
  pub writer : new.writer ≡ old.writer
