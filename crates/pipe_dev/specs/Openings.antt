-- What a new pipe is, and its ends.
use Rattle.std.specs.Prelude.{◌≡◌, ◌≤◌, ℕ, ◌+◌, ◌*◌, [], List, map, length, None}
use Rattle.std.specs.List.{AllByRecursion}
use Rattle.std.specs.Vec.{vec_capacity}
use Rattle.histories.specs.Account.{numbers_from}
use Rattle.sync_base.specs.declared.mode.Mode.{Mode}
use Rattle.sync_base.specs.declared.mode.Mode.TheVariants.{Message, Stream}
use Rattle.rendez_words.specs.declared.words.Words.{Words}
use Rattle.block_queue.specs.declared.queue.Queue.{Queue}
use Rattle.block_queue.specs.declared.seats.PutSeat.{PutSeat}
use Rattle.block_queue.specs.declared.view.Key.{Key}
use Rattle.block_queue.specs.Opening.{new_account, reader_account}
use Rattle.block_queue.specs.Seats.{key_of, put_account, take_account}
use Rattle.pipe_dev.specs.declared.pipe.DirectionStart.{DirectionStart}
use Rattle.pipe_dev.specs.declared.pipe.Opened.{Opened}
use Rattle.pipe_dev.specs.declared.pipe.Pipe.{Pipe}
use Rattle.pipe_dev.specs.declared.pipe.PipeStart.{PipeStart}
use Rattle.pipe_dev.specs.declared.row.Row.{Row}
use Rattle.pipe_dev.specs.Ends.{ReadSide, WriteSide, IsRowOf, IsReadState, IsWriteSeat}
use Rattle.pipe_dev.specs.Ends.{AreAllEnds}
use Rattle.pipe_dev.specs.Rendezes.{OwnsRow}

-- each direction holds at most `limit` writes that no read has begun, and has `writers` writers
abbrev pub key_for : ℕ → ℕ → Key
key_for limit writers = record { limit = limit; first = 0; writers = writers }

-- how many Rendez a pipe takes: for each direction one for the reader, and one for each writer
abbrev pub rendez_for : ℕ → ℕ
rendez_for writers = 2 * (1 + writers)

-- the seat of a writer is one of the queue's, and is not used yet
pub record IsSeatToGive (queue : Queue) (row : Row) (seat : PutSeat) : Type 0 where
  pub seat_is : IsWriteSeat queue row seat
  pub unused : put_account seat ≡ new_account (seat.writer + 1)

-- what the ends of this direction are made from
pub record IsDirectionStartOf (queue : Queue) (start : DirectionStart) : Type 0 where
  pub row_is : IsRowOf queue start.row
  pub read : IsReadState queue start.row start.read
  pub unread : take_account start.read.seat ≡ reader_account start.row.writers
  pub rest : start.read.rest ≡ None
  pub writes : AllByRecursion (IsSeatToGive queue start.row) start.puts.items
  pub order : map (λ seat. seat.writer) start.puts.items ≡ numbers_from 0 start.row.writers
  pub none : start.room.items ≡ []
  pub room : length start.puts.items ≤ vec_capacity start.room

-- the start was made with the pipe
pub record IsStartOf (pipe : Pipe) (start : PipeStart) : Type 0 where
  pub there : IsDirectionStartOf pipe.there start.there
  pub back : IsDirectionStartOf pipe.back start.back

-- a new pipe of this size and mode, with its Rendez in a row from this number on: first those of
-- one direction, and then those of the other
pub record OpensIn (mode : Mode) (limit writers first : ℕ) (opened : Opened) : Type 0 where
  pub there_key : key_of opened.pipe.there ≡ key_for limit writers
  pub back_key : key_of opened.pipe.back ≡ key_for limit writers
  pub there_first : opened.start.there.row.first ≡ first
  pub back_first : opened.start.back.row.first ≡ first + 1 + writers
  pub there_mode : opened.start.there.row.mode ≡ mode
  pub back_mode : opened.start.back.row.mode ≡ mode

-- a new pipe, whose reads stop at the end of a write
abbrev pub Opens : ℕ → ℕ → ℕ → Opened → Type 0
Opens limit writers first opened = OpensIn Message limit writers first opened

-- a new pipe, whose reads go on from write to write
abbrev pub OpensStream : ℕ → ℕ → ℕ → Opened → Type 0
OpensStream limit writers first opened = OpensIn Stream limit writers first opened

-- its Rendez are the kernel's
pub record OwnsRows (words : Words) (opened : Opened) : Type 0 where
  pub there : OwnsRow words opened.start.there.row
  pub back : OwnsRow words opened.start.back.row

-- a write end of a new direction
pub record IsNewWriteEnd (queue : Queue) (row : Row) (write : WriteSide) : Type 0 where
  pub queue_is : write.queue ≡ queue
  pub row_is : write.row ≡ row
  pub unused : write.account ≡ new_account (write.writer + 1)

-- the ends of a new direction: nothing was called, and these are all its ends
pub record AreNewEnds (queue : Queue) (row : Row) (read : ReadSide) (writes : List WriteSide) :
    Type 0 where
  pub queue_is : read.queue ≡ queue
  pub row_is : read.row ≡ row
  pub unread : read.account ≡ reader_account row.writers
  pub rest : read.rest ≡ None
  pub unwritten : AllByRecursion (IsNewWriteEnd queue row) writes
  pub all : AreAllEnds read writes

-- ---- the kernel of a pipe

-- this kernel has each Rendez of these ends
pub record HasEachRendez (words : Words) (read : ReadSide) (writes : List WriteSide) : Type 0 where
  pub reader : OwnsRow words read.row
  pub writers : AllByRecursion (λ write. OwnsRow words write.row) writes

-- Own. The kernel whose roster made a pipe has each Rendez of its ends. A read or a write gets
-- NoRendez only where the process's kernel does not have them all (`no_rendez`), so a process of
-- this kernel never gets it.
abbrev pub OwnKernelHasEachRendez : Type 0
OwnKernelHasEachRendez =
    (words : Words) (opened : Opened) (first second : ReadSide) (firsts seconds : List WriteSide)
    → OwnsRows words opened
    → AreNewEnds opened.pipe.there opened.start.there.row first seconds
    → AreNewEnds opened.pipe.back opened.start.back.row second firsts
    → HasEachRendez words first seconds × HasEachRendez words second firsts
