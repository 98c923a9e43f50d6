-- What a new queue is, and its seats.
use Rattle.std.specs.Prelude.{◌≡◌, ◌⊎◌, ℕ, ◌+◌, ◌-◌, ◌<◌, Some}
use Rattle.std.specs.Prelude.{List, [], ◌∷◌, map, length, slice_get}
use Rattle.histories.specs.declared.account.Account.{Account}
use Rattle.histories.specs.Account.{unused_share, numbers_from}
use Rattle.sync_base.specs.declared.limits.TheConstants.{LAST_WRITE, MAX_PIPE_LIMIT, MAX_WRITERS}
use Rattle.block_queue.specs.declared.entry.Entry.{Entry}
use Rattle.block_queue.specs.declared.opening.Opened.{Opened}
use Rattle.block_queue.specs.declared.queue.Queue.{Queue}
use Rattle.block_queue.specs.declared.seats.PutSeat.{PutSeat}
use Rattle.block_queue.specs.declared.view.Key.{Key}
use Rattle.block_queue.specs.declared.view.Stage.TheVariants.{Free}
use Rattle.block_queue.specs.declared.view.View.{View}
use Rattle.block_queue.specs.Seats.{IsPutSeatOf, IsTakeSeatOf, key_of, put_account, take_account}

-- no queue has this limit, or this many writers
abbrev pub IsBadQueue : ℕ → ℕ → Type 0
IsBadQueue limit writers =
    ((limit ≡ 0) ⊎ (MAX_PIPE_LIMIT < limit)) ⊎ ((writers ≡ 0) ⊎ (MAX_WRITERS < writers))

-- the sizes are allowed, and `first` is above the last number that a write may have
pub record IsBadFirst (limit writers first : ℕ) : Type 0 where
  pub sizes : IsBadQueue limit writers → ⊥
  pub above : LAST_WRITE < first

-- a seat with this number that has made no call and seen nothing
abbrev pub new_account : ℕ → Account Entry
new_account number =
    record { number = number; shares = unused_share number ∷ []; seen = []; gave = [] }

-- the reader's seat, which gave this many numbers to the writers
abbrev pub reader_account : ℕ → Account Entry
reader_account writers = record (new_account 0) { gave = numbers_from 1 writers }

-- the reader while it hands the numbers over: this many writers have theirs
abbrev pub handing_view : ℕ → ℕ → View
handing_view writers done =
    record {
      account = record {
        number = 0;
        shares = unused_share 0 ∷ map unused_share (numbers_from (done + 1) (writers - done));
        seen = [];
        gave = numbers_from 1 writers;
      };
      taken = 0;
      stage = Free;
      pasts = [];
    }

-- the seat of this writer, of a new queue
pub record IsNewPutSeat (queue : Queue) (writer : ℕ) (seat : PutSeat) : Type 0 where
  pub seat_is : IsPutSeatOf queue seat
  pub writer_is : seat.writer ≡ writer
  pub account_is : put_account seat ≡ new_account (writer + 1)

-- the seats of the first writers of a new queue, in order
pub record AreNewPutSeats (queue : Queue) (count : ℕ) (seats : List PutSeat) : Type 0 where
  pub count_is : length seats ≡ count
  pub each : (writer : ℕ) (seat : PutSeat) → slice_get seats writer ≡ Some seat →
      IsNewPutSeat queue writer seat

-- a new queue, and its seats
pub record Opens (key : Key) (opened : Opened) : Type 0 where
  pub key_is : key_of opened.queue ≡ key
  pub take_is : IsTakeSeatOf opened.queue opened.take
  pub account_is : take_account opened.take ≡ reader_account key.writers
  pub puts_are : AreNewPutSeats opened.queue key.writers opened.puts.items
