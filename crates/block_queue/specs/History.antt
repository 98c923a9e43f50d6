-- The history of a queue of blocks: what each call did, the newest first. The queue under a lock
-- and the queue without one have the same histories.
use Rattle.std.specs.Prelude.{◌≡◌, ◌⊎◌, ◌==◌, ◌+◌, ◌≤◌, ℕ, false, if◌then◌else◌}
use Rattle.std.specs.Prelude.{Option, Some, None, ⊤}
use Rattle.sync_base.specs.Pipe.{PipeState, opening, next_write, next_number, begun_number}
use Rattle.sync_base.specs.Pipe.{MayAnswerWrite, MayAnswerRead, after_write, after_hangup}
use Rattle.sync_base.specs.Write.{Write}
use Rattle.sync_base.specs.declared.answers.WriteAnswer.TheVariants as put
use Rattle.sync_base.specs.declared.answers.ReadAnswer.TheVariants as read
use Rattle.sync_base.specs.declared.limits.TheConstants.{LAST_WRITE}
use Rattle.block_queue.specs.declared.entry.Entry.{Entry}
use Rattle.block_queue.specs.declared.entry.Entry.TheVariants.{Taken, Stood, Full, Hungup, Worn}
use Rattle.block_queue.specs.declared.entry.Entry.TheVariants.{Block, NotYet, End, Hung}

-- ---- the state that a history leaves

-- After pipe(3): a direction of a pipe. Own: a write that was accepted stands from the moment at
-- which its put returned.
pub record QueueState : Type 0 where
  pub pipe : PipeState
  -- for each seat, the number of the write that was accepted by a put which has not returned
  pub putting : ℕ → Option ℕ

-- a new queue
abbrev pub opening_state : ℕ → QueueState
opening_state limit = record { pipe = opening limit; putting = λ seat. None }

-- the next write is read whole
abbrev pub after_block : PipeState → PipeState
after_block s = record s { read_whole = s.read_whole + 1; offset = 0 }

-- the put of this seat that has not returned is now this one, or none
abbrev pub with_put : ℕ → Option ℕ → (ℕ → Option ℕ) → ℕ → Option ℕ
with_put seat number putting other = if other == seat then number else putting other

-- what each entry does to the state; a call that was refused does nothing
abbrev pub after_entry : QueueState → Entry → QueueState
after_entry s (Taken writer block number) =
    record {
      pipe = after_write s.pipe (record { writer = writer; bytes = block }) put.Taken;
      putting = with_put (writer + 1) (Some number) s.putting;
    }
after_entry s (Stood writer number) =
    record s { putting = with_put (writer + 1) None s.putting }
after_entry s (Full writer block number) = s
after_entry s (Hungup writer block) = s
after_entry s (Worn writer block) = s
after_entry s (Block writer block number) = record s { pipe = after_block s.pipe }
after_entry s (NotYet number) = s
after_entry s End = s
after_entry s (Hung seat) = record s { pipe = after_hangup s.pipe }

-- ---- when a call may get an answer in a state; the first write has the number first + 1

-- Taken: the direction takes the write, and its number is the next one
pub record IsTaken (first : ℕ) (s : QueueState) (number : ℕ) : Type 0 where
  pub may : MayAnswerWrite s.pipe put.Taken
  pub number_is : number ≡ next_number first s.pipe
  pub given : number ≤ LAST_WRITE

-- Full: the direction has as many blocks as it has room for
pub record IsFull (first : ℕ) (s : QueueState) (number : ℕ) : Type 0 where
  pub may : MayAnswerWrite s.pipe put.Full
  pub number_is : number ≡ begun_number first s.pipe

-- Own. Worn: the last number was given
pub record IsWorn (first : ℕ) (s : QueueState) : Type 0 where
  pub not_hung : s.pipe.hung ≡ false
  pub last : next_number first s.pipe ≡ LAST_WRITE + 1

-- After pipe(3). Block: the next write, whole
pub record IsBlock (first : ℕ) (s : QueueState) (write : Write) (number : ℕ) : Type 0 where
  pub next : next_write s.pipe ≡ Some write
  pub number_is : number ≡ begun_number first s.pipe + 1

-- Own. The write with this number was accepted, and its put has not returned: it does not stand.
pub record IsUnready (s : QueueState) (number : ℕ) : Type 0 where
  pub write : Write
  pub next : next_write s.pipe ≡ Some write
  pub returning : s.putting (write.writer + 1) ≡ Some number

-- Own. NotYet: nothing is left, or the next write does not stand yet
pub record IsNotYet (first : ℕ) (s : QueueState) (number : ℕ) : Type 0 where
  pub none : (next_write s.pipe ≡ None) ⊎ IsUnready s (begun_number first s.pipe + 1)
  pub number_is : number ≡ begun_number first s.pipe

-- After pipe(2): a write to a hung up pipe fails, and a read of what is left does not.
abbrev pub MayBe : ℕ → QueueState → Entry → Type 0
MayBe first s (Taken writer block number) = IsTaken first s number
MayBe first s (Stood writer number) = ⊤
MayBe first s (Full writer block number) = IsFull first s number
MayBe first s (Hungup writer block) = MayAnswerWrite s.pipe put.Hungup
MayBe first s (Worn writer block) = IsWorn first s
MayBe first s (Block writer block number) =
    IsBlock first s (record { writer = writer; bytes = block }) number
MayBe first s (NotYet number) = IsNotYet first s number
MayBe first s End = MayAnswerRead 1 s.pipe read.End
MayBe first s (Hung seat) = ⊤

-- ---- the caller of an entry, and the order of a caller's entries

-- the seat that made the call: the reader is seat 0, and writer w is seat w + 1
abbrev pub seat_of : Entry → ℕ
seat_of (Taken writer block number) = writer + 1
seat_of (Stood writer number) = writer + 1
seat_of (Full writer block number) = writer + 1
seat_of (Hungup writer block) = writer + 1
seat_of (Worn writer block) = writer + 1
seat_of (Block writer block number) = 0
seat_of (NotYet number) = 0
seat_of End = 0
seat_of (Hung seat) = seat

-- the put that an entry ends
abbrev pub ended_put : Entry → Option ℕ
ended_put (Taken writer block number) = None
ended_put (Stood writer number) = Some number
ended_put (Full writer block number) = None
ended_put (Hungup writer block) = None
ended_put (Worn writer block) = None
ended_put (Block writer block number) = None
ended_put (NotYet number) = None
ended_put End = None
ended_put (Hung seat) = None

-- what may follow a past in a history: a write stands once, after it was taken and before the next
-- call of its writer
pub record IsRight (first : ℕ) (s : QueueState) (entry : Entry) : Type 0 where
  pub may : MayBe first s entry
  pub in_turn : s.putting (seat_of entry) ≡ ended_put entry
