-- How a read fills its buffer, part by part, after pipe(3) and read(2); the mode is a value.
use Rattle.std.specs.Prelude.{◌≡◌, ◌⊎◌, ◌+◌, ◌-◌, ◌++◌, ℕ, nat_lt, Bool, true, false}
use Rattle.std.specs.Prelude.{List, [], ◌∷◌, length, drop, Option, Some, None}
use Rattle.histories.specs.declared.account.Account.{Account}
use Rattle.sync_base.specs.declared.mode.Mode.{Mode}
use Rattle.sync_base.specs.Pipe.{by_mode}
use Rattle.block_queue.specs.declared.answers.TakeAnswer.TheVariants as take_answer
use Rattle.block_queue.specs.declared.entry.Entry.{Entry}
use Rattle.block_queue.specs.declared.entry.Entry.TheVariants as entry
use Rattle.block_queue.specs.declared.view.Key.{Key}
use Rattle.block_queue.specs.Calls.{IsFreshTake}
use Rattle.block_queue.specs.Meaning.{Enters}
use Rattle.pipe_dev.specs.declared.filling.ReadOutcome.{ReadOutcome}
use Rattle.pipe_dev.specs.declared.filling.Stop.{Stop}
use Rattle.pipe_dev.specs.declared.filling.Stop.TheVariants as stop
use Rattle.pipe_dev.specs.Parts.{Part, part_of, rest_of, bytes_of}
use Rattle.pipe_dev.specs.Rounds.{Rounds}

-- a read end between two takes: what its seat knows, and what is left of a write that was begun
pub record Taker : Type 0 where
  pub account : Account Entry
  pub rest : Option Part

-- ---- one part

-- what is left of the write that was begun is read next, and nothing is asked of the queue
pub record IsLeft (old : Taker) (left : Part) (new : Taker) : Type 0 where
  pub left_is : old.rest ≡ Some left
  pub account : new.account ≡ old.account

-- no write was begun: the next write was taken out, whole and with its number
pub record IsTakenOut (key : Key) (old : Taker) (left : Part) (new : Taker) : Type 0 where
  pub none_left : old.rest ≡ None
  pub taken : Enters key (entry.Block left.writer left.bytes (left.place + 1))
      old.account new.account

-- A part was read, for which there was this much room: of what is left of the write that was begun,
-- or of the next write. What is left of it after the part is kept.
pub record TakesPart (key : Key) (room : ℕ) (old : Taker) (part : Part) (new : Taker) :
    Type 0 where
  pub left : Part
  pub next : IsLeft old left new ⊎ IsTakenOut key old left new
  pub part_is : part ≡ part_of room left
  pub rest : new.rest ≡ rest_of room left

-- a take found nothing: no write was begun, and this entry was made
pub record FindsNothing (key : Key) (found : Entry) (old new : Taker) : Type 0 where
  pub none_left : old.rest ≡ None
  pub entered : Enters key found old.account new.account
  pub rest : new.rest ≡ None

-- The next write is not there yet. A reader that knew of the hangup gets this answer only while a
-- write is left.
pub record FindsNotThere (key : Key) (number : ℕ) (old new : Taker) : Type 0 where
  pub nothing : FindsNothing key (entry.NotYet number) old new
  pub fresh : IsFreshTake key old.account new.account (take_answer.NotYet number)

-- ---- part by part

-- how far a read goes: its mode, and for how many bytes its buffer has room
pub record Extent : Type 0 where
  pub mode : Mode
  pub room : ℕ

-- what a read has done: its end, and the parts that it read, the newest first
pub record Filling : Type 0 where
  pub taker : Taker
  pub parts : List Part

abbrev pub begins : Taker → Filling
begins taker = record { taker = taker; parts = [] }

abbrev pub has_none : List Part → Bool
has_none [] = true
has_none (part ∷ parts) = false

-- Whether a read with these parts goes on. After pipe(3): a message ends it, an empty one too. Own:
-- in stream mode it goes on while its buffer has room.
abbrev pub goes_further : Extent → List Part → Bool
goes_further extent parts =
    by_mode extent.mode (has_none parts) (nat_lt (length (bytes_of parts)) extent.room)

-- it went on, and read one more part into the room that was left
pub record TakesMore (key : Key) (extent : Extent) (old new : Filling) : Type 0 where
  pub further : goes_further extent old.parts ≡ true
  pub part : Part
  pub taken : TakesPart key (extent.room - length (bytes_of old.parts)) old.taker part new.taker
  pub parts : new.parts ≡ part ∷ old.parts

-- why a read stopped: it had enough, or it went on and a take found nothing
abbrev pub StopsAt : Key → Extent → Stop → Filling → Taker → Type 0
StopsAt key extent stop.Enough old new =
    (goes_further extent old.parts ≡ false) × (new ≡ old.taker)
StopsAt key extent (stop.NotYet number) old new =
    (goes_further extent old.parts ≡ true) × FindsNotThere key number old.taker new
StopsAt key extent stop.End old new =
    (goes_further extent old.parts ≡ true) × FindsNothing key entry.End old.taker new

-- ---- the whole

-- a read end and the buffer of its read
pub record Lending : Type 0 where
  pub taker : Taker
  pub buffer : List ℕ

-- the buffer begins with these bytes, and is as it was after them
pub record IsFilledBy (bytes buffer buffer' : List ℕ) (count : ℕ) : Type 0 where
  pub count_is : count ≡ length bytes
  pub bytes_are : buffer' ≡ bytes ++ drop count buffer

-- the read went part by part, up to where it stopped; the buffer has the bytes of the parts, in
-- their order
pub record FillsUp (key : Key) (mode : Mode) (old : Lending) (came : ReadOutcome) (new : Lending) :
    Type 0 where
  pub times : ℕ
  pub filling : Filling
  pub taken : Rounds (TakesMore key (record { mode = mode; room = length old.buffer })) times
      (begins old.taker) filling
  pub stopped : StopsAt key (record { mode = mode; room = length old.buffer }) came.stop
      filling new.taker
  pub filled : IsFilledBy (bytes_of filling.parts) old.buffer new.buffer came.count

-- ---- the numbers of what was taken out

-- the number of a part's write, if the write was taken out for the part
abbrev pub number_of : Option Part → Part → Option ℕ
number_of None part = Some (part.place + 1)
number_of (Some left) part = None

-- The number of the last write that a read took out, if it took any out. Its first part may be of a
-- write that was begun before.
abbrev pub last_number : Option Part → List Part → Option ℕ
last_number begun [] = None
last_number begun (part ∷ []) = number_of begun part
last_number begun (part ∷ other ∷ parts) = Some (part.place + 1)
