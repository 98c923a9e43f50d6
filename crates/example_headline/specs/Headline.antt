-- The headline, said of what a run gives back.
use Rattle.std.specs.Prelude.{◌≡◌, ◌+◌, ◌++◌, ◌<◌, ◌≤◌, ℕ, ⊤, List, [], ◌∷◌, map, length, reverse}
use Rattle.std.specs.Prelude.{Option, Some, None, true, take, slice_index_or}
use Rattle.std.specs.List.{AllByRecursion}
use Rattle.histories.specs.History.{IsHistory, entries_by}
use Rattle.sync_base.specs.declared.fault.Fault.{Fault}
use Rattle.sync_base.specs.Write.{Write}
use Rattle.rendez_words.specs.Process.{Process}
use Rattle.block_queue.specs.declared.entry.Entry.{Entry}
use Rattle.block_queue.specs.declared.view.Key.{Key}
use Rattle.block_queue.specs.History.{opening_state, seat_of}
use Rattle.block_queue.specs.Meaning.{queue_meaning}
use Rattle.block_queue.specs.Seats.{key_of}
use Rattle.pipe_dev.specs.declared.closing.Held.{Held}
use Rattle.pipe_dev.specs.declared.row.Row.{Row}
use Rattle.pipe_dev.specs.Finishing.{accepted_in, left_state, rest_bytes}
use Rattle.pipe_dev.specs.Laws.{NoWriteAfterHangup}
use Rattle.pipe_dev.specs.Parts.{Part, pieces_of, continued, whole_from, bytes_by}
use Rattle.pipe_dev.specs.WaitLaws.{AreReadersWokenAbove, AreWritersWokenAbove}
use Rattle.pipe_dev.specs.WriteCalls.{HasHang}
use Rattle.example_headline.specs.declared.crew.Crew.{Crew}
use Rattle.example_headline.specs.declared.settling.Ending.{Ending}
use Rattle.example_headline.specs.declared.settling.Ending.TheVariants.{Settled, Unsettled}
use Rattle.example_headline.specs.declared.settling.Outcome.{Outcome}
use Rattle.example_headline.specs.declared.settling.Told.{Told}
use Rattle.example_headline.specs.declared.settling.Written.{Written}
use Rattle.example_headline.specs.Crew.{HasWorked, IsToldOf, messages_of}
use Rattle.example_headline.specs.Refusals.{EachHungupIsAfterHangup, HangsUpLast, HasHungUp}
use Rattle.example_headline.specs.Refusals.{TellsWhyRefused, TellsWhyStopped}
use Rattle.example_headline.specs.Wakes.{Wakes, HasWoken}

-- ---- what was read and is held

-- what was accepted from a writer, the oldest first
abbrev pub accepted_of : Written → List (List ℕ)
accepted_of written = take written.accepted written.messages.items

-- the pieces of each writer, from this one on, have just the bytes that were accepted from it
abbrev pub AreTheirs : ℕ → List Written → List Part → Type 0
AreTheirs writer [] pieces = ⊤
AreTheirs writer (written ∷ others) pieces =
    (bytes_by writer pieces ≡ accepted_of written) × AreTheirs (writer + 1) others pieces

-- what was accepted from a writer is the first of its messages, `accepted` of them: all, if no
-- write was refused
pub record AreFirst (written : Written) : Type 0 where
  pub within : written.accepted ≤ length written.messages.items
  pub all : written.refused ≡ None → written.accepted ≡ length written.messages.items

-- nothing is held, neither of a write that was begun nor whole
pub record HoldsNothing (held : Held) : Type 0 where
  pub rest : held.rest ≡ []
  pub writes : held.writes.items ≡ []

-- What the reader got, part by part, continued by what is held, is just the accepted writes, each
-- whole, contiguous and once, in the order in which they were accepted. The accepted writes of each
-- writer are just what was accepted from it, in its order: the first messages that it was given.
-- Where the reader came to the end, nothing is held: all that was accepted was read.
pub record IsWholeAndOnce (given : List (List (List ℕ))) (outcome : Outcome) : Type 0 where
  pub accepted : List Write
  pub parts : List Part
  pub rest : Option Part
  -- how many writes were taken out, by their parts
  pub place : ℕ
  pub got : map (λ part. part.bytes) (reverse parts) ≡ outcome.got.items
  pub begun : rest_bytes rest ≡ outcome.held.rest
  pub whole : reverse (pieces_of (continued rest parts))
      ++ whole_from place outcome.held.writes.items ≡ whole_from 0 accepted
  pub known : AllByRecursion (λ write. write.writer < length outcome.writers.items) accepted
  pub theirs : AreTheirs 0 outcome.writers.items (whole_from 0 accepted)
  pub own : map (λ written. written.messages.items) outcome.writers.items ≡ given
  pub first : AllByRecursion AreFirst outcome.writers.items
  pub all_read : outcome.stopped ≡ None → HoldsNothing outcome.held

-- Where no write was refused, every message that was given was accepted.
abbrev pub AllAreAccepted : List (List (List ℕ)) → Outcome → Type 0
AllAreAccepted given outcome =
    AllByRecursion (λ written. written.refused ≡ None) outcome.writers.items
    → map accepted_of outcome.writers.items ≡ given

-- ---- what the history of the direction says

-- The write of the next message of a writer was refused with this fault, as its own entries and the
-- steps of its process show.
pub record WasRefusedFor (why : Fault) (writer : ℕ) (written : Written) (mine : List Entry)
    (process : Process) : Type 0 where
  pub left : written.accepted < length written.messages.items
  pub told : TellsWhyRefused why writer
      (slice_index_or written.messages.items written.accepted []) mine process.trace

-- A writer: its entries are that just these of its messages were accepted; where it reports a
-- refusal, its write was refused with that fault; where it hung up, it did so after its last write;
-- and each wakeup that its calls owe has returned.
pub record IsWriterOf (history : List Entry) (row : Row) (writer : ℕ) (written : Written)
    (process : Process) : Type 0 where
  pub accepted : accepted_in (entries_by seat_of (writer + 1) history) ≡ accepted_of written
  pub refused : (why : Fault) → written.refused ≡ Some why
      → WasRefusedFor why writer written (entries_by seat_of (writer + 1) history) process
  pub last : HangsUpLast (entries_by seat_of (writer + 1) history)
  pub woken : AllByRecursion (Wakes (HasWoken process) row)
      (entries_by seat_of (writer + 1) history)

-- these are the writers from this one on, each with its process
abbrev pub AreWritersOf : List Entry → Row → ℕ → List Written → List Process → Type 0
AreWritersOf history row writer [] [] = ⊤
AreWritersOf history row writer (written ∷ others) (process ∷ processes) =
    IsWriterOf history row writer written process
    × AreWritersOf history row (writer + 1) others processes
AreWritersOf history row writer writtens processes = ⊥

-- The reader came to the end of a direction that others hung up; or it reports why it stopped: a
-- read was refused with that fault, and after that it hung up. Each wakeup that its calls owe has
-- returned.
pub record IsReaderOf (history : List Entry) (row : Row) (outcome : Outcome) (process : Process)
    : Type 0 where
  pub ended : outcome.stopped ≡ None → outcome.held.hung ≡ true
  pub quiet : outcome.stopped ≡ None → ¬ HasHang (entries_by seat_of 0 history)
  pub stopped : (why : Fault) → outcome.stopped ≡ Some why
      → TellsWhyStopped why (entries_by seat_of 0 history) process.trace
  pub hung : (why : Fault) → outcome.stopped ≡ Some why
      → HasHungUp (entries_by seat_of 0 history)
  pub woken : AllByRecursion (Wakes (HasWoken process) row) (entries_by seat_of 0 history)

-- The one history of the direction, newest first, whose entries are all calls of the run.
pub record HasHistory (key : Key) (first : ℕ) (outcome : Outcome) : Type 0 where
  pub history : List Entry
  pub legal : IsHistory (queue_meaning key.first) (opening_state key.limit) (key.writers + 1)
      history
  -- no write is accepted after a hangup, and no write is refused as hungup before one
  pub accepted : NoWriteAfterHangup history
  pub hungup : EachHungupIsAfterHangup history
  pub hung : outcome.held.hung ≡ (left_state key history).hung
  -- a call that had to wait is woken above the number with which it had to wait
  pub reader_above : AreReadersWokenAbove history
  pub writers_above : AreWritersWokenAbove history
  -- its makers: the Rendez of the direction from this one on, the reader, and each writer
  pub row : Row
  pub row_first : row.first ≡ first
  pub row_writers : row.writers ≡ length outcome.writers.items
  pub reader : Process
  pub writers : List Process
  pub is_reader : IsReaderOf history row outcome reader
  pub are_writers : AreWritersOf history row 0 outcome.writers.items writers

-- The headline, for a run on a direction of this queue, whose Rendez are those from this one on.
pub record KeepsHeadline (key : Key) (first : ℕ) (given : List (List (List ℕ)))
    (outcome : Outcome) : Type 0 where
  pub whole : IsWholeAndOnce given outcome
  pub complete : AllAreAccepted given outcome
  pub made : HasHistory key first outcome

-- The report of a run that had no memory left to take its ends back: the report of a crew that has
-- all ends of a direction of this queue, and has worked with these messages.
pub record IsToldOfWork (key : Key) (first : ℕ) (given : List (List (List ℕ))) (told : Told)
    : Type 0 where
  pub crew : Crew
  pub worked : HasWorked crew
  pub key_is : key_of crew.reader.end.queue ≡ key
  pub first_is : crew.reader.end.row.first ≡ first
  pub given_is : messages_of crew.writers.items ≡ given
  pub told_is : IsToldOf crew told

-- how a run may end
abbrev pub IsEnding : Key → ℕ → List (List (List ℕ)) → Ending → Type 0
IsEnding key first given (Settled outcome) = KeepsHeadline key first given outcome
IsEnding key first given (Unsettled told) = IsToldOfWork key first given told
