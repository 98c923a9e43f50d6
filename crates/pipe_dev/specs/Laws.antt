-- The headline: each write is read whole and once, and no write is accepted after a hangup.
use Rattle.std.specs.Prelude.{◌≡◌, ◌+◌, ℕ, ⊤, List, [], ◌∷◌, ◌++◌, reverse}
use Rattle.std.specs.List.{AllByRecursion}
use Rattle.histories.specs.declared.account.Share.{Share}
use Rattle.histories.specs.History.{IsHistory}
use Rattle.block_queue.specs.declared.entry.Entry.{Entry}
use Rattle.block_queue.specs.declared.entry.Entry.TheVariants.{Taken}
use Rattle.block_queue.specs.declared.entry.Entry.TheVariants.{Hung}
use Rattle.block_queue.specs.declared.view.Key.{Key}
use Rattle.block_queue.specs.History.{opening_state}
use Rattle.block_queue.specs.Meaning.{queue_meaning}
use Rattle.block_queue.specs.Seats.{key_of}
use Rattle.pipe_dev.specs.declared.closing.Held.{Held}
use Rattle.pipe_dev.specs.Chain.{IsMade, HasWritten}
use Rattle.pipe_dev.specs.Ends.{ReadSide, WriteSide, reading_of}
use Rattle.pipe_dev.specs.Finishing.{Holdings, Finishes, GivesHeld, accepted_in, holdings_of}
use Rattle.pipe_dev.specs.Parts.{Part, pieces_of, continued, whole_from, bytes_by}
use Rattle.pipe_dev.specs.Reading.{Reading, IsReading, seen_state}

-- what was read from the end, continued by the rest that it holds, and then the writes that it
-- holds, the oldest first
abbrev pub read_and_held : Key → Reading → Holdings → List Part
read_and_held key reading held =
    reverse (pieces_of (continued reading.rest reading.parts))
    ++ whole_from (seen_state key reading).read_whole held.writes

-- for a writer these are the bytes of the writes that its entries say were accepted, in its order
abbrev pub IsAllOfWriter : List Part → Share Entry → Type 0
IsAllOfWriter pieces share =
    (writer : ℕ) → share.number ≡ writer + 1 → bytes_by writer pieces ≡ accepted_in share.mine

-- Whoever has all seats of a direction back finds: what was read, followed by what is still held,
-- is for each writer the bytes of its accepted writes, in its order, each whole, contiguous and
-- once.
abbrev pub EachShareIsReadWholeAndOnce : Type 0
EachShareIsReadWholeAndOnce =
    (key : Key) (reading : Reading) (writers : List (Share Entry)) (held : Holdings)
    → IsReading key reading
    → Finishes key reading writers held
    → AllByRecursion (IsAllOfWriter (read_and_held key reading held)) writers

-- for a write end these are the bytes of the writes that were answered with a number, in order
abbrev pub IsAllWritten : List Part → WriteSide → Type 0
IsAllWritten pieces write =
    (blocks : List (List ℕ)) → HasWritten write.account write.writer blocks
    → bytes_by write.writer pieces ≡ blocks

-- what was read from the end and what a finish gave
abbrev pub found_at : ReadSide → List Part → Held → List Part
found_at read parts held =
    read_and_held (key_of read.queue) (reading_of read parts) (holdings_of held)

-- Whatever calls were made of the ends of a direction: what was read from it, followed by what it
-- still holds, is for each writer the bytes of its accepted writes, in its order, each write whole,
-- contiguous and once.
abbrev pub EachWriteIsReadWholeAndOnce : Type 0
EachWriteIsReadWholeAndOnce =
    (read : ReadSide) (parts : List Part) (writes : List WriteSide) (held : Held)
    → IsMade (key_of read.queue) (reading_of read parts)
    → GivesHeld read writes held
    → AllByRecursion (IsAllWritten (found_at read parts held)) writes

-- no entry hangs the direction up
abbrev pub IsNeverHung : List Entry → Type 0
IsNeverHung [] = ⊤
IsNeverHung (Hung seat ∷ past) = ⊥
IsNeverHung (entry ∷ past) = IsNeverHung past

-- no hangup comes before a write that was accepted
abbrev pub NoWriteAfterHangup : List Entry → Type 0
NoWriteAfterHangup [] = ⊤
NoWriteAfterHangup (Taken writer block number ∷ past) =
    IsNeverHung past × NoWriteAfterHangup past
NoWriteAfterHangup (entry ∷ past) = NoWriteAfterHangup past

-- this holds of every legal history of a direction
abbrev pub NoneIsAcceptedAfterHangup : Type 0
NoneIsAcceptedAfterHangup =
    (key : Key) (history : List Entry)
    → IsHistory (queue_meaning key.first) (opening_state key.limit) (key.writers + 1) history
    → NoWriteAfterHangup history
