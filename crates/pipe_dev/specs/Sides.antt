-- What is said of an end between its calls: what it has read, or what it has written. It speaks of
-- the end alone, so a value that a thread lends or gives back can carry it.
use Rattle.std.specs.Prelude.{◌≡◌, ◌++◌, ◌<◌, ℕ, List, []}
use Rattle.std.specs.List.{AllByRecursion, AllZip}
use Rattle.sync_base.specs.Write.{Write}
use Rattle.block_queue.specs.Seats.{key_of}
use Rattle.pipe_dev.specs.declared.closing.Held.{Held}
use Rattle.pipe_dev.specs.Chain.{IsMade, HasWritten}
use Rattle.pipe_dev.specs.Ends.{ReadSide, WriteSide, reading_of, IsSameReadEnd, IsSameWriteEnd}
use Rattle.pipe_dev.specs.Laws.{IsAllWritten, found_at}
use Rattle.pipe_dev.specs.Parts.{Part, whole_from}

-- the read end has read just these parts since its pipe was made, the newest first
abbrev pub HasReadJust : ReadSide → List Part → Type 0
HasReadJust read parts = IsMade (key_of read.queue) (reading_of read parts)

-- the write end has written just these writes since its pipe was made, the oldest first
abbrev pub HasWrittenJust : WriteSide → List (List ℕ) → Type 0
HasWrittenJust write blocks = HasWritten write.account write.writer blocks

-- nothing was called on any of these ends
pub record AreUnused (read : ReadSide) (writes : List WriteSide) : Type 0 where
  pub read_none : HasReadJust read []
  pub written_none : AllByRecursion (λ write. HasWrittenJust write []) writes

-- a call of a read end that had read these parts: it adds this to them, and the end stays at its
-- direction
pub record AddsToRead (Adds : List Part → List Part → Type 0) (old : ReadSide)
    (parts : List Part) (new : ReadSide) : Type 0 where
  pub same : IsSameReadEnd old new
  pub parts' : List Part
  pub added : Adds parts parts'
  pub just : HasReadJust new parts'

-- a call of a write end: it adds these after what was written, and the end stays at its direction
pub record AddsToWritten (blocks : List (List ℕ)) (old new : WriteSide) : Type 0 where
  pub same : IsSameWriteEnd old new
  pub just : (before : List (List ℕ)) → HasWrittenJust old before →
      HasWrittenJust new (before ++ blocks)

-- calls leave each of these write ends at its direction, and keep their order
abbrev pub AreSameWriteEnds : List WriteSide → List WriteSide → Type 0
AreSameWriteEnds olds news = AllZip IsSameWriteEnd olds news

-- What was read from a direction and what a finish gave are just these accepted writes, each whole,
-- contiguous and once, in the order in which they were accepted. Each is by one of the direction's
-- writers, and the writes of a write end are just what it has written.
pub record FindsAccepted (read : ReadSide) (parts : List Part) (writes : List WriteSide)
    (held : Held) : Type 0 where
  pub accepted : List Write
  pub whole : found_at read parts held ≡ whole_from 0 accepted
  pub known : AllByRecursion (λ write. write.writer < (key_of read.queue).writers) accepted
  pub theirs : AllByRecursion (IsAllWritten (found_at read parts held)) writes
