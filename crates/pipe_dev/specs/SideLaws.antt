-- What each call of an end makes of what the end has read or written, and what a finish of all ends
-- finds. From these laws alone a caller's proof reaches from the making of a pipe to its finish.
use Rattle.std.specs.Prelude.{◌≡◌, ◌≢◌, ◌+◌, ℕ, List, [], Result}
use Rattle.sync_base.specs.declared.fault.Fault.{Fault}
use Rattle.sync_base.specs.declared.mode.Mode.TheVariants.{Message}
use Rattle.sleep_wakeup.specs.Kernel.{Running}
use Rattle.block_queue.specs.declared.entry.Entry.TheVariants.{Hung}
use Rattle.block_queue.specs.declared.queue.Queue.{Queue}
use Rattle.block_queue.specs.Meaning.{Enters}
use Rattle.block_queue.specs.Seats.{key_of}
use Rattle.pipe_dev.specs.declared.answers.ReadAnswer.{ReadAnswer}
use Rattle.pipe_dev.specs.declared.answers.TryAnswer.{TryAnswer}
use Rattle.pipe_dev.specs.declared.closing.Held.{Held}
use Rattle.pipe_dev.specs.declared.pipe.DirectionStart.{DirectionStart}
use Rattle.pipe_dev.specs.BlockReads.{ReadsBlock}
use Rattle.pipe_dev.specs.Chain.{AddsRead, AddsTry, AddsNone, written_by}
use Rattle.pipe_dev.specs.Ends.{ReadSide, WriteSide, AreAllEnds, IsSameReadEnd, IsSameWriteEnd}
use Rattle.pipe_dev.specs.Finishing.{GivesHeld}
use Rattle.pipe_dev.specs.Openings.{IsDirectionStartOf, AreNewEnds}
use Rattle.pipe_dev.specs.Parts.{Part}
use Rattle.pipe_dev.specs.ReadCalls.{Reads, Tries, calling}
use Rattle.pipe_dev.specs.Sides.{HasReadJust, AreUnused, AddsToRead, AddsToWritten}
use Rattle.pipe_dev.specs.Sides.{AreSameWriteEnds, FindsAccepted}
use Rattle.pipe_dev.specs.WriteCalls.{Writes, call_of, writer_of}

-- the ends of a new direction have read and written nothing
abbrev pub NewEndsAreUnused : Type 0
NewEndsAreUnused =
    (queue : Queue) (start : DirectionStart) (read : ReadSide) (writes : List WriteSide)
    → IsDirectionStartOf queue start → AreNewEnds queue start.row read writes
    → AreUnused read writes

-- what `read`, `try_read`, `read_block` and `hangup` say of a read end, on the end itself
abbrev pub ReadsAddToTheirEnd : Type 0
ReadsAddToTheirEnd =
    (old new : ReadSide) (before after : Running) (buffer : List ℕ)
    (answer : Result ReadAnswer Fault) (buffer' : List ℕ) → buffer ≢ []
    → Reads (key_of old.queue) old.row (calling old before buffer) answer
    (calling new after buffer')
    → IsSameReadEnd old new
    → (parts : List Part) → HasReadJust old parts
    → AddsToRead (AddsRead old.row.mode answer buffer') old parts new

abbrev pub TriesAddToTheirEnd : Type 0
TriesAddToTheirEnd =
    (old new : ReadSide) (before after : Running) (buffer : List ℕ) (answer : TryAnswer)
    (buffer' : List ℕ) → buffer ≢ []
    → Tries (key_of old.queue) old.row (calling old before buffer) answer
    (calling new after buffer')
    → IsSameReadEnd old new
    → (parts : List Part) → HasReadJust old parts
    → AddsToRead (AddsTry old.row.mode answer buffer') old parts new

abbrev pub BlockReadsAddToTheirEnd : Type 0
BlockReadsAddToTheirEnd =
    (old new : ReadSide) (before after : Running) (block : List ℕ)
    (answer : Result ReadAnswer Fault) (block' : List ℕ)
    → ReadsBlock (key_of old.queue) old.row (calling old before block) answer
    (calling new after block')
    → IsSameReadEnd old new
    → (parts : List Part) → HasReadJust old parts
    → AddsToRead (AddsRead Message answer block') old parts new

abbrev pub ReadEndsHangUp : Type 0
ReadEndsHangUp =
    (old new : ReadSide) → Enters (key_of old.queue) (Hung 0) old.account new.account
    → new.rest ≡ old.rest → IsSameReadEnd old new
    → (parts : List Part) → HasReadJust old parts → AddsToRead AddsNone old parts new

-- what `write` and `hangup` say of a write end, on the end itself
abbrev pub WritesAddToTheirEnd : Type 0
WritesAddToTheirEnd =
    (old new : WriteSide) (before after : Running) (block : List ℕ) (answer : Result ℕ Fault)
    → Writes (call_of old block) (writer_of old before) answer (writer_of new after)
    → IsSameWriteEnd old new → AddsToWritten (written_by answer block) old new

abbrev pub WriteEndsHangUp : Type 0
WriteEndsHangUp =
    (old new : WriteSide)
    → Enters (key_of old.queue) (Hung (old.writer + 1)) old.account new.account
    → IsSameWriteEnd old new → AddsToWritten [] old new

-- ends that were all ends of a direction still are after any calls
abbrev pub CallsKeepAllEnds : Type 0
CallsKeepAllEnds =
    (read read' : ReadSide) (writes writes' : List WriteSide) → IsSameReadEnd read read'
    → AreSameWriteEnds writes writes' → AreAllEnds read writes → AreAllEnds read' writes'

-- and a finish of them finds all that was accepted
abbrev pub FinishesFindAccepted : Type 0
FinishesFindAccepted =
    (read : ReadSide) (parts : List Part) (writes : List WriteSide) (held : Held)
    → HasReadJust read parts → GivesHeld read writes held
    → FindsAccepted read parts writes held
