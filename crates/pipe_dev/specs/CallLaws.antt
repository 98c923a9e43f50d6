-- What each call of an end adds to the parts that were read and the writes that were made.
use Rattle.std.specs.Prelude.{◌≡◌, ◌≢◌, ◌+◌, ◌++◌, ℕ, List, [], length, Result}
use Rattle.histories.specs.declared.account.Account.{Account}
use Rattle.sync_base.specs.declared.fault.Fault.{Fault}
use Rattle.sync_base.specs.declared.mode.Mode.TheVariants.{Message}
use Rattle.block_queue.specs.declared.entry.Entry.{Entry}
use Rattle.block_queue.specs.declared.entry.Entry.TheVariants.{End, Hung, NotYet}
use Rattle.block_queue.specs.declared.view.Key.{Key}
use Rattle.block_queue.specs.Meaning.{Enters}
use Rattle.block_queue.specs.Opening.{new_account}
use Rattle.pipe_dev.specs.declared.answers.ReadAnswer.{ReadAnswer}
use Rattle.pipe_dev.specs.declared.answers.ReadAnswer.TheVariants as read
use Rattle.pipe_dev.specs.declared.answers.TryAnswer.{TryAnswer}
use Rattle.pipe_dev.specs.declared.row.Row.{Row}
use Rattle.pipe_dev.specs.BlockReads.{ReadsBlock}
use Rattle.pipe_dev.specs.Chain.{IsMade, IsOfSteps, AddsRead, AddsTry, AddsNone}
use Rattle.pipe_dev.specs.Chain.{HasWritten, written_by}
use Rattle.pipe_dev.specs.Filling.{IsFilledBy, Taker, TakesPart, number_of}
use Rattle.pipe_dev.specs.Parts.{Part}
use Rattle.pipe_dev.specs.ReadCalls.{AsksForBytes, Calling, FindsNone, Reads, Tries}
use Rattle.pipe_dev.specs.Reading.{Reading, IsReading}
use Rattle.pipe_dev.specs.Rendezes.{WakesWith}
use Rattle.pipe_dev.specs.WriteCalls.{WriteCall, Writer, Writes}
use Rattle.waiting.specs.declared.call.Reply.{Reply}
use Rattle.waiting.specs.declared.call.Reply.TheVariants as reply

-- a try that got bytes read one part, with all the room of its buffer
pub record GetsOne (key : Key) (row : Row) (old : Calling) (count : ℕ) (new : Calling) :
    Type 0 where
  pub part : Part
  pub taken : TakesPart key (length old.seat.buffer) old.seat.taker part
      new.seat.taker
  pub filled : IsFilledBy part.bytes old.seat.buffer new.seat.buffer count
  pub woken : WakesWith row (number_of old.seat.taker.rest part) old.process
      new.process

-- and a try that got no bytes found nothing
abbrev pub ReadsOneOrNone : Key → Row → Calling → Reply ReadAnswer → Calling → Type 0
ReadsOneOrNone key row old (reply.Done (read.Got count)) new = GetsOne key row old count new
ReadsOneOrNone key row old (reply.Done read.End) new = FindsNone key End old new
ReadsOneOrNone key row old (reply.Wait number) new = FindsNone key (NotYet number) old new
ReadsOneOrNone key row old (reply.Refused why) new = ⊥

-- After pipe(3). No try of messages joins two writes: it reads one part, or finds nothing.
abbrev pub MessagesAreReadOneByOne : Type 0
MessagesAreReadOneByOne =
    (key : Key) (row : Row) (old : Calling) (told : Reply ReadAnswer) (new : Calling)
    → row.mode ≡ Message → AsksForBytes key row old told new → ReadsOneOrNone key row old told new

-- each call of a read end is such steps, and the bytes that it got are in its buffer
abbrev pub ReadsAreSteps : Type 0
ReadsAreSteps =
    (key : Key) (row : Row) (old : Calling) (answer : Result ReadAnswer Fault) (new : Calling)
    → old.seat.buffer ≢ [] → Reads key row old answer new
    → (parts : List Part)
    → IsOfSteps key (AddsRead row.mode answer new.seat.buffer) old.seat.taker parts new.seat.taker

abbrev pub TriesAreSteps : Type 0
TriesAreSteps =
    (key : Key) (row : Row) (old : Calling) (answer : TryAnswer) (new : Calling)
    → old.seat.buffer ≢ [] → Tries key row old answer new
    → (parts : List Part)
    → IsOfSteps key (AddsTry row.mode answer new.seat.buffer) old.seat.taker parts new.seat.taker

-- a read of a block adds one part in either mode, whose bytes are the block
abbrev pub BlockReadsAreSteps : Type 0
BlockReadsAreSteps =
    (key : Key) (row : Row) (old : Calling) (answer : Result ReadAnswer Fault) (new : Calling)
    → ReadsBlock key row old answer new
    → (parts : List Part)
    → IsOfSteps key (AddsRead Message answer new.seat.buffer) old.seat.taker parts new.seat.taker

abbrev pub HangupsAreSteps : Type 0
HangupsAreSteps =
    (key : Key) (old new : Taker)
    → Enters key (Hung 0) old.account new.account → new.rest ≡ old.rest
    → (parts : List Part) → IsOfSteps key AddsNone old parts new

-- a read end of a new pipe, after such steps, has read just what it took out
abbrev pub WhatIsReadIsRight : Type 0
WhatIsReadIsRight =
    (key : Key) (reading : Reading) → IsMade key reading → IsReading key reading

-- a new write end has written nothing; a write adds its bytes if and only if it answers a number;
-- and a hangup adds nothing
abbrev pub NewEndsHaveWrittenNothing : Type 0
NewEndsHaveWrittenNothing = (writer : ℕ) → HasWritten (new_account (writer + 1)) writer []

abbrev pub WritesAddWhatWasAccepted : Type 0
WritesAddWhatWasAccepted =
    (call : WriteCall) (old : Writer) (answer : Result ℕ Fault) (new : Writer)
    → Writes call old answer new
    → (blocks : List (List ℕ)) → HasWritten old.seat call.writer blocks
    → HasWritten new.seat call.writer (blocks ++ written_by answer call.bytes)

abbrev pub HangupsWriteNothing : Type 0
HangupsWriteNothing =
    (key : Key) (writer : ℕ) (old new : Account Entry) → Enters key (Hung (writer + 1)) old new
    → (blocks : List (List ℕ)) → HasWritten old writer blocks → HasWritten new writer blocks
