-- What a read of a whole block does, after pipe(3) and bread of the kernel's devices: it hands over
-- the block that was written, in place of a copy of its bytes.
use Rattle.std.specs.Prelude.{◌≡◌, ◌⊎◌, length, None, Result, Err}
use Rattle.sync_base.specs.declared.fault.Fault.{Fault}
use Rattle.sync_base.specs.declared.fault.Fault.TheVariants as fault
use Rattle.block_queue.specs.declared.answers.TakeAnswer.TheVariants as take_answer
use Rattle.block_queue.specs.declared.entry.Entry.TheVariants as entry
use Rattle.block_queue.specs.declared.view.Key.{Key}
use Rattle.block_queue.specs.Calls.{IsFreshTake}
use Rattle.pipe_dev.specs.declared.answers.ReadAnswer.{ReadAnswer}
use Rattle.pipe_dev.specs.declared.answers.ReadAnswer.TheVariants as read
use Rattle.pipe_dev.specs.declared.row.Row.{Row}
use Rattle.pipe_dev.specs.Filling.{Lending, IsLeft, IsTakenOut, number_of}
use Rattle.pipe_dev.specs.Parts.{Part}
use Rattle.pipe_dev.specs.Calls.{RunsAs, waits_by}
use Rattle.pipe_dev.specs.ReadCalls.{Calling, FindsNone}
use Rattle.pipe_dev.specs.Rendezes.{WakesWith, reader_rendez}
use Rattle.waiting.specs.declared.call.Reply.{Reply}
use Rattle.waiting.specs.declared.call.Reply.TheVariants as reply
use Rattle.waiting.specs.Runners.{IsACall, RunPoint, Runs}
use Rattle.waiting.specs.Waiting.{Promise, Waited}

-- Got: all that is left of the write that was begun, or else the next write; nothing of it is left
pub record GetsBlock (key : Key) (row : Row) (old new : Calling) : Type 0 where
  pub left : Part
  pub next : IsLeft old.seat.taker left new.seat.taker
      ⊎ IsTakenOut key old.seat.taker left new.seat.taker
  pub block_is : new.seat.buffer ≡ left.bytes
  pub rest : new.seat.taker.rest ≡ None
  pub woken : WakesWith row (number_of old.seat.taker.rest left) old.process
      new.process

-- one request of such a read, by its answer; the caller's block is the block that it got, and else
-- as it was
abbrev pub AsksForBlock : Key → Row → Calling → Reply ReadAnswer → Calling → Type 0
AsksForBlock key row old (reply.Done (read.Got count)) new =
    GetsBlock key row old new × (count ≡ length new.seat.buffer)
AsksForBlock key row old (reply.Done read.End) new = FindsNone key entry.End old new
AsksForBlock key row old (reply.Wait number) new =
    FindsNone key (entry.NotYet number) old new
    × IsFreshTake key old.seat.taker.account new.seat.taker.account (take_answer.NotYet number)
AsksForBlock key row old (reply.Refused why) new = ⊥

-- such a read, as its wait asks the queue
abbrev pub block_reading : Key → Row → Promise Lending ReadAnswer
block_reading key row = waits_by (AsksForBlock key row)

-- What such a read did, by its answer, in either mode. Own: a read by a process whose kernel lacks
-- Rendez of the direction does nothing.
abbrev pub ReadsBlock : Key → Row → Calling → Result ReadAnswer Fault → Calling → Type 0
ReadsBlock key row old (Err fault.NoRendez) new = new ≡ old
ReadsBlock key row old answer new =
    Waited (block_reading key row) (reader_rendez row) old answer new

-- ---- a read of a block as it is run

-- what such a read did that was not refused at once
abbrev pub ReadsBlockBy : {Timer : Type 0} → Runs Timer → Key → Row → RunPoint Timer Lending
    → Result ReadAnswer Fault → RunPoint Timer Lending → Type 0
ReadsBlockBy runs key row = runs.ran (block_reading key row) (reader_rendez row)

-- and whatever its runner is, it was a call
abbrev pub RunsABlockRead : Key → Row → Calling → Result ReadAnswer Fault → Calling → Type 0
RunsABlockRead key row = IsACall (block_reading key row) (reader_rendez row)

abbrev pub RunsOfBlockReadsAreBlockReads : Type 0
RunsOfBlockReadsAreBlockReads =
    (key : Key) (row : Row) (old new : Calling) (answer : Result ReadAnswer Fault)
    → RunsABlockRead key row old answer new → RunsAs (ReadsBlock key row old) answer new
