-- What the reader of a run on threads expects, and what it has counted.
use Rattle.std.specs.Prelude.{◌≡◌, ◌+◌, ◌*◌, ◌<◌, ℕ, true, List, length, slice_get, slice_set}
use Rattle.std.specs.Prelude.{Some, replicate}
use Rattle.crew.specs.declared.opts.Report.{Report}
use Rattle.sync_base.specs.declared.threads_opts.ThreadsOpts.{ThreadsOpts}
use Rattle.crew.specs.declared.tally.Tally.{Tally}
use Rattle.crew.specs.Message.{message_of}

-- The piece is, whole, the next message of its writer, and each writer has this many messages of
-- this size; the message after it is the next then.
pub record TakesNext (each size : ℕ) (old new : List ℕ) (piece : List ℕ) : Type 0 where
  pub writer : ℕ
  pub number : ℕ
  pub expected : slice_get old writer ≡ Some number
  pub within : number < each
  pub whole : piece ≡ message_of size writer number
  pub next : new ≡ slice_set old writer (number + 1)

-- it counts what writers with these options write: so many writers, each with so many messages of
-- this size
pub record IsTallyOf (opts : ThreadsOpts) (tally : Tally) : Type 0 where
  pub most : tally.most ≡ opts.writers * opts.writes
  pub writers : length tally.expected.next.items ≡ opts.writers
  pub each : tally.expected.each ≡ opts.writes
  pub size : tally.expected.size ≡ opts.size

-- both count what the same writers write
pub record AreOfOneRun (old new : Tally) : Type 0 where
  pub most : new.most ≡ old.most
  pub writers : length new.expected.next.items ≡ length old.expected.next.items
  pub each : new.expected.each ≡ old.expected.each
  pub size : new.expected.size ≡ old.expected.size

-- nothing was counted, and so nothing is out of order, and the first message of each writer is next
pub record IsNewTally (tally : Tally) : Type 0 where
  pub next : tally.expected.next.items ≡ replicate (length tally.expected.next.items) 0
  pub writes : tally.writes ≡ 0
  pub bytes : tally.bytes ≡ 0
  pub in_order : tally.in_order ≡ true

-- all was in order, and the piece is the next message of its writer, which is counted
pub record CountsNext (old new : Tally) (piece : List ℕ) : Type 0 where
  pub before : old.in_order ≡ true
  pub next : TakesNext old.expected.each old.expected.size old.expected.next.items
      new.expected.next.items piece
  pub writes : new.writes ≡ old.writes + 1
  pub bytes : new.bytes ≡ old.bytes + length piece

-- the report says what was counted, for this many writers
pub record ReportsTally (writers : ℕ) (tally : Tally) (report : Report) : Type 0 where
  pub writers_is : report.writers ≡ writers
  pub writes : report.writes ≡ tally.writes
  pub bytes : report.bytes ≡ tally.bytes
  pub in_order : report.in_order ≡ tally.in_order
