-- No wakeup of a pipe is lost. A process that waits for a write or for room is taken out of the
-- Rendez by the wakeup of the call that made its condition true, once that call has returned; and
-- the level of that wakeup is above the number with which the process had to wait.
use Rattle.std.specs.Prelude.{◌≡◌, ◌≢◌, ◌+◌, ◌<◌, ℕ, ⊤, List, [], ◌∷◌, ◌++◌, Some, Ok}
use Rattle.histories.specs.History.{IsHistory}
use Rattle.sync_base.specs.declared.limits.TheConstants.{TOP_LEVEL}
use Rattle.sleep_core.specs.Laws.{ReleasesBelow}
use Rattle.sleep_core.specs.Runs.{world_of}
use Rattle.sleep_core.specs.State.{State}
use Rattle.rendez_words.specs.declared.view.Sizes.{Sizes}
use Rattle.rendez_words.specs.Process.{Process}
use Rattle.rendez_words.specs.Rule.{ShowsCore}
use Rattle.block_queue.specs.declared.entry.Entry.{Entry}
use Rattle.block_queue.specs.declared.entry.Entry.TheVariants.{Stood, Full, Block, NotYet}
use Rattle.block_queue.specs.declared.view.Key.{Key}
use Rattle.block_queue.specs.History.{opening_state}
use Rattle.block_queue.specs.Meaning.{queue_meaning}
use Rattle.pipe_dev.specs.declared.answers.ReadAnswer.{ReadAnswer}
use Rattle.pipe_dev.specs.declared.row.Row.{Row}
use Rattle.pipe_dev.specs.BlockReads.{AsksForBlock, RunsABlockRead}
use Rattle.pipe_dev.specs.ReadCalls.{AsksForBytes, Calling, RunsARead}
use Rattle.pipe_dev.specs.Rendezes.{WakesAll, WakesWith, reader_rendez, writer_rendez}
use Rattle.pipe_dev.specs.WriteCalls.{WriteCall, Writer, Accepts, RunsAWrite}
use Rattle.waiting.specs.declared.call.Reply.TheVariants.{Done}
use Rattle.waiting.specs.Wakeups.{HasGoneOn}

-- A process that fell asleep on the reader's Rendez below the number of a write that was accepted
-- is no longer posted there, once that write has returned.
abbrev pub WritesWakeTheReader : Type 0
WritesWakeTheReader =
    (sizes : Sizes) (s : _) (shows : ShowsCore sizes s)
    → (call : WriteCall) (number : ℕ) (old new : Writer)
    → Accepts call number old new → HasGoneOn s.views new.process
    → ReleasesBelow (world_of sizes.procs sizes.rendez shows.run) (reader_rendez call.row) number

-- each writer is released below this number
abbrev pub ReleasesWriters : State → Row → ℕ → Type 0
ReleasesWriters state row number =
    (writer : ℕ) → writer < row.writers → ReleasesBelow state (writer_rendez row writer) number

-- The same holds of each writer's Rendez, once a call of a read end has returned that took writes
-- out and woke with the number of the last of them.
abbrev pub ReadsWakeEachWriter : Type 0
ReadsWakeEachWriter =
    (sizes : Sizes) (s : _) (shows : ShowsCore sizes s)
    → (row : Row) (number : ℕ) (before after : Process)
    → WakesWith row (Some number) before after → HasGoneOn s.views after
    → ReleasesWriters (world_of sizes.procs sizes.rendez shows.run) row number

-- a hangup releases everybody on these Rendez
pub record ReleasesAll (state : State) (row : Row) : Type 0 where
  pub reader : ReleasesBelow state (reader_rendez row) TOP_LEVEL
  pub writers : ReleasesWriters state row TOP_LEVEL

abbrev pub HangupsWakeAll : Type 0
HangupsWakeAll =
    (sizes : Sizes) (s : _) (shows : ShowsCore sizes s)
    → (row : Row) (before after : Process) → WakesAll row before after → HasGoneOn s.views after
    → ReleasesAll (world_of sizes.procs sizes.rendez shows.run) row

-- ---- and these wakeups are enough

-- no read took out the write with this number
abbrev pub IsUnread : ℕ → List Entry → Type 0
IsUnread number [] = ⊤
IsUnread number (Block writer block its ∷ past) = (its ≢ number) × IsUnread number past
IsUnread number (entry ∷ past) = IsUnread number past

-- where the reader had to wait, each write that it had not read and that stood later has a number
-- above the number with which it had to wait
abbrev pub AreReadersWokenAbove : List Entry → Type 0
AreReadersWokenAbove history =
    (past since : List Entry) (told writer number : ℕ)
    → history ≡ Stood writer number ∷ (since ++ (NotYet told ∷ past))
    → IsUnread number past → told < number

-- where a writer had to wait for room, each write that was taken out later has a number above the
-- number with which it had to wait
abbrev pub AreWritersWokenAbove : List Entry → Type 0
AreWritersWokenAbove history =
    (past since : List Entry) (waits writer told number : ℕ) (waiting block : List ℕ)
    → history ≡ Block writer block number ∷ (since ++ (Full waits waiting told ∷ past))
    → told < number

-- A write wakes the reader with its number, which is above the number with which the reader has to
-- wait.
abbrev pub WaitingReadersAreWokenAbove : Type 0
WaitingReadersAreWokenAbove =
    (key : Key) (history : List Entry)
    → IsHistory (queue_meaning key.first) (opening_state key.limit) (key.writers + 1) history
    → AreReadersWokenAbove history

-- A read wakes the writers with the number of the write that it took out, which is above the number
-- with which a writer has to wait for room.
abbrev pub WaitingWritersAreWokenAbove : Type 0
WaitingWritersAreWokenAbove =
    (key : Key) (history : List Entry)
    → IsHistory (queue_meaning key.first) (opening_state key.limit) (key.writers + 1) history
    → AreWritersWokenAbove history

-- ---- a call as it is run

-- A write that was accepted wakes the reader, whatever its runner is, and its caller goes on from
-- there.
abbrev pub RunWritesWakeTheReader : Type 0
RunWritesWakeTheReader =
    (sizes : Sizes) (s : _) (shows : ShowsCore sizes s)
    → (call : WriteCall) (number : ℕ) (old new : Writer)
    → RunsAWrite call old (Ok number) new → HasGoneOn s.views new.process
    → ReleasesBelow (world_of sizes.procs sizes.rendez shows.run) (reader_rendez call.row) number

-- the last try of a read with this answer: the writers are released below the number with which it
-- woke them
pub record LastTryReleases (state : State) (key : Key) (row : Row) (answer : ReadAnswer)
    (new : Calling) : Type 0 where
  pub before : Calling
  pub process : Process
  pub asked : AsksForBytes key row before (Done answer) (record new { process = process })
  pub released : (number : ℕ) → WakesWith row (Some number) before.process process
      → ReleasesWriters state row number

-- The same for a read, and the writers.
abbrev pub RunReadsWakeEachWriter : Type 0
RunReadsWakeEachWriter =
    (sizes : Sizes) (s : _) (shows : ShowsCore sizes s)
    → (key : Key) (row : Row) (answer : ReadAnswer) (old new : Calling)
    → RunsARead key row old (Ok answer) new → HasGoneOn s.views new.process
    → LastTryReleases (world_of sizes.procs sizes.rendez shows.run) key row answer new

-- the last request of a read of a block with this answer, and whom it released
pub record LastBlockReleases (state : State) (key : Key) (row : Row) (answer : ReadAnswer)
    (new : Calling) : Type 0 where
  pub before : Calling
  pub process : Process
  pub asked : AsksForBlock key row before (Done answer) (record new { process = process })
  pub released : (number : ℕ) → WakesWith row (Some number) before.process process
      → ReleasesWriters state row number

-- The same for a read of a block.
abbrev pub RunBlockReadsWakeEachWriter : Type 0
RunBlockReadsWakeEachWriter =
    (sizes : Sizes) (s : _) (shows : ShowsCore sizes s)
    → (key : Key) (row : Row) (answer : ReadAnswer) (old new : Calling)
    → RunsABlockRead key row old (Ok answer) new → HasGoneOn s.views new.process
    → LastBlockReleases (world_of sizes.procs sizes.rendez shows.run) key row answer new
