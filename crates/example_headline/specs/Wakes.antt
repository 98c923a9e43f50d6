-- Which sleepers the calls of a direction wake, and what becomes of processes that fell asleep
-- before.
use Rattle.std.specs.Prelude.{◌<◌, ⊤, ℕ, List}
use Rattle.histories.specs.History.{IsPast}
use Rattle.sync_base.specs.declared.ids.RendezId.{RendezId}
use Rattle.sync_base.specs.declared.limits.TheConstants.{TOP_LEVEL}
use Rattle.sleep_core.specs.History.{HasReturned, history_of}
use Rattle.sleep_core.specs.Laws.{ReleasesBelow}
use Rattle.sleep_core.specs.Runs.{IsRun, kept, own, world_of}
use Rattle.sleep_core.specs.Runs as core
use Rattle.rendez_words.specs.Process.{Process}
use Rattle.block_queue.specs.declared.entry.Entry.{Entry}
use Rattle.block_queue.specs.declared.entry.Entry.TheVariants.{Taken, Block, Hung}
use Rattle.pipe_dev.specs.declared.row.Row.{Row}
use Rattle.pipe_dev.specs.Rendezes.{reader_rendez, writer_rendez}

-- this holds of the Rendez of each writer, with this level
abbrev pub EachWriter : (RendezId → ℕ → Type 0) → Row → ℕ → Type 0
EachWriter Holds row level =
    (writer : ℕ) → writer < row.writers → Holds (writer_rendez row writer) level

-- Which sleepers an entry wakes, after pipe(2): a write that is accepted wakes the reader, with its
-- number; a read that takes a write out wakes each writer, with the number of that write; and a
-- hangup wakes everybody.
abbrev pub Wakes : (RendezId → ℕ → Type 0) → Row → Entry → Type 0
Wakes Holds row (Taken writer block number) = Holds (reader_rendez row) number
Wakes Holds row (Block writer block number) = EachWriter Holds row number
Wakes Holds row (Hung seat) =
    Holds (reader_rendez row) TOP_LEVEL × EachWriter Holds row TOP_LEVEL
Wakes Holds row entry = ⊤

-- a wakeup of this Rendez with this level has returned in these steps
abbrev pub HasReturnedIn : List core.Entry → RendezId → ℕ → Type 0
HasReturnedIn steps rendez level = HasReturned (history_of steps) rendez.0 level

-- A moment of the threads of a kernel: the processes had made this run of steps by then. The steps
-- of this process among them were the first of those that it came to make.
pub record Moment (process : Process) : Type 0 where
  pub procs : ℕ
  pub rendez : ℕ
  pub run : List core.Entry
  pub legal : IsRun procs rendez run
  pub earlier : IsPast (kept (own process.pid run)) process.trace

-- This process has woken the Rendez with this level, and its wakeup has returned. At each moment
-- since then, no process that fell asleep there below the level is posted any more.
pub record HasWoken (process : Process) (rendez : RendezId) (level : ℕ) : Type 0 where
  pub returned : HasReturnedIn process.trace rendez level
  pub released : (moment : Moment process)
      → HasReturnedIn (kept (own process.pid moment.run)) rendez level
      → ReleasesBelow (world_of moment.procs moment.rendez moment.run) rendez level
