-- What reads and writes do that wait until a moment. Own.
use Rattle.std.specs.Prelude.{◌≡◌, ◌≢◌, ◌<◌, ◌≤◌, ℕ, List, [], length, Result}
use Rattle.sync_base.specs.declared.fault.Fault.{Fault}
use Rattle.sync_base.specs.declared.fault.Fault.TheVariants.{BadCount, NoRendez, TooBig}
use Rattle.sync_base.specs.declared.limits.TheConstants.{ATOMIC_SIZE}
use Rattle.histories.specs.declared.account.Account.{Account}
use Rattle.block_queue.specs.declared.entry.Entry.{Entry}
use Rattle.block_queue.specs.Seats.{key_of}
use Rattle.pipe_dev.specs.declared.answers.Long.{Long}
use Rattle.pipe_dev.specs.declared.answers.ReadAnswer.{ReadAnswer}
use Rattle.pipe_dev.specs.BlockReads.{ReadsBlockBy, RunsABlockRead}
use Rattle.pipe_dev.specs.Filling.{Lending}
use Rattle.pipe_dev.specs.ReadCalls.{Calling, ReadsBy, RunsARead, calling, run_call}
use Rattle.pipe_dev.specs.Rendezes.{OwnsRow}
use Rattle.pipe_dev.specs.WriteCalls.{IsLongRefusedAs, IsRefusedAs, RunsAWrite, WritesBy}
use Rattle.pipe_dev.specs.WriteCalls.{WritesLongBy, call_of, run_writer, writer_of}
use Rattle.timer_list.specs.Timing.{TimedPoint}
use Rattle.plan9.specs.Callers.{Reader, Writer}
use Rattle.plan9.specs.Watches.{Watching, until}

-- a read with a watch: the reader, what its buffer holds, and the watch
pub record WatchedRead : Type 0 where
  pub reader : Reader
  pub buffer : List ℕ
  pub watch : Watching

abbrev pub watched_read : Reader → List ℕ → Watching → WatchedRead
watched_read reader buffer watch = record { reader = reader; buffer = buffer; watch = watch }

-- the state of that call, without its watch and with it
abbrev pub read_call : WatchedRead → Calling
read_call it = calling it.reader.end it.reader.proc it.buffer

abbrev pub read_point : WatchedRead → TimedPoint Lending
read_point it = run_call (read_call it) it.watch.seat

-- a write with a watch: the writer, and the watch
pub record WatchedWrite : Type 0 where
  pub writer : Writer
  pub watch : Watching

abbrev pub watched_write : Writer → Watching → WatchedWrite
watched_write writer watch = record { writer = writer; watch = watch }

-- the state of that call
abbrev pub write_point : WatchedWrite → TimedPoint (Account Entry)
write_point it = run_writer it.writer.end it.watch.seat it.writer.proc

-- the kernel of the process has the Rendez of the direction
abbrev pub MayRead : WatchedRead → Type 0
MayRead it = OwnsRow it.reader.proc.words it.reader.end.row

abbrev pub MayWrite : WatchedWrite → Type 0
MayWrite it = OwnsRow it.writer.proc.words it.writer.end.row

-- A read until a moment. A buffer of no bytes is refused first, and then a process of a kernel that
-- has too few Rendez for the direction. Else it read, slept and woke so, and asked its timers so;
-- and what holds of a read without a deadline holds of it.
pub record ReadsWithin (moment : ℕ) (old : WatchedRead) (answer : Result ReadAnswer Fault)
    (new : WatchedRead) : Type 0 where
  pub bad_count : old.buffer ≡ [] → IsRefusedAs BadCount (read_point old) answer (read_point new)
  pub no_rendez : old.buffer ≢ [] → ¬ MayRead old
      → IsRefusedAs NoRendez (read_point old) answer (read_point new)
  pub read : old.buffer ≢ [] → MayRead old
      → ReadsBy (until old.watch moment) (key_of old.reader.end.queue) old.reader.end.row
      (read_point old) answer (read_point new)
  pub is_read : old.buffer ≢ [] → MayRead old
      → RunsARead (key_of old.reader.end.queue) old.reader.end.row (read_call old) answer
      (read_call new)

-- A write until a moment. A write above the atomic size is refused first, and then a process of a
-- kernel that has too few Rendez for the direction. Else it wrote, slept and woke so, and asked its
-- timers so, or wanted memory; and what holds of a write without a deadline holds of it.
pub record WritesWithin (moment : ℕ) (old : WatchedWrite) (bytes : List ℕ)
    (answer : Result ℕ Fault) (new : WatchedWrite) : Type 0 where
  pub too_big : ATOMIC_SIZE < length bytes
      → IsRefusedAs TooBig (write_point old) answer (write_point new)
  pub no_rendez : length bytes ≤ ATOMIC_SIZE → ¬ MayWrite old
      → IsRefusedAs NoRendez (write_point old) answer (write_point new)
  pub wrote : length bytes ≤ ATOMIC_SIZE → MayWrite old
      → WritesBy (until old.watch moment) (call_of old.writer.end bytes) (write_point old) answer
      (write_point new)
  pub is_write : length bytes ≤ ATOMIC_SIZE → MayWrite old
      → RunsAWrite (call_of old.writer.end bytes) (writer_of old.writer.end old.writer.proc)
      answer (writer_of new.writer.end new.writer.proc)

-- A read of a block until a moment; the buffer is the caller's block. A process of a kernel that
-- has too few Rendez for the direction is refused first. Else it read, slept and woke so, and asked
-- its timers so; and what holds of such a read without a deadline holds of it.
pub record ReadsBlockWithin (moment : ℕ) (old : WatchedRead) (answer : Result ReadAnswer Fault)
    (new : WatchedRead) : Type 0 where
  pub no_rendez : ¬ MayRead old → IsRefusedAs NoRendez (read_point old) answer (read_point new)
  pub read : MayRead old
      → ReadsBlockBy (until old.watch moment) (key_of old.reader.end.queue) old.reader.end.row
      (read_point old) answer (read_point new)
  pub is_read : MayRead old
      → RunsABlockRead (key_of old.reader.end.queue) old.reader.end.row (read_call old) answer
      (read_call new)

-- A long write until a moment, which is that of each of its writes. A process of a kernel that has
-- too few Rendez for the direction is refused first. Else each write was made so, up to the first
-- that was not accepted.
pub record WritesLongWithin (moment : ℕ) (old : WatchedWrite) (bytes : List ℕ) (long : Long)
    (new : WatchedWrite) : Type 0 where
  pub no_rendez : ¬ MayWrite old
      → IsLongRefusedAs NoRendez (write_point old) long (write_point new)
  pub wrote : MayWrite old
      → WritesLongBy (until old.watch moment) (call_of old.writer.end bytes) (write_point old) long
      (write_point new)
