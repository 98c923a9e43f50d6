-- What is no read and no write until a moment, and no writer as it was: each against one row.
use Rattle.std.proofs.Common.{◌≡◌, ◌≢◌, ◌<◌, ◌≤◌, ℕ, List, [], length, Result}
use Rattle.sync_base.specs.declared.fault.Fault.{Fault}
use Rattle.sync_base.specs.declared.fault.Fault.TheVariants.{BadCount, NoRendez, TooBig}
use Rattle.sync_base.specs.declared.limits.TheConstants.{ATOMIC_SIZE}
use Rattle.block_queue.specs.Seats.{key_of}
use Rattle.pipe_dev.specs.declared.answers.Long.{Long}
use Rattle.pipe_dev.specs.declared.answers.ReadAnswer.{ReadAnswer}
use Rattle.pipe_dev.specs.BlockReads.{ReadsBlockBy, RunsABlockRead}
use Rattle.pipe_dev.specs.Ends.{IsSameWriteEnd}
use Rattle.pipe_dev.specs.ReadCalls.{ReadsBy, RunsARead}
use Rattle.pipe_dev.specs.WriteCalls.{IsLongRefusedAs, IsRefusedAs, RunsAWrite, WritesBy}
use Rattle.pipe_dev.specs.WriteCalls.{WritesLongBy, call_of, writer_of}
use Rattle.plan9.specs.Callers.{Writer, IsSameWriter}
use Rattle.plan9.specs.Watches.{until}
use Rattle.plan9.specs.Within.{WatchedRead, WatchedWrite, MayRead, MayWrite, ReadsBlockWithin}
use Rattle.plan9.specs.Within.{ReadsWithin, WritesLongWithin, WritesWithin, read_call, read_point}
use Rattle.plan9.specs.Within.{write_point}

module _ (old new : Writer) where
  a_writer_of_another_end : ¬ IsSameWriteEnd old.end new.end → ¬ IsSameWriter old new
  a_writer_of_another_end other same = other same.end_is

  a_writer_of_another_kernel : new.proc.words ≢ old.proc.words → ¬ IsSameWriter old new
  a_writer_of_another_kernel other same = other same.words_are

module _ (moment : ℕ) (old new : WatchedRead) (answer : Result ReadAnswer Fault) where
  no_bytes_are_read_into : old.buffer ≡ []
      → ¬ IsRefusedAs BadCount (read_point old) answer (read_point new)
      → ¬ ReadsWithin moment old answer new
  no_bytes_are_read_into none other reads = other (reads.bad_count none)

  another_kernel_reads : old.buffer ≢ [] → ¬ MayRead old
      → ¬ IsRefusedAs NoRendez (read_point old) answer (read_point new)
      → ¬ ReadsWithin moment old answer new
  another_kernel_reads some foreign other reads = other (reads.no_rendez some foreign)

  -- it waits for another moment, or it is no read
  read_until_another_moment : old.buffer ≢ [] → MayRead old
      → ¬ ReadsBy (until old.watch moment) (key_of old.reader.end.queue) old.reader.end.row
      (read_point old) answer (read_point new) → ¬ ReadsWithin moment old answer new
  read_until_another_moment some own other reads = other (reads.read some own)

  nothing_is_read : old.buffer ≢ [] → MayRead old
      → ¬ RunsARead (key_of old.reader.end.queue) old.reader.end.row (read_call old) answer
      (read_call new) → ¬ ReadsWithin moment old answer new
  nothing_is_read some own other reads = other (reads.is_read some own)

module _ (moment : ℕ) (old new : WatchedWrite) (bytes : List ℕ) (answer : Result ℕ Fault) where
  too_much_is_written : ATOMIC_SIZE < length bytes
      → ¬ IsRefusedAs TooBig (write_point old) answer (write_point new)
      → ¬ WritesWithin moment old bytes answer new
  too_much_is_written more other writes = other (writes.too_big more)

  another_kernel_writes : length bytes ≤ ATOMIC_SIZE → ¬ MayWrite old
      → ¬ IsRefusedAs NoRendez (write_point old) answer (write_point new)
      → ¬ WritesWithin moment old bytes answer new
  another_kernel_writes fits foreign other writes = other (writes.no_rendez fits foreign)

  -- it waits for another moment, or it is no write
  written_until_another_moment : length bytes ≤ ATOMIC_SIZE → MayWrite old
      → ¬ WritesBy (until old.watch moment) (call_of old.writer.end bytes) (write_point old)
      answer (write_point new) → ¬ WritesWithin moment old bytes answer new
  written_until_another_moment fits own other writes = other (writes.wrote fits own)

  nothing_is_written : length bytes ≤ ATOMIC_SIZE → MayWrite old
      → ¬ RunsAWrite (call_of old.writer.end bytes) (writer_of old.writer.end old.writer.proc)
      answer (writer_of new.writer.end new.writer.proc)
      → ¬ WritesWithin moment old bytes answer new
  nothing_is_written fits own other writes = other (writes.is_write fits own)

module _ (moment : ℕ) (old new : WatchedRead) (answer : Result ReadAnswer Fault) where
  another_kernel_reads_a_block : ¬ MayRead old
      → ¬ IsRefusedAs NoRendez (read_point old) answer (read_point new)
      → ¬ ReadsBlockWithin moment old answer new
  another_kernel_reads_a_block foreign other reads = other (reads.no_rendez foreign)

  -- it waits for another moment, or it is no read of a block
  block_read_until_another_moment : MayRead old
      → ¬ ReadsBlockBy (until old.watch moment) (key_of old.reader.end.queue) old.reader.end.row
      (read_point old) answer (read_point new) → ¬ ReadsBlockWithin moment old answer new
  block_read_until_another_moment own other reads = other (reads.read own)

  no_block_is_read : MayRead old
      → ¬ RunsABlockRead (key_of old.reader.end.queue) old.reader.end.row (read_call old) answer
      (read_call new) → ¬ ReadsBlockWithin moment old answer new
  no_block_is_read own other reads = other (reads.is_read own)

module _ (moment : ℕ) (old new : WatchedWrite) (bytes : List ℕ) (long : Long) where
  another_kernel_writes_long : ¬ MayWrite old
      → ¬ IsLongRefusedAs NoRendez (write_point old) long (write_point new)
      → ¬ WritesLongWithin moment old bytes long new
  another_kernel_writes_long foreign other writes = other (writes.no_rendez foreign)

  -- one of its writes waits for another moment, or is no write
  written_long_until_another_moment : MayWrite old
      → ¬ WritesLongBy (until old.watch moment) (call_of old.writer.end bytes) (write_point old)
      long (write_point new) → ¬ WritesLongWithin moment old bytes long new
  written_long_until_another_moment own other writes = other (writes.wrote own)
