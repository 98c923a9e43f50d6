-- What the calls of a write end do, after pipe(2), pipe(3) and write(2).
use Rattle.std.specs.Prelude.{◌≡◌, ◌⊎◌, ◌+◌, ◌++◌, ℕ, zero, suc, nat_le, false, ⊤}
use Rattle.std.specs.Prelude.{List, [], ◌∷◌, length, take, drop, reverse}
use Rattle.std.specs.Prelude.{Option, Some, None, Result, Ok, Err, if◌then◌else◌}
use Rattle.histories.specs.declared.account.Account.{Account}
use Rattle.sync_base.specs.declared.fault.Fault.{Fault}
use Rattle.sync_base.specs.declared.fault.Fault.TheVariants as fault
use Rattle.sync_base.specs.declared.limits.TheConstants.{ATOMIC_SIZE}
use Rattle.sync_base.specs.declared.note.Note.TheVariants.{ClosedPipe}
use Rattle.sync_base.specs.NoteSet.{only}
use Rattle.rendez_words.specs.Process.{pid_in}
use Rattle.rendez_words.specs.Steps.{notes}
use Rattle.sleep_wakeup.specs.Actions.{WakesOne}
use Rattle.sleep_wakeup.specs.Kernel.{Running}
use Rattle.block_queue.specs.declared.entry.Entry.{Entry}
use Rattle.block_queue.specs.declared.entry.Entry.TheVariants as entry
use Rattle.block_queue.specs.declared.view.Key.{Key}
use Rattle.block_queue.specs.Calls.{Stands}
use Rattle.block_queue.specs.Meaning.{Enters}
use Rattle.block_queue.specs.Seats.{key_of}
use Rattle.block_queue.specs.Steps.{saw_hangup}
use Rattle.pipe_dev.specs.declared.answers.Long.{Long}
use Rattle.pipe_dev.specs.declared.row.Row.{Row}
use Rattle.pipe_dev.specs.Calls.{RunsAs, waits_by}
use Rattle.pipe_dev.specs.Ends.{WriteSide}
use Rattle.pipe_dev.specs.Rendezes.{reader_rendez, writer_rendez}
use Rattle.pipe_dev.specs.Rounds.{OneMore}
use Rattle.waiting.specs.declared.call.Reply.{Reply}
use Rattle.waiting.specs.declared.call.Reply.TheVariants as reply
use Rattle.waiting.specs.Runners.{IsACall, RunPoint, Runs, run_point}
use Rattle.waiting.specs.Waiting.{Promise, Point, Waited, point}

-- the writer between two steps of a call: what its seat knows, and the process that calls
abbrev pub Writer : Type 0
Writer = Point (Account Entry)

abbrev pub writer_of : WriteSide → Running → Writer
writer_of side proc = point side.account proc

-- a call of write: the queue and the Rendez of the direction, the writer, and the bytes
pub record WriteCall : Type 0 where
  pub key : Key
  pub row : Row
  pub writer : ℕ
  pub bytes : List ℕ

-- the write of these bytes at this end
abbrev pub call_of : WriteSide → List ℕ → WriteCall
call_of side bytes =
    record { key = key_of side.queue; row = side.row; writer = side.writer; bytes = bytes }

-- a put found no room: this entry was made, and nothing else was done. A writer that knew of the
-- hangup does not get this answer.
pub record FindsFull (call : WriteCall) (number : ℕ) (old new : Writer) : Type 0 where
  pub entered : Enters call.key (entry.Full call.writer call.bytes number)
      old.seat new.seat
  pub fresh : saw_hangup call.key old.seat ≡ false
  pub process : new.process ≡ old.process

-- the write was accepted and stands, and the reader was woken with its number
pub record Accepts (call : WriteCall) (number : ℕ) (old new : Writer) : Type 0 where
  pub stands : Stands call.key call.writer call.bytes number old.seat new.seat
  pub woken : WakesOne old.process (reader_rendez call.row) number new.process

-- someone hung the direction up in this history
abbrev pub HasHang : List Entry → Type 0
HasHang [] = ⊥
HasHang (entry.Hung seat ∷ past) = ⊤
HasHang (other ∷ past) = HasHang past

-- Hungup: the writer has seen the hangup, and the note of a write on a closed pipe was posted to
-- the process that calls
pub record IsTooLate (call : WriteCall) (old new : Writer) : Type 0 where
  pub entered : Enters call.key (entry.Hungup call.writer call.bytes) old.seat new.seat
  pub knew : HasHang new.seat.seen
  pub noted : new.process ≡ notes old.process (pid_in old.process) (only ClosedPipe)

-- the last number was given
pub record IsWornOut (call : WriteCall) (old new : Writer) : Type 0 where
  pub entered : Enters call.key (entry.Worn call.writer call.bytes) old.seat new.seat
  pub process : new.process ≡ old.process

-- one request of a write, by its answer
abbrev pub AsksForRoom : WriteCall → Writer → Reply ℕ → Writer → Type 0
AsksForRoom call old (reply.Done number) new = Accepts call number old new
AsksForRoom call old (reply.Wait number) new = FindsFull call number old new
AsksForRoom call old (reply.Refused fault.Hungup) new = IsTooLate call old new
AsksForRoom call old (reply.Refused fault.Worn) new = IsWornOut call old new
AsksForRoom call old (reply.Refused why) new = ⊥

-- a write, as its wait asks the queue
abbrev pub writing : WriteCall → Promise (Account Entry) ℕ
writing call = waits_by (AsksForRoom call)

-- What a write did, by its answer. Own: a write above the atomic size is refused first, and then a
-- write by a process whose kernel lacks Rendez of the direction. These two, and a write for whose
-- block there is no memory, do nothing.
abbrev pub Writes : WriteCall → Writer → Result ℕ Fault → Writer → Type 0
Writes call old (Err fault.TooBig) new = new ≡ old
Writes call old (Err fault.NoRendez) new = new ≡ old
Writes call old (Err fault.Memory) new = new ≡ old
Writes call old answer new =
    Waited (writing call) (writer_rendez call.row call.writer) old answer new

-- ---- a write as it is run

-- the state of a write, and the timer that its runner is lent
abbrev pub run_writer : {Timer : Type 0} → WriteSide → Timer → Running
    → RunPoint Timer (Account Entry)
run_writer side timer proc = run_point side.account timer proc

-- the call was refused with this fault before its first request, and did nothing
pub record IsRefusedAs {Out At : Type 0} (why : Fault) (old : At) (answer : Result Out Fault)
    (new : At) : Type 0 where
  pub answer_is : answer ≡ Err why
  pub same : new ≡ old

-- what a write did that was not refused so: there was no memory for its block, or its runner ran it
-- with this result
abbrev pub WritesBy : {Timer : Type 0} → Runs Timer → WriteCall → RunPoint Timer (Account Entry)
    → Result ℕ Fault → RunPoint Timer (Account Entry) → Type 0
WritesBy runs call old answer new =
    IsRefusedAs fault.Memory old answer new
    ⊎ runs.ran (writing call) (writer_rendez call.row call.writer) old answer new

-- and whatever its runner is, it lacked memory, or was a call
abbrev pub RunsAWrite : WriteCall → Writer → Result ℕ Fault → Writer → Type 0
RunsAWrite call old answer new =
    IsRefusedAs fault.Memory old answer new
    ⊎ IsACall (writing call) (writer_rendez call.row call.writer) old answer new

abbrev pub RunsOfWritesAreWrites : Type 0
RunsOfWritesAreWrites =
    (call : WriteCall) (old new : Writer) (answer : Result ℕ Fault)
    → RunsAWrite call old answer new → RunsAs (Writes call old) answer new

-- ---- a long write

-- Own: a long write is writes of the atomic size, and one write of the rest; what fits is one
-- write. The fuel is the length: each write but the last takes some bytes off.
abbrev pub atomic_writes_in : ℕ → List ℕ → List (List ℕ)
atomic_writes_in zero bytes = bytes ∷ []
atomic_writes_in (suc fuel) bytes =
    if nat_le (length bytes) ATOMIC_SIZE then bytes ∷ []
    else take ATOMIC_SIZE bytes ∷ atomic_writes_in fuel (drop ATOMIC_SIZE bytes)

abbrev pub atomic_writes : List ℕ → List (List ℕ)
atomic_writes bytes = atomic_writes_in (length bytes) bytes

-- one of the writes of a long write: these bytes of it
abbrev pub call_for : WriteCall → List ℕ → WriteCall
call_for long block = record long { bytes = block }

-- a write that was accepted, with some number
pub record WritesWell (call : WriteCall) (old new : Writer) : Type 0 where
  pub number : ℕ
  pub accepted : Writes call old (Ok number) new

-- each of these writes of a long write was accepted, one after the other, the newest first
abbrev pub WritesEach : WriteCall → List (List ℕ) → Writer → Writer → Type 0
WritesEach call [] old new = new ≡ old
WritesEach call (block ∷ blocks) old new =
    OneMore (WritesEach call blocks old) (WritesWell (call_for call block)) new

abbrev pub bytes_in : List (List ℕ) → ℕ
bytes_in [] = 0
bytes_in (block ∷ blocks) = bytes_in blocks + length block

-- the long write ended like this: all was written, or the next write got this fault
abbrev pub EndsLong : WriteCall → List (List ℕ) → Writer → Option Fault → Writer → Type 0
EndsLong call done old None new = (new ≡ old) × (reverse done ≡ atomic_writes call.bytes)
EndsLong call done old (Some why) new =
    (block : List ℕ) × (others : List (List ℕ))
    × (atomic_writes call.bytes ≡ reverse done ++ block ∷ others)
    × Writes (call_for call block) old (Err why) new

-- What a long write did: the writes that it is cut into, in their order, up to the first that was
-- not accepted; it counts the bytes of the writes that were.
pub record WritesLong (call : WriteCall) (old : Writer) (long : Long) (new : Writer) :
    Type 0 where
  pub done : List (List ℕ)
  pub between : Writer
  pub written : WritesEach call done old between
  pub taken : long.taken ≡ bytes_in done
  pub ended : EndsLong call done between long.fault new

-- ---- a long write as it is run

-- a long write that was refused with this fault before its first write, and did nothing
pub record IsLongRefusedAs {At : Type 0} (why : Fault) (old : At) (long : Long) (new : At) :
    Type 0 where
  pub long_is : long ≡ record { taken = 0; fault = Some why }
  pub same : new ≡ old

module _ {Timer : Type 0} (runs : Runs Timer) where
  -- a write as it is run, with this answer; and whatever its runner is, it was a write
  pub record RunsWrite (call : WriteCall) (old : RunPoint Timer (Account Entry))
      (answer : Result ℕ Fault) (new : RunPoint Timer (Account Entry)) : Type 0 where
    pub wrote : WritesBy runs call old answer new
    pub is_write : RunsAWrite call old.at answer new.at

  -- a write that was accepted, with some number
  pub record RunsWell (call : WriteCall) (old new : RunPoint Timer (Account Entry)) :
      Type 0 where
    pub number : ℕ
    pub accepted : RunsWrite call old (Ok number) new

  -- each of these writes of a long write was accepted, one after the other, the newest first
  abbrev pub RunsEach : WriteCall → List (List ℕ) → RunPoint Timer (Account Entry)
      → RunPoint Timer (Account Entry) → Type 0
  RunsEach call [] old new = new ≡ old
  RunsEach call (block ∷ blocks) old new =
      OneMore (RunsEach call blocks old) (RunsWell (call_for call block)) new

  -- the long write ended like this: all was written, or the next write got this fault
  abbrev pub EndsLongBy : WriteCall → List (List ℕ) → RunPoint Timer (Account Entry)
      → Option Fault → RunPoint Timer (Account Entry) → Type 0
  EndsLongBy call done old None new = (new ≡ old) × (reverse done ≡ atomic_writes call.bytes)
  EndsLongBy call done old (Some why) new =
      (block : List ℕ) × (others : List (List ℕ))
      × (atomic_writes call.bytes ≡ reverse done ++ block ∷ others)
      × RunsWrite (call_for call block) old (Err why) new

  -- What a long write did that was not refused at once: each of its writes was run by this runner,
  -- up to the first that was not accepted; it counts the bytes of the writes that were.
  pub record WritesLongBy (call : WriteCall) (old : RunPoint Timer (Account Entry)) (long : Long)
      (new : RunPoint Timer (Account Entry)) : Type 0 where
    pub done : List (List ℕ)
    pub between : RunPoint Timer (Account Entry)
    pub written : RunsEach call done old between
    pub taken : long.taken ≡ bytes_in done
    pub ended : EndsLongBy call done between long.fault new
