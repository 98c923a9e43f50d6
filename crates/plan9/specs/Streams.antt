-- What std's `Read` and `Write` do of a reader and a writer. After std::io.
use Rattle.std.specs.Prelude.{◌≡◌, ◌≢◌, ◌⊎◌, ◌↔◌, ℕ, zero, suc, min, List, [], length, take}
use Rattle.std.specs.Prelude.{Option, Some, None, Result, Ok, Err, IsErrOf}
use Rattle.std.specs.IoError.{error_kind}
use Rattle.std.specs.declared.io.Error.{Error}
use Rattle.std.specs.declared.io.ErrorKind.{ErrorKind}
use Rattle.std.specs.declared.io.ErrorKind.TheVariants as kind
use Rattle.sync_base.specs.declared.fault.Fault.{Fault}
use Rattle.sync_base.specs.declared.fault.Fault.TheVariants as fault
use Rattle.sync_base.specs.declared.limits.TheConstants.{ATOMIC_SIZE}
use Rattle.pipe_dev.specs.Ends.{ReadSide}
use Rattle.sleep_wakeup.specs.Kernel.{Running}
use Rattle.pipe_dev.specs.Rendezes.{OwnsRow}
use Rattle.pipe_dev.specs.Rounds.{Rounds}
use Rattle.pipe_dev.specs.WriteCalls.{Writes, call_of, writer_of}
use Rattle.plan9.specs.Callers.{Reader, Writer, IsSameWriter, reader}
use Rattle.plan9.specs.Readings.{ReadsPiece}

-- the kind of error that a fault is; notes are no kind that std's calls pass over
abbrev pub kind_of : Fault → ErrorKind
kind_of fault.Memory = kind.OutOfMemory
kind_of fault.Hungup = kind.BrokenPipe
kind_of fault.DoubleSleep = kind.ResourceBusy
kind_of other = kind.Other

-- the error is of the kind of this fault, which is kept beside the error
pub record IsErrorFor (fault : Fault) (kept : Option Fault) (error : Error) : Type 0 where
  pub kept_is : kept ≡ Some fault
  pub kind_is : error_kind error ≡ kind_of fault

-- ---- a read

-- a reader, and the buffer that it fills
pub record Lent : Type 0 where
  pub reader : Reader
  pub buffer : List ℕ

abbrev pub lent : ReadSide → Running → List ℕ → Lent
lent end proc buffer = record { reader = reader end proc; buffer = buffer }

-- one piece, or the end, or a fault
abbrev pub Takes : Lent → Result (Option ℕ) Fault → Lent → Type 0
Takes old answer new = ReadsPiece old.reader old.buffer answer new.reader new.buffer

-- an empty write was read, which has no byte
abbrev pub PassesEmpty : Lent → Lent → Type 0
PassesEmpty old new = Takes old (Ok (Some 0)) new

-- in std a read of no bytes says that the end came
abbrev pub piece_or_end : ℕ → Option ℕ
piece_or_end zero = None
piece_or_end (suc count) = Some (suc count)

-- how a read of the stream ends, with this as the last fault
abbrev pub EndsTaking : Lent → Result ℕ Error → Option Fault → Lent → Type 0
EndsTaking old (Ok count) kept new = Takes old (Ok (piece_or_end count)) new
EndsTaking old (Err error) kept new =
    (why : Fault) × Takes old (Err why) new × IsErrorFor why kept error

-- there is room, and it passed the empty writes, and then it ended
pub record TakesNext (old : Lent) (answer : Result ℕ Error) (kept : Option Fault) (new : Lent) :
    Type 0 where
  pub room : old.buffer ≢ []
  pub times : ℕ
  pub before : Lent
  pub passed : Rounds PassesEmpty times old before
  pub ended : EndsTaking before answer kept new

-- a buffer with no room has no bytes, and nothing is done
pub record TakesNothing (old : Lent) (answer : Result ℕ Error) (new : Lent) : Type 0 where
  pub no_room : old.buffer ≡ []
  pub answer_is : answer ≡ Ok 0
  pub same : new ≡ old

-- what a read of the stream did, with this as the last fault after it
abbrev pub Streams : Lent → Result ℕ Error → Option Fault → Lent → Type 0
Streams old answer kept new = TakesNothing old answer new ⊎ TakesNext old answer kept new

-- ---- a write

-- no bytes are no write
pub record WritesNothing (old : Writer) (bytes : List ℕ) (answer : Result ℕ Error)
    (new : Writer) : Type 0 where
  pub no_bytes : bytes ≡ []
  pub answer_is : answer ≡ Ok 0
  pub same : new ≡ old

-- the bytes of one write: the first bytes, up to the atomic size
abbrev pub front_of : List ℕ → List ℕ
front_of bytes = take (min (length bytes) ATOMIC_SIZE) bytes

-- one write of these bytes, with this answer
abbrev pub WritesOnce : Writer → List ℕ → Result ℕ Fault → Writer → Type 0
WritesOnce old bytes answer new =
    Writes (call_of old.end bytes) (writer_of old.end old.proc) answer (writer_of new.end new.proc)

-- one write of the first bytes, with this answer: it is not too big, and it is refused first by a
-- process of a kernel that has too few Rendez for the direction
pub record WritesFront (old : Writer) (bytes : List ℕ) (answer : Result ℕ Fault) (new : Writer) :
    Type 0 where
  pub too_big : ¬ IsErrOf answer fault.TooBig
  pub no_rendez : IsErrOf answer fault.NoRendez ↔ ¬ OwnsRow old.proc.words old.end.row
  pub wrote : WritesOnce old (front_of bytes) answer new

-- the answer to that write, with this as the last fault after it: this many bytes, or an error
abbrev pub EndsWriting :
    Writer → List ℕ → Result ℕ Error → Option Fault → Writer → Type 0
EndsWriting old bytes (Ok count) kept new =
    (count ≡ length (front_of bytes)) × ((number : ℕ) × WritesFront old bytes (Ok number) new)
EndsWriting old bytes (Err error) kept new =
    (why : Fault) × WritesFront old bytes (Err why) new × IsErrorFor why kept error

-- what a write of the stream did
abbrev pub StreamsOut :
    Writer → List ℕ → Result ℕ Error → Option Fault → Writer → Type 0
StreamsOut old bytes answer kept new =
    IsSameWriter old new
    × (WritesNothing old bytes answer new
    ⊎ ((bytes ≢ []) × EndsWriting old bytes answer kept new))
