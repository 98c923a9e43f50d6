-- What reads do that go on, after readn in read(2), said of single reads.
use Rattle.std.specs.Prelude.{◌≡◌, ◌≢◌, ◌↔◌, ◌+◌, ◌++◌, ◌<◌, ◌≤◌, ⊤, ℕ, List, [], length, take}
use Rattle.std.specs.Prelude.{drop, Option, Some, None, Result, Ok, Err, IsErrOf}
use Rattle.sync_base.specs.declared.fault.Fault.{Fault}
use Rattle.sync_base.specs.declared.fault.Fault.TheVariants.{BadCount, NoRendez}
use Rattle.block_queue.specs.Seats.{key_of}
use Rattle.pipe_dev.specs.declared.answers.ReadAnswer.{ReadAnswer}
use Rattle.pipe_dev.specs.declared.answers.ReadAnswer.TheVariants as read
use Rattle.pipe_dev.specs.ReadCalls.{Reads, calling}
use Rattle.pipe_dev.specs.Rendezes.{OwnsRow}
use Rattle.pipe_dev.specs.Rounds.{Rounds}
use Rattle.plan9.specs.declared.ends.ShortRead.{ShortRead}
use Rattle.plan9.specs.Callers.{Reader, IsSameReader}

-- a read of this end by this process, by its answer
abbrev pub ReadsBy : Reader → List ℕ → Result ReadAnswer Fault → Reader → List ℕ → Type 0
ReadsBy old buffer answer new buffer' =
    Reads (key_of old.end.queue) old.end.row (calling old.end old.proc buffer) answer
    (calling new.end new.proc buffer')

-- ---- piece by piece

-- the answer of read where a piece of this many bytes came, or none at the end
abbrev pub read_answer : Result (Option ℕ) Fault → Result ReadAnswer Fault
read_answer (Ok (Some count)) = Ok (read.Got count)
read_answer (Ok None) = Ok read.End
read_answer (Err fault) = Err fault

-- the piece is in the buffer
abbrev pub LiesIn : List ℕ → Result (Option ℕ) Fault → Type 0
LiesIn buffer (Ok (Some count)) = count ≤ length buffer
LiesIn buffer other = ⊤

-- One read, with this answer. A buffer of no bytes is refused first, and then a process of a kernel
-- that has too few Rendez for the direction.
pub record ReadsPiece (old : Reader) (buffer : List ℕ) (answer : Result (Option ℕ) Fault)
    (new : Reader) (buffer' : List ℕ) : Type 0 where
  pub bad_count : IsErrOf answer BadCount ↔ (buffer ≡ [])
  pub no_rendez : buffer ≢ []
      → (IsErrOf answer NoRendez ↔ ¬ OwnsRow old.proc.words old.end.row)
  pub reads : ReadsBy old buffer (read_answer answer) new buffer'
  pub fits : LiesIn buffer' answer
  pub same : IsSameReader old new

-- ---- until a buffer is full

-- a reader, and how far it has filled the buffer
pub record Filling : Type 0 where
  pub reader : Reader
  pub buffer : List ℕ
  pub count : ℕ

abbrev pub filling : Reader → List ℕ → ℕ → Filling
filling reader buffer count = record { reader = reader; buffer = buffer; count = count }

-- a read into what is left of the buffer, after what is filled, with this answer
pub record ReadsAfter (old : Filling) (answer : Result (Option ℕ) Fault) (reader : Reader)
    (buffer : List ℕ) : Type 0 where
  pub rest : List ℕ
  pub read : ReadsPiece old.reader (drop old.count old.buffer) answer reader rest
  pub buffer_is : buffer ≡ take old.count old.buffer ++ rest

-- one read gave a piece
pub record GoesOn (old new : Filling) : Type 0 where
  pub more : ℕ
  pub reads : ReadsAfter old (Ok (Some more)) new.reader new.buffer
  pub count_is : new.count ≡ old.count + more

-- why no more came: the end, or a fault
abbrev pub stopped : Option Fault → Result (Option ℕ) Fault
stopped None = Ok None
stopped (Some fault) = Err fault

-- the buffer was not full, and no piece came, after this many bytes
pub record Stops (before : Filling) (short : ShortRead) (reader : Reader) (buffer : List ℕ) :
    Type 0 where
  pub left : before.count < length before.buffer
  pub count_is : short.count ≡ before.count
  pub reads : ReadsAfter before (stopped short.fault) reader buffer

-- the buffer is full, or no more came
abbrev pub EndsFilling : Filling → Result ⊤ ShortRead → Reader → List ℕ → Type 0
EndsFilling before (Ok unit) reader buffer = before ≡ filling reader buffer (length buffer)
EndsFilling before (Err short) reader buffer = Stops before short reader buffer

-- some reads gave a piece each, one after the other; and then it ended
pub record FillsUp (old : Reader) (buffer : List ℕ) (answer : Result ⊤ ShortRead) (new : Reader)
    (buffer' : List ℕ) : Type 0 where
  pub same : IsSameReader old new
  pub times : ℕ
  pub before : Filling
  pub pieces : Rounds GoesOn times (filling old buffer 0) before
  pub ended : EndsFilling before answer new buffer'
