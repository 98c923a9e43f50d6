-- What is known of a reader and of writers, before and after threads have them.
use Rattle.std.specs.Prelude.{◌≡◌, ◌≢◌, ◌+◌, ◌≤◌, ◌<◌, ⊤, List, [], ◌∷◌, ℕ, map, length, reverse}
use Rattle.std.specs.Prelude.{take, slice_index_or, Option, Some, None}
use Rattle.std.specs.List.{AllByRecursion}
use Rattle.std.specs.Vec.{vec_capacity}
use Rattle.histories.specs.declared.account.Account.{Account}
use Rattle.sync_base.specs.declared.fault.Fault.{Fault}
use Rattle.sync_base.specs.declared.fault.Fault.TheVariants as fault
use Rattle.sync_base.specs.declared.mode.Mode.TheVariants.{Message}
use Rattle.sleep_core.specs.Runs as core
use Rattle.rendez_words.specs.Words.{procs_of}
use Rattle.sleep_wakeup.specs.Kernel.{Unused}
use Rattle.block_queue.specs.declared.entry.Entry.{Entry}
use Rattle.block_queue.specs.declared.entry.Entry.TheVariants.{End}
use Rattle.block_queue.specs.Seats.{key_of}
use Rattle.pipe_dev.specs.Ends.{ReadSide, WriteSide, AreAllEnds, IsSameReadEnd, IsSameWriteEnd}
use Rattle.pipe_dev.specs.declared.row.Row.{Row}
use Rattle.pipe_dev.specs.Parts.{Part}
use Rattle.pipe_dev.specs.Rendezes.{OwnsRow}
use Rattle.pipe_dev.specs.Sides.{HasReadJust, HasWrittenJust, AreUnused}
use Rattle.pipe_dev.specs.WriteCalls.{HasHang}
use Rattle.example_headline.specs.declared.crew.Crew.{Crew}
use Rattle.example_headline.specs.declared.reader.Reader.{Reader}
use Rattle.example_headline.specs.declared.settling.Room.{Room}
use Rattle.example_headline.specs.declared.settling.Told.{Told}
use Rattle.example_headline.specs.declared.settling.Written.{Written}
use Rattle.example_headline.specs.declared.writer.Writer.{Writer}
use Rattle.example_headline.specs.Refusals.{HangsUpLast, HasHungUp, IsClear}
use Rattle.example_headline.specs.Refusals.{TellsWhyRefused, TellsWhyStopped}
use Rattle.example_headline.specs.Wakes.{Wakes, HasReturnedIn}

-- this holds of the entries that the seat with this number has made, the newest first
abbrev pub OfMine : ℕ → (List Entry → Type 0) → Account Entry → Type 0
OfMine number Holds account =
    AllByRecursion (λ share. share.number ≡ number → Holds share.mine) account.shares

-- the wakeup of each entry has returned in these steps
abbrev pub HaveWoken : List core.Entry → Row → List Entry → Type 0
HaveWoken steps row mine = AllByRecursion (Wakes (HasReturnedIn steps) row) mine

-- the end has read just these parts of messages, the oldest first
pub record HasGot (read : ReadSide) (got : List (List ℕ)) : Type 0 where
  pub mode : read.row.mode ≡ Message
  pub parts : List Part
  pub just : HasReadJust read parts
  pub bytes : map (λ part. part.bytes) (reverse parts) ≡ got

-- the newest entry that the end has seen is that nothing more comes, and nothing is left of a write
pub record HasSeenEnd (read : ReadSide) : Type 0 where
  pub past : List Entry
  pub newest : read.account.seen ≡ End ∷ past
  pub rest : read.rest ≡ None

-- the reader keeps just what its end has read, is of a kernel that has Rendez with the numbers of
-- the pipe's, and has made the wakeups that its calls owe
pub record KeepsAll (reader : Reader) : Type 0 where
  pub got : HasGot reader.end reader.got.items
  pub kernel : OwnsRow reader.proc.words reader.end.row
  pub woken : OfMine 0 (HaveWoken reader.proc.process.trace reader.end.row) reader.end.account

-- a read of the reader was refused with this fault
abbrev pub WasStopped : Fault → Reader → Type 0
WasStopped why reader =
    OfMine 0 (λ mine. TellsWhyStopped why mine reader.proc.process.trace) reader.end.account

-- its seat has hung nothing up
abbrev pub IsQuiet : Reader → Type 0
IsQuiet reader = OfMine 0 (λ mine. ¬ HasHang mine) reader.end.account

-- the reader came to the end, and has not hung up; or it stopped with this fault, and then hung up
abbrev pub EndsFor : Option Fault → Reader → Type 0
EndsFor None reader = HasSeenEnd reader.end × IsQuiet reader
EndsFor (Some why) reader = OfMine 0 HasHungUp reader.end.account × WasStopped why reader

-- this holds of the reader if it is of the pipe's kernel and its reads stop at the end of a write
abbrev pub IfItsReader : (Reader → Type 0) → Reader → Type 0
IfItsReader Holds reader =
    reader.end.row.mode ≡ Message → OwnsRow reader.proc.words reader.end.row → Holds reader

-- so far its seat was refused nothing, and has hung nothing up
pub record IsClearReader (reader : Reader) : Type 0 where
  pub clear : IfItsReader (λ reader. OfMine 0 IsClear reader.end.account) reader

-- it has seen the end, and has not hung up
pub record SeesEnd (reader : Reader) : Type 0 where
  pub seen : IfItsReader (EndsFor None) reader

-- a read of the reader was refused with this fault, and it has not hung up
pub record StopsFor (why : Fault) (reader : Reader) : Type 0 where
  pub told : IfItsReader (λ reader. IsQuiet reader × WasStopped why reader) reader

-- it came to the end, or says why not
pub record HasStopped (reader : Reader) : Type 0 where
  pub ends : IfItsReader (EndsFor reader.stopped) reader

-- this holds of a reader that began clear
abbrev pub StopsFrom : Reader → Reader → Type 0
StopsFrom start reader = IsClearReader start → HasStopped reader

-- the writer counts just what its end has written, the first `accepted` of its messages; it is of a
-- kernel that has Rendez with the numbers of the pipe's, and has made the wakeups that its calls
-- owe
pub record CountsAll (writer : Writer) : Type 0 where
  pub just : HasWrittenJust writer.end (take writer.accepted writer.messages.items)
  pub within : writer.accepted ≤ length writer.messages.items
  pub kernel : OwnsRow writer.proc.words writer.end.row
  pub woken : OfMine (writer.end.writer + 1) (HaveWoken writer.proc.process.trace writer.end.row)
      writer.end.account

-- the write of the next of its messages was refused with this fault
pub record WasRefused (why : Fault) (writer : Writer) : Type 0 where
  pub left : writer.accepted < length writer.messages.items
  pub told : OfMine (writer.end.writer + 1)
      (λ mine. TellsWhyRefused why writer.end.writer
      (slice_index_or writer.messages.items writer.accepted []) mine writer.proc.process.trace)
      writer.end.account

-- so far its seat was refused nothing, and has hung nothing up
abbrev pub IsClearWriter : Writer → Type 0
IsClearWriter writer = OfMine (writer.end.writer + 1) IsClear writer.end.account

-- the writer has written all its messages, or says why not, if it is of the pipe's kernel; and
-- where it hung up, it did so after its last write
pub record HasEnded (writer : Writer) : Type 0 where
  pub all : writer.refused ≡ None → length writer.messages.items ≤ writer.accepted
  pub refused : (why : Fault) → writer.refused ≡ Some why
      → OwnsRow writer.proc.words writer.end.row → WasRefused why writer
  pub last : OfMine (writer.end.writer + 1) HangsUpLast writer.end.account

-- this holds of a writer that began clear
abbrev pub EndsFrom : Writer → Writer → Type 0
EndsFrom start writer = IsClearWriter start → HasEnded writer

-- the reader has read on: its end stays at its direction, and it keeps all if it did before
pub record HasReadOn (old new : Reader) : Type 0 where
  pub end : IsSameReadEnd old.end new.end
  pub keeps : KeepsAll old → KeepsAll new

-- the writer has written on: its end stays at its direction, its messages are the same, and it
-- counts all if it did before
pub record HasWrittenOn (old new : Writer) : Type 0 where
  pub end : IsSameWriteEnd old.end new.end
  pub messages : new.messages ≡ old.messages
  pub counts : CountsAll old → CountsAll new

-- the writer has ended if it had before
abbrev pub StaysEnded : Writer → Writer → Type 0
StaysEnded old new = HasEnded old → HasEnded new

-- these are all ends of one direction, which knows how many writers it has
pub record AreEnds (read : ReadSide) (writes : List WriteSide) : Type 0 where
  pub all : AreAllEnds read writes
  pub known : read.row.writers ≡ (key_of read.queue).writers

-- the seat with this number has made no entry
abbrev pub HasMadeNone : ℕ → Account Entry → Type 0
HasMadeNone number account = OfMine number (λ mine. mine ≡ []) account

-- nothing was called on these ends, and reads stop at the end of a write
pub record IsFresh (read : ReadSide) (writes : List WriteSide) : Type 0 where
  pub ends : AreEnds read writes
  pub mode : read.row.mode ≡ Message
  pub unused : AreUnused read writes
  pub reader : HasMadeNone 0 read.account
  pub writers : AllByRecursion (λ write. HasMadeNone (write.writer + 1) write.account) writes

abbrev pub ends_of : List Writer → List WriteSide
ends_of writers = map (λ writer. writer.end) writers

abbrev pub messages_of : List Writer → List (List (List ℕ))
messages_of writers = map (λ writer. writer.messages.items) writers

-- there is room for the ends of this many writers, and for the report of each
pub record HasRoom (writers : ℕ) (room : Room) : Type 0 where
  pub no_ends : room.ends.items ≡ []
  pub none_told : room.told.items ≡ []
  pub ends : writers ≤ vec_capacity room.ends
  pub told : writers ≤ vec_capacity room.told

-- the crew has all ends, the reader keeps all and each writer counts all; and there is room for
-- when they are taken apart
pub record IsReady (crew : Crew) : Type 0 where
  pub ends : AreEnds crew.reader.end (ends_of crew.writers.items)
  pub keeps : KeepsAll crew.reader
  pub counts : AllByRecursion CountsAll crew.writers.items
  pub room : HasRoom (length crew.writers.items) crew.room

-- no reader or writer of the crew has asked for anything yet
pub record IsClearCrew (crew : Crew) : Type 0 where
  pub reader : IsClearReader crew.reader
  pub writers : AllByRecursion IsClearWriter crew.writers.items

-- its reader has this end
pub record HasReadEnd (read : ReadSide) (crew : Crew) : Type 0 where
  pub same : crew.reader.end ≡ read

-- such a crew whose writers have ended, and whose reader has stopped
pub record HasWorked (crew : Crew) : Type 0 where
  pub ready : IsReady crew
  pub stopped : HasStopped crew.reader
  pub ended : AllByRecursion HasEnded crew.writers.items

-- the report of a writer
abbrev pub written_of : Writer → Written
written_of writer =
    record {
      messages = writer.messages;
      accepted = writer.accepted;
      refused = writer.refused;
    }

-- this is the report of the crew
pub record IsToldOf (crew : Crew) (told : Told) : Type 0 where
  pub writers : told.writers.items ≡ map written_of crew.writers.items
  pub got : told.got.items ≡ crew.reader.got.items
  pub stopped : told.stopped ≡ crew.reader.stopped

-- Why no crew of this many writers was mustered: the lists of messages are more or fewer than the
-- writers; there was no memory; or the roster has too few pids left.
abbrev pub WhyNotMustered : Unused → ℕ → ℕ → Fault → Type 0
WhyNotMustered roster writers lists fault.BadSize = lists ≢ writers
WhyNotMustered roster writers lists fault.Memory = ⊤
WhyNotMustered roster writers lists fault.NoProc =
    procs_of roster.words < roster.pids.next + writers
WhyNotMustered roster writers lists other = ⊥
