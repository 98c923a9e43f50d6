-- What becomes of one kind of note, and of the note of a write on a closed pipe. After notify(2)
-- and write(2). Own: the other notes stay, and a writer may take its own note back.
use Rattle.std.specs.Prelude.{◌≡◌, ◌≢◌, ◌&&◌, ◌<◌, ◌≤◌, ◌↔◌, not, ℕ, Bool, List, length}
use Rattle.std.specs.Prelude.{Result, Err, IsErrOf}
use Rattle.sync_base.specs.declared.fault.Fault.{Fault}
use Rattle.sync_base.specs.declared.fault.Fault.TheVariants as fault
use Rattle.sync_base.specs.declared.limits.TheConstants.{ATOMIC_SIZE}
use Rattle.sync_base.specs.declared.note.Note.{Note}
use Rattle.sync_base.specs.declared.note.Note.TheVariants.{ClosedPipe}
use Rattle.sync_base.specs.declared.note.NoteSet.{NoteSet}
use Rattle.sync_base.specs.NoteSet.{holds, is_same_note, no_notes}
use Rattle.rendez_words.specs.Process.{Process, pid_in}
use Rattle.rendez_words.specs.Steps.{drains, notes}
use Rattle.sleep_wakeup.specs.Kernel.{Running}
use Rattle.pipe_dev.specs.Rendezes.{OwnsRow}
use Rattle.plan9.specs.Callers.{Writer, IsSameWriter}
use Rattle.plan9.specs.Streams.{WritesOnce}

-- these notes are those that came, without the note of this kind
abbrev pub AreOthers : Note → NoteSet → NoteSet → Type 0
AreOthers note came left =
    (kind : Note) → holds left kind ≡ (holds came kind && not (is_same_note note kind))

-- these notes are pending again, if there are any
pub record ArePending (left : NoteSet) (before after : Process) : Type 0 where
  pub none : left ≡ no_notes → after ≡ before
  pub some : left ≢ no_notes → after ≡ notes before (pid_in before) left

-- and the process did nothing else
pub record Keeps (left : NoteSet) (old new : Running) : Type 0 where
  pub words_are : new.words ≡ old.words
  pub pending : ArePending left old.process new.process

-- It took the notes that were pending; it says whether a note of this kind was among them; and the
-- others are pending again.
pub record TakesNote (note : Note) (old : Running) (was : Bool) (new : Running) : Type 0 where
  pub words_are : new.words ≡ old.words
  pub came : NoteSet
  pub was_is : was ≡ holds came note
  pub left : NoteSet
  pub left_are : AreOthers note came left
  pub pending : ArePending left (drains old.process came) new.process

-- its write was answered `Hungup`, and then it took the note of a write on a closed pipe
pub record TakesItsNoteBack (old : Writer) (bytes : List ℕ) (new : Writer) : Type 0 where
  pub told : Writer
  pub wrote : WritesOnce old bytes (Err fault.Hungup) told
  pub end_is : new.end ≡ told.end
  pub was : Bool
  pub took : TakesNote ClosedPipe told.proc was new.proc

-- by the answer: with any answer but `Hungup` it is a write
abbrev pub LeavesNoNote : Writer → List ℕ → Result ℕ Fault → Writer → Type 0
LeavesNoNote old bytes (Err fault.Hungup) new = TakesItsNoteBack old bytes new
LeavesNoNote old bytes answer new = WritesOnce old bytes answer new

-- What a write did that leaves no note. A write above the atomic size is refused first, and then a
-- write by a process of a kernel that has too few Rendez for the direction.
pub record WritesUnnoted (old : Writer) (bytes : List ℕ) (answer : Result ℕ Fault)
    (new : Writer) : Type 0 where
  pub too_big : IsErrOf answer fault.TooBig ↔ (ATOMIC_SIZE < length bytes)
  pub no_rendez : length bytes ≤ ATOMIC_SIZE
      → (IsErrOf answer fault.NoRendez ↔ ¬ OwnsRow old.proc.words old.end.row)
  pub wrote : LeavesNoNote old bytes answer new
  pub same : IsSameWriter old new
