-- What is no note taken alone and no write that leaves no note: each against one row of what these
-- calls say.
use Rattle.std.proofs.Common.{◌≡◌, ◌≢◌, ◌<◌, ◌≤◌, ℕ, Bool, true, false, List, Result, Ok, Err}
use Rattle.std.proofs.Common.{IfErr, length, refl, ap, subst, sym, ◌&&◌, ◌∙◌, not}
use Rattle.sync_base.specs.declared.fault.Fault.{Fault}
use Rattle.sync_base.specs.declared.fault.Fault.TheVariants as fault
use Rattle.sync_base.specs.declared.limits.TheConstants.{ATOMIC_SIZE}
use Rattle.sync_base.specs.declared.note.Note.TheVariants.{Interrupt, Hangup, Alarm}
use Rattle.sync_base.specs.declared.note.Note.TheVariants.{ClosedPipe, Expired}
use Rattle.sync_base.specs.declared.note.NoteSet.{NoteSet}
use Rattle.sync_base.specs.NoteSet.{holds, is_same_note, joined, no_notes, only}
use Rattle.rendez_words.specs.Process.{Process, pid_in}
use Rattle.rendez_words.specs.Steps.{drains, notes}
use Rattle.sleep_wakeup.specs.Kernel.{Running}
use Rattle.pipe_dev.specs.Ends.{WriteSide}
use Rattle.pipe_dev.specs.Rendezes.{OwnsRow}
use Rattle.plan9.specs.Callers.{Writer, IsSameWriter, writer}
use Rattle.plan9.specs.Notings.{AreOthers, ArePending, Keeps, TakesNote, TakesItsNoteBack}
use Rattle.plan9.specs.Notings.{LeavesNoNote, WritesUnnoted}
use Rattle.plan9.specs.Streams.{WritesOnce}

-- ---- the others

-- an interrupt and the note of a closed pipe came: the interrupt is the other
abbrev both : NoteSet
both = joined (only Interrupt) (only ClosedPipe)

the_interrupt_is_the_other : AreOthers ClosedPipe both (only Interrupt)
the_interrupt_is_the_other Interrupt = refl
the_interrupt_is_the_other Hangup = refl
the_interrupt_is_the_other Alarm = refl
the_interrupt_is_the_other ClosedPipe = refl
the_interrupt_is_the_other Expired = refl

-- it is left out, or the note stays, or one comes that was not there
the_interrupt_is_lost : ¬ AreOthers ClosedPipe both no_notes
the_interrupt_is_lost others = let no : false ≡ true = others Interrupt in cc

the_note_stays : ¬ AreOthers ClosedPipe both both
the_note_stays others = let no : true ≡ false = others ClosedPipe in cc

an_alarm_comes : ¬ AreOthers ClosedPipe (only ClosedPipe) (only Alarm)
an_alarm_comes others = let no : true ≡ false = others Alarm in cc

-- ---- a note

module _ (before after : Process) where
  -- no notes are put back, or the interrupt is not
  no_notes_are_posted : after ≢ before → ¬ ArePending no_notes before after
  no_notes_are_posted other pending = other (pending.none refl)

  the_interrupt_is_not_posted : after ≢ notes before (pid_in before) (only Interrupt)
      → ¬ ArePending (only Interrupt) before after
  the_interrupt_is_not_posted other pending =
      other (pending.some (λ none. let no : true ≡ false = ap (λ set. set.interrupt) none in cc))

module _ (left : NoteSet) (old new : Running) where
  -- notes are put back in another kernel, or are not pending
  kept_in_another_kernel : new.words ≢ old.words → ¬ Keeps left old new
  kept_in_another_kernel other keeps = other keeps.words_are

  kept_and_not_pending : ¬ ArePending left old.process new.process → ¬ Keeps left old new
  kept_and_not_pending none keeps = none keeps.pending

module _ (old new : Running) (was : Bool) where
  -- it goes to another kernel
  a_note_of_another_kernel : new.words ≢ old.words → ¬ TakesNote ClosedPipe old was new
  a_note_of_another_kernel other takes = other takes.words_are

  -- the notes were not taken: what is pending is neither nothing nor posted after that
  a_note_that_was_not_taken : ((came : NoteSet) → new.process ≢ drains old.process came)
      → ((came left : NoteSet)
      → new.process ≢ notes (drains old.process came) (pid_in old.process) left)
      → (takes : TakesNote ClosedPipe old was new) → ¬ (takes.left ≡ no_notes)
      × ¬ (takes.left ≢ no_notes)
  a_note_that_was_not_taken no_drain no_note takes = (
    λ none. no_drain takes.came (takes.pending.none none),
    λ some. no_note takes.came takes.left (takes.pending.some some),
  )

-- it says of a note that came that none did, or keeps it
module _ (old new : Running) where
  it_says_no_of_a_note : (takes : TakesNote ClosedPipe old false new)
      → takes.came ≡ only ClosedPipe → ⊥
  it_says_no_of_a_note takes came =
      let no : false ≡ true = takes.was_is ∙ ap (λ set. holds set ClosedPipe) came in cc

  it_keeps_the_note : (takes : TakesNote ClosedPipe old true new)
      → takes.left ≡ only ClosedPipe → takes.came ≡ only ClosedPipe → ⊥
  it_keeps_the_note takes left came =
      let no : true ≡ false = sym (ap (λ set. holds set ClosedPipe) left)
      ∙ takes.left_are ClosedPipe
      ∙ ap (λ set. holds set ClosedPipe && not (is_same_note ClosedPipe ClosedPipe)) came in
      cc

-- ---- a write

module _ (old new : Writer) (bytes : List ℕ) where
  -- it is answered `Hungup` and did not write, has another end, or leaves the note
  no_write_was_refused : ((told : Writer) → ¬ WritesOnce old bytes (Err fault.Hungup) told)
      → ¬ TakesItsNoteBack old bytes new
  no_write_was_refused none takes = none takes.told takes.wrote

  its_end_is_another : ((told : Writer) → new.end ≢ told.end) → ¬ TakesItsNoteBack old bytes new
  its_end_is_another other takes = other takes.told takes.end_is

  it_leaves_its_note : ((proc : Running) (was : Bool) → ¬ TakesNote ClosedPipe proc was new.proc)
      → ¬ LeavesNoNote old bytes (Err fault.Hungup) new
  it_leaves_its_note leaves takes = leaves takes.told.proc takes.was takes.took

  -- it was accepted, or worn, and did not write
  no_write_was_accepted : ¬ WritesOnce old bytes (Ok 3) new → ¬ LeavesNoNote old bytes (Ok 3) new
  no_write_was_accepted none wrote = none wrote

  no_write_was_worn : ¬ WritesOnce old bytes (Err fault.Worn) new
      → ¬ LeavesNoNote old bytes (Err fault.Worn) new
  no_write_was_worn none wrote = none wrote

  -- too much is written, or by a process of another kernel, or what was written was not, or another
  -- writer comes back
  too_much_is_written : ATOMIC_SIZE < length bytes → ¬ WritesUnnoted old bytes (Ok 3) new
  too_much_is_written more writes =
      subst (λ (answer : Result ℕ Fault). IfErr answer (λ why. ⊥)) (writes.too_big.1 more) tt

  another_kernel_writes : length bytes ≤ ATOMIC_SIZE → ¬ OwnsRow old.proc.words old.end.row
      → ¬ WritesUnnoted old bytes (Ok 3) new
  another_kernel_writes fits none writes =
      subst (λ (answer : Result ℕ Fault). IfErr answer (λ why. ⊥))
      ((writes.no_rendez fits).1 none) tt

  nothing_was_written : ¬ LeavesNoNote old bytes (Ok 3) new → ¬ WritesUnnoted old bytes (Ok 3) new
  nothing_was_written none writes = none writes.wrote

  another_writer_comes_back : ¬ IsSameWriter old new → ¬ WritesUnnoted old bytes (Ok 3) new
  another_writer_comes_back other writes = other writes.same

-- the writer that calls has its own end and process
a_writer_has_both : (end : WriteSide) (proc : Running)
    → writer end proc ≡ record { end = end; proc = proc }
a_writer_has_both end proc = refl
