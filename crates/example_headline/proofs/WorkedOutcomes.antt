-- What is told of a refusal, what wakes whom, and outcomes that break the headline, each against
-- one row or clause.
use Rattle.std.proofs.Common.{◌≡◌, ◌≢◌, ◌↔◌, inl, inr, ◌+◌, ◌<◌, ◌≤◌, eqb, ℕ, Bool}
use Rattle.std.proofs.Common.{true, false, ap, arith, refl, map}
use Rattle.std.proofs.Common.{if◌then◌else◌, List, [], ◌∷◌, length, Some, None, sym, ◌∙◌, subst}
use Rattle.std.specs.Prelude.{Option, Result, Err, IsErrOf, slice_index_or}
use Rattle.std.specs.List.{AllByRecursion}
use Rattle.histories.specs.History.{entries_by}
use Rattle.sync_base.specs.declared.fault.Fault.{Fault}
use Rattle.sync_base.specs.declared.fault.Fault.TheVariants as fault
use Rattle.sync_base.specs.declared.ids.RendezId.{RendezId}
use Rattle.sync_base.specs.declared.note.Note.TheVariants.{Alarm}
use Rattle.sync_base.specs.NoteSet.{no_notes, only}
use Rattle.sleep_core.specs.Runs as core
use Rattle.rendez_words.specs.Process.{Process}
use Rattle.rendez_words.specs.Words.{procs_of}
use Rattle.sleep_wakeup.specs.Kernel.{Unused}
use Rattle.block_queue.specs.declared.entry.Entry.{Entry}
use Rattle.block_queue.specs.declared.entry.Entry.TheVariants.{Taken, Stood, Full, Hungup}
use Rattle.block_queue.specs.declared.entry.Entry.TheVariants.{Block, NotYet, End, Hung}
use Rattle.block_queue.specs.declared.view.Key.{Key}
use Rattle.block_queue.specs.History.{seat_of}
use Rattle.block_queue.specs.Opening.{IsBadQueue}
use Rattle.pipe_dev.specs.declared.row.Row.{Row}
use Rattle.pipe_dev.specs.Finishing.{left_state}
use Rattle.pipe_dev.specs.Rendezes.{reader_rendez}
use Rattle.pipe_dev.specs.WriteCalls.{HasHang}
use Rattle.example_headline.specs.declared.settling.Ending.{Ending}
use Rattle.example_headline.specs.declared.settling.Outcome.{Outcome}
use Rattle.example_headline.specs.declared.settling.Told.{Told}
use Rattle.example_headline.specs.declared.settling.Written.{Written}
use Rattle.example_headline.specs.declared.writer.Writer.{Writer}
use Rattle.example_headline.specs.Crew.{HasEnded, WhyNotMustered, written_of}
use Rattle.example_headline.specs.Headline.{AreFirst, AreWritersOf, HasHistory, IsToldOfWork}
use Rattle.example_headline.specs.Headline.{KeepsHeadline}
use Rattle.example_headline.specs.Refusals.{EachHungupIsAfterHangup, HangsUpLast, HasHungUp}
use Rattle.example_headline.specs.Refusals.{TellsWhyRefused, TellsWhyStopped, last_told}
use Rattle.example_headline.specs.Wakes.{HasReturnedIn, Wakes}

abbrev as_refused : Fault → Result Ending Fault
as_refused why = Err why

abbrev byte : List ℕ
byte = 1 ∷ []

-- ---- what a seat was told last

nothing_was_told : last_told [] ≡ None
nothing_was_told = refl

a_hangup_tells_nothing : last_told (Hung 1 ∷ Hungup 0 byte ∷ Stood 0 1 ∷ []) ≡ Some (Hungup 0 byte)
a_hangup_tells_nothing = refl

the_newest_tells : last_told (Stood 0 2 ∷ Full 0 byte 1 ∷ []) ≡ Some (Stood 0 2)
the_newest_tells = refl

-- ---- refusals that were none

module _ (steps : List core.Entry) where
  full_is_told_as_hungup : ¬ TellsWhyRefused fault.Hungup 0 byte (Full 0 byte 1 ∷ []) steps
  full_is_told_as_hungup tells = cc

  another_write_was_hungup : ¬ TellsWhyRefused fault.Hungup 0 byte (Hungup 0 [] ∷ []) steps
  another_write_was_hungup tells = cc

  hungup_is_told_as_memory : ¬ TellsWhyRefused fault.Memory 0 byte (Hungup 0 byte ∷ []) steps
  hungup_is_told_as_memory tells = tells

  full_is_told_as_memory : ¬ TellsWhyRefused fault.Memory 0 byte (Full 0 byte 1 ∷ []) steps
  full_is_told_as_memory tells = tells

  there_is_no_memory_for_the_first : TellsWhyRefused fault.Memory 0 byte [] steps
  there_is_no_memory_for_the_first = tt

  there_is_no_memory_for_the_next :
      TellsWhyRefused fault.Memory 0 byte (Stood 0 1 ∷ Taken 0 [] 1 ∷ []) steps
  there_is_no_memory_for_the_next = tt

  hungup_is_told_as_worn : ¬ TellsWhyRefused fault.Worn 0 byte (Hungup 0 byte ∷ []) steps
  hungup_is_told_as_worn tells = cc

  write_is_interrupted_by_no_notes :
      ¬ TellsWhyRefused (fault.Interrupted no_notes) 0 byte (Full 0 byte 1 ∷ []) steps
  write_is_interrupted_by_no_notes tells = absurd (tells.1.0 refl)

  write_is_interrupted_that_did_not_wait :
      ¬ TellsWhyRefused (fault.Interrupted (only Alarm)) 0 byte (Stood 0 1 ∷ []) steps
  write_is_interrupted_that_did_not_wait tells = let full = tells.0.1 in cc

  write_finds_another_that_did_not_wait :
      ¬ TellsWhyRefused fault.DoubleSleep 0 byte (Stood 0 1 ∷ []) steps
  write_finds_another_that_did_not_wait tells = let full = tells.0.1 in cc

  own_process_is_foreign : ¬ TellsWhyRefused fault.NoRendez 0 byte [] steps
  own_process_is_foreign tells = tells

  reader_is_interrupted_by_no_notes :
      ¬ TellsWhyStopped (fault.Interrupted no_notes) (NotYet 0 ∷ []) steps
  reader_is_interrupted_by_no_notes tells = absurd (tells.1.0 refl)

  reader_is_interrupted_that_did_not_wait :
      ¬ TellsWhyStopped (fault.Interrupted (only Alarm)) (Block 0 byte 1 ∷ []) steps
  reader_is_interrupted_that_did_not_wait tells = let not_yet = tells.0.1 in cc

  reader_finds_another_that_did_not_wait : ¬ TellsWhyStopped fault.DoubleSleep (End ∷ []) steps
  reader_finds_another_that_did_not_wait tells = let not_yet = tells.0.1 in cc

  wait_is_told_as_memory : ¬ TellsWhyStopped fault.Memory (NotYet 0 ∷ []) steps
  wait_is_told_as_memory tells = tells

  end_is_told_as_memory : ¬ TellsWhyStopped fault.Memory (End ∷ []) steps
  end_is_told_as_memory tells = tells

  there_is_no_memory_to_read_on : TellsWhyStopped fault.Memory (Block 0 byte 1 ∷ []) steps
  there_is_no_memory_to_read_on = tt

  reader_is_hungup : ¬ TellsWhyStopped fault.Hungup [] steps
  reader_is_hungup tells = tells

write_takes_no_notes :
    ¬ TellsWhyRefused (fault.Interrupted (only Alarm)) 0 byte (Full 0 byte 1 ∷ []) []
write_takes_no_notes tells = tells.1.1

write_finds_nobody : ¬ TellsWhyRefused fault.DoubleSleep 0 byte (Full 0 byte 1 ∷ []) []
write_finds_nobody tells = tells.1

reader_takes_no_notes : ¬ TellsWhyStopped (fault.Interrupted (only Alarm)) (NotYet 0 ∷ []) []
reader_takes_no_notes tells = tells.1.1

reader_finds_nobody : ¬ TellsWhyStopped fault.DoubleSleep (NotYet 0 ∷ []) []
reader_finds_nobody tells = tells.1

-- a write is told of a hangup, and only then somebody hangs up
hungup_is_told_too_soon : ¬ EachHungupIsAfterHangup (Hung 0 ∷ Hungup 0 byte ∷ [])
hungup_is_told_too_soon each = each.0

hungup_is_told_in_time : EachHungupIsAfterHangup (Hungup 0 byte ∷ Hung 0 ∷ [])
hungup_is_told_in_time = (tt, tt)

-- ---- who hangs up when

-- a writer hangs up, and then writes
writer_hangs_up_first : ¬ HangsUpLast (Hungup 0 byte ∷ Hung 1 ∷ [])
writer_hangs_up_first last = last tt

-- it writes between two hangups
writer_hangs_up_between : ¬ HangsUpLast (Hung 1 ∷ Stood 0 1 ∷ Hung 1 ∷ [])
writer_hangs_up_between last = last tt

writer_hangs_up_last : HangsUpLast (Hung 1 ∷ Hung 1 ∷ Stood 0 1 ∷ [])
writer_hangs_up_last = λ hang. hang

reader_never_hangs_up : ¬ HasHungUp (NotYet 0 ∷ [])
reader_never_hangs_up up = up.hung

reader_reads_on_after_its_hangup : ¬ HasHungUp (Block 0 byte 1 ∷ Hung 0 ∷ [])
reader_reads_on_after_its_hangup up = up.last tt

-- ---- runs that are refused

-- a run that is always refused as out of memory
always_memory : ¬ (IsErrOf (as_refused fault.Memory) fault.BadSize ↔ IsBadQueue 0 1)
always_memory tells = let bad = tells.1 (inl (inl refl)) in cc

-- or for its size
always_bad_size : ¬ (IsErrOf (as_refused fault.BadSize) fault.BadSize ↔ IsBadQueue 1 1)
always_bad_size tells = by (tells.0 refl)
  where
    by : IsBadQueue 1 1 → ⊥
    by (inl (inl none)) = cc
    by (inl (inr many)) = absurd (omega (arith, many))
    by (inr (inl none)) = cc
    by (inr (inr many)) = absurd (omega (arith, many))

-- no crew is mustered, for no reason
module _ (roster : Unused) where
  as_many_lists : ¬ WhyNotMustered roster 1 1 fault.BadSize
  as_many_lists differ = differ refl

  a_pid_is_left : roster.pids.next ≡ 1 → procs_of roster.words ≡ 2
      → ¬ WhyNotMustered roster 1 1 fault.NoProc
  a_pid_is_left next many less = absurd (omega (arith, next, many, less))

  mustering_has_no_rendez : ¬ WhyNotMustered roster 1 1 fault.NoRendez
  mustering_has_no_rendez why = why

-- ---- wakeups that were not made

module _ (row : Row) (some_writer : 0 < row.writers) where
  write_wakes_nobody : ¬ Wakes (HasReturnedIn []) row (Taken 0 byte 1)
  write_wakes_nobody wakes = wakes

  read_wakes_nobody : ¬ Wakes (HasReturnedIn []) row (Block 0 byte 1)
  read_wakes_nobody wakes = wakes 0 some_writer

  hangup_wakes_the_reader_alone :
      ¬ Wakes (λ rendez level. rendez ≡ reader_rendez row) row (Hung 0)
  hangup_wakes_the_reader_alone wakes =
      let same : row.first + 1 + 0 ≡ row.first
      = ap (λ (rendez : RendezId). rendez.0) (wakes.1 0 some_writer) in
      absurd (omega (arith, same))

  hangup_wakes_no_reader : ¬ Wakes (λ rendez level. ⊥) row (Hung 0)
  hangup_wakes_no_reader wakes = wakes.0

  wakeup_has_another_level : ¬ Wakes (λ rendez level. level ≡ 0) row (Taken 0 byte 1)
  wakeup_has_another_level same = absurd (omega (arith, same))

  refusal_wakes_nobody : Wakes (HasReturnedIn []) row (Full 0 byte 1)
  refusal_wakes_nobody = tt

-- ---- outcomes of which nothing ran

-- a direction that was hung up is left so
left_hung : (key : Key) (history : List Entry) → HasHang history
    → (left_state key history).hung ≡ true
left_hung key [] hang = absurd hang
left_hung key (Hung seat ∷ past) hang = refl
left_hung key (entry ∷ past) hang = left_hung key past hang

-- what a seat was told last is what it was told before an entry that is not its own
told_before : (number : ℕ) (entry : Entry) (past : List Entry) (wanted : Option Entry)
    → ¬ (last_told (entry ∷ entries_by seat_of number past) ≡ wanted)
    → last_told (entries_by seat_of number (entry ∷ past)) ≡ wanted
    → last_told (entries_by seat_of number past) ≡ wanted
told_before number entry past wanted differs told = by (eqb (seat_of entry) number) told
  where
    mine : List Entry
    mine = entries_by seat_of number past

    by : (b : Bool) → last_told (if b then entry ∷ mine else mine) ≡ wanted
        → last_told mine ≡ wanted
    by true same = absurd (differs same)
    by false same = same

-- whoever was told of a hangup was told so after one
told_after_a_hangup : (number writer : ℕ) (block : List ℕ) (history : List Entry)
    → last_told (entries_by seat_of number history) ≡ Some (Hungup writer block)
    → EachHungupIsAfterHangup history → HasHang history
told_after_a_hangup number writer block [] told each = cc
told_after_a_hangup number writer block (Hung seat ∷ past) told each = tt
told_after_a_hangup number writer block (Hungup other its ∷ past) told each = each.0
told_after_a_hangup number writer block (entry ∷ past) told each =
    told_after_a_hangup number writer block past
    (told_before number entry past (Some (Hungup writer block)) (λ same. cc) told) each

module _ (key : Key) (first : ℕ) (given : List (List (List ℕ))) (outcome : Outcome)
    (written : Written) (one : outcome.writers.items ≡ written ∷ [])
    (messages : written.messages.items ≡ byte ∷ []) (none : written.accepted ≡ 0) where
  -- nothing was written, and no refusal is told
  nothing_ran : written.refused ≡ None → ¬ KeepsHeadline key first given outcome
  nothing_ran unrefused keeps =
      let firsts : AllByRecursion AreFirst (written ∷ [])
      = subst (AllByRecursion AreFirst) one keeps.whole.first in
      let all = firsts.0.all unrefused in
      let counted : length written.messages.items ≡ 1
      = subst (λ (ms : List (List ℕ)). length ms ≡ 1) (sym messages) refl in
      absurd (omega (arith, all, counted, none))

  -- its one writer, and its process
  the_writer : (history : List Entry) (row : Row) (processes : List Process)
      → AreWritersOf history row 0 outcome.writers.items processes
      → (why : Fault) → written.refused ≡ Some why
      → (process : Process)
      × TellsWhyRefused why 0 byte (entries_by seat_of 1 history) process.trace
  the_writer history row processes are why is =
      by processes (subst (λ (ws : List Written). AreWritersOf history row 0 ws processes) one are)
    where
      next : slice_index_or written.messages.items written.accepted [] ≡ byte
      next =
          ap (λ (ms : List (List ℕ)). slice_index_or ms written.accepted []) messages
          ∙ ap (λ (n : ℕ). slice_index_or (byte ∷ []) n []) none

      by : (all : List Process) → AreWritersOf history row 0 (written ∷ []) all
          → (process : Process)
          × TellsWhyRefused why 0 byte (entries_by seat_of 1 history) process.trace
      by [] absent = absurd absent
      by (process ∷ others) of = (
        process,
        subst (λ (block : List ℕ).
            TellsWhyRefused why 0 block (entries_by seat_of 1 history) process.trace) next
            (of.0.refused why is).told,
      )

  -- a writer tells that its write was hung up, and nobody hung up
  nobody_hung_up : written.refused ≡ Some fault.Hungup → outcome.held.hung ≡ false
      → ¬ KeepsHeadline key first given outcome
  nobody_hung_up refused not_hung keeps =
      let made = keeps.made in
      let told = (the_writer made.history made.row made.writers made.are_writers fault.Hungup
      refused).1 in
      let hung : outcome.held.hung ≡ true
      = made.hung
      ∙ left_hung key made.history
      (told_after_a_hangup 1 0 byte made.history told made.hungup) in
      cc

  -- a writer tells a fault that no write has
  no_write_has_it : written.refused ≡ Some fault.NoRendez → ¬ KeepsHeadline key first given outcome
  no_write_has_it refused keeps =
      let made = keeps.made in
      (the_writer made.history made.row made.writers made.are_writers fault.NoRendez refused).1

-- it is told of no crew either that it was so
nothing_ran_and_is_told : (key : Key) (first : ℕ) (given : List (List (List ℕ))) (told : Told)
    (written : Written) → told.writers.items ≡ written ∷ [] → written.messages.items ≡ byte ∷ []
    → written.accepted ≡ 0 → written.refused ≡ None → ¬ IsToldOfWork key first given told
nothing_ran_and_is_told key first given told written one messages none unrefused work =
    by work.crew.writers.items (sym work.told_is.writers ∙ one) work.worked.ended
  where
    counted : length written.messages.items ≡ 1
    counted = subst (λ (ms : List (List ℕ)). length ms ≡ 1) (sym messages) refl

    by : (writers : List Writer) → map written_of writers ≡ written ∷ []
        → AllByRecursion HasEnded writers → ⊥
    by [] are ended = cc
    by (writer ∷ writers) are ended =
        let same : written_of writer ≡ written = cc in
        let all = ended.0.all (ap (λ (w : Written). w.refused) same ∙ unrefused) in
        let least : length written.messages.items ≤ written.accepted
        = subst (λ (w : Written). length w.messages.items ≤ w.accepted) same all in
        absurd (omega (arith, least, counted, none))

-- the reader came to the end, and yet had hung up
reader_hung_up_early : (key : Key) (first : ℕ) (outcome : Outcome)
    (made : HasHistory key first outcome) → outcome.stopped ≡ None
    → ¬ HasHang (entries_by seat_of 0 made.history)
reader_hung_up_early key first outcome made none = made.is_reader.quiet none

-- the reader tells that it came to the end of a direction that was not hung up
no_end_is_there : (key : Key) (first : ℕ) (given : List (List (List ℕ))) (outcome : Outcome)
    → outcome.stopped ≡ None → outcome.held.hung ≡ false → ¬ KeepsHeadline key first given outcome
no_end_is_there key first given outcome none not_hung keeps =
    let hung = keeps.made.is_reader.ended none in cc

-- it came to the end, and a write is held
a_write_is_left : (key : Key) (first : ℕ) (given : List (List (List ℕ))) (outcome : Outcome)
    → outcome.stopped ≡ None → outcome.held.writes.items ≢ []
    → ¬ KeepsHeadline key first given outcome
a_write_is_left key first given outcome none some keeps = some (keeps.whole.all_read none).writes
