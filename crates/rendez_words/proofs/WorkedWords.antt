-- Words computed by hand: which bit is whose, and which word lies where.
use Rattle.std.proofs.Common.{◌≡◌, [], ◌∷◌, true, false, refl}
use Rattle.sync_base.specs.declared.note.Note.TheVariants.{Interrupt, Hangup, Alarm, ClosedPipe}
use Rattle.sync_base.specs.declared.note.Note.TheVariants.{Expired}
use Rattle.sync_base.specs.NoteSet.{no_notes, only, joined}
use Rattle.sleep_core.specs.Table.Cell.{PostedOf, LevelOf, FlagsOf}
use Rattle.rendez_words.specs.FlagsWord.{flags_word}
use Rattle.rendez_words.specs.Rule.{words_of, index_of}
use Rattle.rendez_words.specs.View.{word_count}

the_mark_is_the_lowest_bit : flags_word (record { wake = true; notes = no_notes }) ≡ 1
the_mark_is_the_lowest_bit = refl

interrupt_is_the_next : flags_word (record { wake = false; notes = only Interrupt }) ≡ 2
interrupt_is_the_next = refl

then_hangup : flags_word (record { wake = false; notes = only Hangup }) ≡ 4
then_hangup = refl

then_alarm : flags_word (record { wake = false; notes = only Alarm }) ≡ 8
then_alarm = refl

then_closed_pipe : flags_word (record {
  wake = true;
  notes = joined (only Alarm) (only ClosedPipe);
}) ≡ 25
then_closed_pipe = refl

then_expired : flags_word (record { wake = false; notes = joined (only Expired) (only Hangup) })
    ≡ 36
then_expired = refl

-- of three processes and two Rendez
a_posted_word : index_of (record { procs = 3; rendez = 2 }) (PostedOf 1) ≡ 8
a_posted_word = refl

a_level : index_of (record { procs = 3; rendez = 2 }) (LevelOf 1) ≡ 9
a_level = refl

some_flags : index_of (record { procs = 3; rendez = 2 }) (FlagsOf 2) ≡ 32
some_flags = refl

how_many_words : word_count (record { procs = 3; rendez = 2 }) ≡ 40
how_many_words = refl

-- of one process, which has a mark and is posted in the one Rendez, whose level is 7
a_line_for_each : words_of (record {
  phases = [];
  posted = 1 ∷ [];
  levels = 7 ∷ [];
  flags = record { wake = true; notes = no_notes } ∷ [];
  returned = [];
}) ≡ 1 ∷ 7 ∷ 0 ∷ 0 ∷ 0 ∷ 0 ∷ 0 ∷ 0 ∷ 1 ∷ 0 ∷ 0 ∷ 0 ∷ 0 ∷ 0 ∷ 0 ∷ 0 ∷ []
a_line_for_each = refl
