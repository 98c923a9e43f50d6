-- A number and the kinds after it are the words of a note.
use Rattle.std.proofs.Common.{◌∷◌, refl, sym}
use Rattle.scripts.specs.Lines.{words_of}
use Rattle.scripts.specs.Schedule.{note_of}
use Rattle.scripts.proofs.EventLineLemmas.{no_note_kinds, no_note_pid}
use Rattle.scripts.proofs.KindLemmas.{kinds_are_word}
use Rattle.scripts.proofs.OnePassLemmas.{after_number, line_begins, no_line, none_before_space}
use Rattle.scripts.proofs.OnePassLemmas.{none_after_number, none_of_words, none_on_line}
use Rattle.scripts.proofs.event_line.note_at.Goals as goal

pub returns-in_err-pid : goal.returns-in_err-pid
returns-in_err-pid c =
    rw c.from_residual.ensures
    (none_before_space note_of _ c.in_err-pid.ensures (λ word. refl) no_note_pid)

pub returns-in_err-kinds : goal.returns-in_err-kinds
returns-in_err-kinds c =
    let pid = c.in_ok-pid.ensures in
    rw c.from_residual-in_err-kinds.ensures
    (none_after_number note_of _ _ _ pid
    (no_line (λ words. note_of (pid.word ∷ words)) _ c.in_err-kinds.ensures.lines))

pub returns-in_err-notes : goal.returns-in_err-notes
returns-in_err-notes c =
    let pid = c.in_ok-pid.ensures in
    let kinds = c.in_ok-kinds.kinds.now in
    rw c.from_residual-in_err-notes.ensures
    (none_after_number note_of _ _ _ pid
    (none_on_line (λ words. note_of (pid.word ∷ words)) _ kinds c.in_ok-kinds.rest.now
    c.in_ok-kinds.ensures.lines
    (λ fits. none_of_words (λ words. note_of (pid.word ∷ words)) kinds
    (no_note_kinds pid.word kinds (sym c.in_err-notes.ensures)) (λ word next words. refl))))

pub returns : goal.returns
returns c =
    let pid = c.in_ok-pid.ensures in
    let kinds = c.in_ok-kinds.kinds.now in
    let are = sym c.in_ok-notes.ensures in
    record {
      words = pid.word ∷ words_of kinds;
      begins = after_number _ _ _ _ _ pid
          (line_begins _ _ _ c.in_ok-kinds.ensures.lines c.in_ok-kinds.ensures.cut);
      asks = rw (kinds_are_word kinds _ are, pid.spells, are) refl;
    }
