-- The verb, the list and the kinds are the words of the line; where one of them is not there, no
-- line asks for a group.
use Rattle.std.proofs.Common.{◌≡◌, [], ◌∷◌, codes, refl, sym}
use Rattle.scripts.specs.Lines.{words_of}
use Rattle.scripts.specs.Schedule.{group_of}
use Rattle.scripts.proofs.GroupLemmas.{group_asked, group_is_word, no_kinds, no_pids}
use Rattle.scripts.proofs.GroupLemmas.{no_word_asks_none}
use Rattle.scripts.proofs.KindLemmas.{kinds_are_word}
use Rattle.scripts.proofs.OnePassLemmas.{line_begins, line_after_word, no_line, none_after_word}
use Rattle.scripts.proofs.OnePassLemmas.{none_on_line}
use Rattle.scripts.proofs.group_line.group_at.Goals as goal

pub returns-in_err-after_word : goal.returns-in_err-after_word
returns-in_err-after_word c =
    rw c.from_residual.ensures (no_word_asks_none _ c.in_err-after_word.ensures)

pub returns-in_err-line : goal.returns-in_err-line
returns-in_err-line c =
    rw c.from_residual-in_err-line.ensures
    (none_after_word group_of _ (codes "notepg") _ c.in_ok-after_word.ensures group_is_word
    (no_line (λ words. group_of (codes "notepg" ∷ words)) _ c.in_err-line.ensures.lines))

pub returns-in_err-kinds : goal.returns-in_err-kinds
returns-in_err-kinds c =
    rw c.from_residual-in_err-kinds.ensures
    (none_after_word group_of _ (codes "notepg") _ c.in_ok-after_word.ensures group_is_word
    (none_on_line (λ words. group_of (codes "notepg" ∷ words)) _ _ c.in_ok-line.rest.now
    c.in_ok-line.ensures.lines
    (λ fits. rw (c.next_word.ensures, c.in_err-kinds.was) refl)))

pub returns-in_err-notes : goal.returns-in_err-notes
returns-in_err-notes c =
    rw c.from_residual-in_err-notes.ensures
    (none_after_word group_of _ (codes "notepg") _ c.in_ok-after_word.ensures group_is_word
    (none_on_line (λ words. group_of (codes "notepg" ∷ words)) _ _ c.in_ok-line.rest.now
    c.in_ok-line.ensures.lines
    (λ fits. rw (c.next_word.ensures, c.in_ok-kinds.was)
    (no_kinds c.next_word.result.0.now c.in_ok-kinds.field-0.now (sym c.in_err-notes.ensures)))))

pub returns-in_err-pids : goal.returns-in_err-pids
returns-in_err-pids c =
    rw c.from_residual-in_err-pids.ensures
    (none_after_word group_of _ (codes "notepg") _ c.in_ok-after_word.ensures group_is_word
    (none_on_line (λ words. group_of (codes "notepg" ∷ words)) _ _ c.in_ok-line.rest.now
    c.in_ok-line.ensures.lines
    (λ fits. rw (c.next_word.ensures, c.in_ok-kinds.was)
    (no_pids c.next_word.result.0.now c.in_ok-kinds.field-0.now c.in_err-pids.ensures))))

pub returns : goal.returns
returns c =
    let line = c.in_ok-line in
    let kinds = c.in_ok-kinds.field-0.now in
    let are = sym c.in_ok-notes.ensures in
    let words : words_of line.line.now ≡ c.next_word.result.0.now ∷ kinds ∷ [] =
    rw (c.next_word.ensures, c.in_ok-kinds.was, kinds_are_word kinds _ are) refl in
    record {
      words = codes "notepg" ∷ words_of line.line.now;
      begins = line_after_word _ (codes "notepg") _ _ _ c.in_ok-after_word.ensures group_is_word
          (line_begins _ _ _ line.ensures.lines line.ensures.cut);
      asked = group_asked (words_of line.line.now) c.next_word.result.0.now kinds _ words
          c.in_ok-pids.ensures are;
    }
