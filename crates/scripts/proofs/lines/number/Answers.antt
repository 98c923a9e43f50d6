-- The digits that were passed are all of the word, or it is no number.
use Rattle.std.proofs.Common.{sym, ◌∙◌}
use Rattle.scripts.proofs.NumberLemmas.{large_word, none_spelt, part_of_word, whole_spelt}
use Rattle.scripts.proofs.lines.number.Goals as goal
use Rattle.scripts.proofs.lines.number.Goals.{then-count-word-via-then-count-word}
use Rattle.scripts.proofs.lines.number.Goals.{then-count-word-via-else-count-word+then-not-spells}

pub returns-in_err-n : goal.returns-in_err-n
returns-in_err-n c = c.from_residual.ensures ∙ sym (large_word _ c.in_err-n.ensures)

pub returns-then-count-word : goal.returns-then-count-word
returns-then-count-word c =
    elim c.then-count-word.branch [
      | then-count-word-via-then-count-word w ↦
          sym (part_of_word _ _ _ c.in_ok-n.ensures w.if-count-word.true)
      | then-count-word-via-else-count-word+then-not-spells w ↦
          sym (none_spelt _ _ _ c.in_ok-n.ensures w.if-not-spells.ensures)
    ]

pub returns : goal.returns
returns c =
    whole_spelt _ _ _ c.if-count-word.false c.if-not-spells.ensures
