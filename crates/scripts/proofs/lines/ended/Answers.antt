-- The digits that were passed are all of the word, so nothing else is one.
use Rattle.scripts.proofs.NumberLemmas.{ends_in_digits, other_follows, spells_none}
use Rattle.scripts.proofs.lines.ended.Goals as goal
use Rattle.scripts.proofs.lines.ended.Goals.{then-count-text-via-then-count-text}
use Rattle.scripts.proofs.lines.ended.Goals.{then-count-text-via-else-count-text+then-not-spells}

pub returns-then-count-text : goal.returns-then-count-text
returns-then-count-text c =
    elim c.then-count-text.branch [
      | then-count-text-via-then-count-text w ↦
          ends_in_digits _ _ _ _ c.requires.other c.requires.digits w.if-count-text.true
      | then-count-text-via-else-count-text+then-not-spells w ↦
          spells_none _ _ _ _ c.requires.other c.requires.digits w.if-not-spells.ensures
    ]

pub returns-then-byte-end : goal.returns-then-byte-end
returns-then-byte-end c =
    other_follows _ _ _ _ _ _ c.requires.other c.requires.digits c.byte_after-byte.ensures
    c.if-byte-end.true
