-- The number is all of the list, or a comma follows it; else the first part spells none.
use Rattle.scripts.proofs.NumberLemmas.{large_list, other_in_list, spells_none_first}
use Rattle.scripts.proofs.OnePassLemmas.{first_number_all, first_number_before}
use Rattle.scripts.proofs.lines.next_number.Goals as goal

pub returns-in_err-n-clause-first : goal.returns-in_err-n-clause-first
returns-in_err-n-clause-first c =
    rw c.from_residual.ensures (large_list _ c.in_err-n.ensures)

pub returns-then-not-spells-clause-first : goal.returns-then-not-spells-clause-first
returns-then-not-spells-clause-first c =
    spells_none_first _ _ _ c.in_ok-n.ensures c.if-not-spells.ensures

pub returns-then-count-list-clause-first : goal.returns-then-count-list-clause-first
returns-then-count-list-clause-first c =
    first_number_all _ _ _ c.if-not-spells.ensures c.if-count-list.true

pub returns-then-byte-ne-COMMA-clause-first : goal.returns-then-byte-ne-COMMA-clause-first
returns-then-byte-ne-COMMA-clause-first c =
    other_in_list _ _ _ _ _ c.in_ok-n.ensures c.byte_after-byte.ensures c.if-byte-ne-COMMA.true

pub returns-clause-first : goal.returns-clause-first
returns-clause-first c =
    first_number_before _ _ _ _ c.if-not-spells.ensures
    (rw c.if-byte-ne-COMMA.false at c.byte_after-byte.ensures)
