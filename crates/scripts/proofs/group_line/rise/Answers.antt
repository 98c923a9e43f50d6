-- The list does not rise where its next part is no number, or one that is not above those before.
use Rattle.std.proofs.Common.{sym, ◌∙◌}
use Rattle.scripts.proofs.GroupLemmas.{falls_after, none_after}
use Rattle.scripts.proofs.group_line.rise.Goals as goal

pub returns-in_default-next_number : goal.returns-in_default-next_number
returns-in_default-next_number c =
    sym (none_after c.loop-rest.before c.in-Some.text.now c.in_default-next_number.ensures.first)
    ∙ rw c.in-Some.is at c.loop-rest.invariant

pub returns-then-pid-before : goal.returns-then-pid-before
returns-then-pid-before c =
    sym (falls_after c.loop-rest.before c.in-Some.text.now _ _ c.in-Some-next_number.ensures.first
    c.if-pid-before.true) ∙ rw c.in-Some.is at c.loop-rest.invariant
