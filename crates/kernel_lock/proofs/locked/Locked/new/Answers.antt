-- The rule holds of a new table, and one that was refused gives the slots back with the object in
-- them.
use Rattle.std.proofs.Common.{refl, sym, ◌∙◌}
use Rattle.kernel_lock.proofs.OpeningKeeps.{opened_keeps}
use Rattle.kernel_lock.proofs.locked.Locked.new.Goals as goal

pub new-requires : goal.new-requires
new-requires g c =
    opened_keeps g.O.Object.definition _ _ _
    (rw c.in-Ok.ensures.items at c.push_reserved.ensures.items)
    (sym c.of.ensures) refl c.requires

pub object_in-requires : goal.object_in-requires
object_in-requires g c =
    (_, c.in-Err.ensures.err ∙ rw c.in-Ok.ensures.items at c.push_reserved.ensures.items)

pub returns-clause-refused : goal.returns-clause-refused
returns-clause-refused g c =
    c.object_in.ensures _
    (c.in-Err.ensures.err ∙ rw c.in-Ok.ensures.items at c.push_reserved.ensures.items)
