-- The slot of a seat that is inside, as the base asks for it.
use Rattle.std.proofs.Common.{◌≡◌, ◌∷◌, Some, sym, ap, ◌∙◌}
use Rattle.atomic_table.specs.Table.{rest}
use Rattle.kernel_lock.specs.Steps.{Slot, Me, HasOnly}

-- a seat that has the slot alone took it last
pub has_slot : {Object Call Reply : Type 0} (me : Me Object Call Reply) → HasOnly me →
    (slot : Slot Object) × (me.1 ≡ (0, slot) ∷ rest me.1)
has_slot me full = (
  Some full.guarded,
  full.slots_are ∙ ap (λ slots. (0, Some full.guarded) ∷ rest slots) (sym full.slots_are),
)
