-- The seat has the slot that it writes.
use Rattle.kernel_lock.proofs.SlotLemmas.{has_slot}
use Rattle.kernel_lock.proofs.locked.Locked.write_next.Goals as goal

pub slot_mut-requires : goal.slot_mut-requires
slot_mut-requires g c = (c.requires.stepper.table, has_slot _ c.requires.full)
