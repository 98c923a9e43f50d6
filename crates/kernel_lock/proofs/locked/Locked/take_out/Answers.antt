-- The seat has the slot that it empties.
use Rattle.kernel_lock.proofs.SlotLemmas.{has_slot}
use Rattle.kernel_lock.proofs.locked.Locked.take_out.Goals as goal

pub exchange-requires : goal.exchange-requires
exchange-requires g c = (c.requires.stepper.table, has_slot _ c.requires.full)
