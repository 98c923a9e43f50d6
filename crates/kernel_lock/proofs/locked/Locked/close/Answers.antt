-- Whoever took the lock has the object, which is what the history that it finds inside leaves.
use Rattle.kernel_lock.proofs.SeatLemmas.{ends}
use Rattle.kernel_lock.proofs.ServeLemmas.{takes_slot}
use Rattle.kernel_lock.proofs.locked.Locked.close.Goals as goal

pub take_out-object-requires-clause-full : goal.take_out-object-requires-clause-full
take_out-object-requires-clause-full g c =
    takes_slot g.O.Object.definition _ _ c.into_seat-stepper.ensures.3 c.take.ensures.taken

pub returns : goal.returns
returns g c =
    ends g.O.Object.definition _ _ _ _ _ c.requires c.into_seat-stepper.ensures.2
    c.into_seat-stepper.ensures.3 c.take.ensures.taken c.take_out-object.ensures.value
