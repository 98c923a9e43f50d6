-- A seat that stands up still has its own number, which the step Divide asks for.
use Rattle.std.proofs.Common.{ap}
use Rattle.kernel_lock.proofs.SeatLemmas.{stands_own}
use Rattle.kernel_lock.proofs.locked.Locked.split.Goals as goal

pub divide_in_turn-child-requires-clause-own : goal.divide_in_turn-child-requires-clause-own
divide_in_turn-child-requires-clause-own g c =
    stands_own c.args.self.now c.args.seat.now _ c.requires
    (ap (λ me. me.0) c.take_token-stepper.ensures.stepper)
