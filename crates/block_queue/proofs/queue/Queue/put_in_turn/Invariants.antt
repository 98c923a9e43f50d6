-- a round that was not answered leaves all as it was
use Rattle.std.proofs.Common.{◌≡◌, ◌+◌}
use Rattle.block_queue.specs.Seats.{IsFreeStepperOf}
use Rattle.block_queue.proofs.queue.Queue.put_in_turn.Given as goal

abbrev pub invariant-loop : goal.invariant-loop
invariant-loop g l = IsFreeStepperOf l.self l.stepper (l.writer + 1) ×
    (l.stepper.me ≡ l.initial.stepper.me) × (l.block ≡ l.initial.block)
