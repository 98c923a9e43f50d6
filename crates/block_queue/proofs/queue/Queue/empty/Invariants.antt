-- so many blocks were taken out
use Rattle.std.proofs.Common.{◌≡◌, ◌-◌, ◌≤◌, length}
use Rattle.std.specs.Vec.{vec_capacity}
use Rattle.block_queue.specs.Gather.{IsEmptying}
use Rattle.block_queue.specs.Seats.{IsFreeStepperOf}
use Rattle.block_queue.proofs.queue.Queue.empty.Given as goal

abbrev pub invariant-emptying : goal.invariant-emptying
invariant-emptying l =
    record {
      stepper : IsFreeStepperOf l.self l.stepper 0;
      taken : l.taken ≡ l.stepper.me.0.taken;
      room : l.left ≤ vec_capacity l.blocks;
      emptying : IsEmptying l.self.key l.left l.initial.stepper.me.0.account l.stepper.me.0.account
          l.blocks.items;
    }

abbrev pub decreases-emptying : goal.decreases-emptying
decreases-emptying l = l.left - length l.blocks.items
