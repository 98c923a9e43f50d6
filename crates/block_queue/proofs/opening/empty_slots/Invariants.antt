-- as many slots are made as stand there, each of them empty
use Rattle.std.proofs.Common.{◌≡◌, ◌-◌, ◌≤◌, length, replicate, None}
use Rattle.std.specs.Vec.{vec_capacity}
use Rattle.block_queue.proofs.opening.empty_slots.Given as goal

abbrev pub invariant-emptying : goal.invariant-emptying
invariant-emptying l =
    record {
      slots : l.slots.items ≡ replicate (length l.slots.items) None;
      within : length l.slots.items ≤ l.count;
      room : l.count ≤ vec_capacity l.slots;
    }

abbrev pub decreases-emptying : goal.decreases-emptying
decreases-emptying l = l.count - length l.slots.items
