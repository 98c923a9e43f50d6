-- What was found, and what is left to walk, is the whole line.
use Rattle.std.proofs.Common.{◌≡◌, ◌≤◌, ◌-◌, ◌++◌, length}
use Rattle.semaphore.specs.WaitQueue.{walk}
use Rattle.semaphore.proofs.wait_queue.WaitQueue.order.Given as goal

abbrev pub invariant-seats : goal.invariant-seats
invariant-seats l =
    record {
      fits : length l.order.items ≤ l.count;
      whole : l.order.items ++ walk l.next l.seat (l.count - length l.order.items)
          ≡ walk l.next l.end l.count;
    }

abbrev pub decreases-seats : goal.decreases-seats
decreases-seats l = l.count - length l.order.items
