-- The seat and each further one are the lock's.
use Rattle.std.specs.List.{AllByRecursion}
use Rattle.kernel_lock.specs.Seats.{IsSeatOf}
use Rattle.tests_objects.proofs.locks.seats_of.Given as goal

abbrev pub invariant-loop : goal.invariant-loop
invariant-loop g l =
    record {
      seat : IsSeatOf l.lock l.seat;
      others : AllByRecursion (IsSeatOf l.lock) l.seats.items;
    }
