-- After each call the seat is still one of the lock's.
use Rattle.kernel_lock.specs.Seats.{IsSeatOf}
use Rattle.tests_objects.proofs.locks.adds.Given as goal

abbrev pub invariant-loop : goal.invariant-loop
invariant-loop g l = IsSeatOf l.lock l.seat
