-- While the lock is not got, neither what the seat knows nor what it has changes.
use Rattle.std.proofs.Common.{◌≡◌}
use Rattle.kernel_lock.specs.Steppers.{IsSameStepper}
use Rattle.kernel_lock.proofs.locked.Locked.take.Given as goal

abbrev pub invariant-loop : goal.invariant-loop
invariant-loop g l = IsSameStepper l.initial.stepper l.stepper × (l.stepper.me
    ≡ l.initial.stepper.me)
