-- What a wait for a unit says that was answered well.
use Rattle.std.proofs.Common.{Ok}
use Rattle.std.specs.Prelude.{true}
use Rattle.semaphore.specs.declared.acquiring.Semacquired.{Semacquired}
use Rattle.semaphore.specs.declared.acquiring.Semacquired.TheVariants as got
use Rattle.semaphore.specs.declared.sema.Sema.{Sema}
use Rattle.semaphore.specs.declared.sema.SemaSeat.{SemaSeat}
use Rattle.semaphore.specs.Acquiring.{Semacquires}
use Rattle.waiting.specs.Waiting.{Point}

-- it has its unit
pub has_its_unit : (sema : Sema) (before : Point SemaSeat) (answer : Semacquired)
    (after : Point SemaSeat) → Semacquires true sema before (Ok answer) after
    → Semacquires true sema before (Ok got.Acquired) after
has_its_unit sema before got.Acquired after called = called
has_its_unit sema before got.NotNow after called = absurd called.takes
