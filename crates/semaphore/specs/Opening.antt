-- What a semaphore is under its lock.
use Rattle.std.specs.Prelude.{◌≡◌, ◌<◌, ◌≤◌, ℕ}
use Rattle.sync_base.specs.declared.fault.Fault.{Fault}
use Rattle.sync_base.specs.declared.fault.Fault.TheVariants as fault
use Rattle.sleep_wakeup.specs.Kernel.{Unused, HasRendez}
use Rattle.kernel_lock.specs.declared.locked.Locked.{Locked}
use Rattle.kernel_lock.specs.Seats.{limit_of, opening_of}
use Rattle.semaphore.specs.declared.limits.TheConstants.{MAX_VALUE}
use Rattle.semaphore.specs.declared.sema_object.SemaCall.{SemaCall}
use Rattle.semaphore.specs.declared.sema_object.SemaReply.{SemaReply}
use Rattle.sleep_core.specs.Limits.{IsProcCount}
use Rattle.semaphore.specs.Definitions.{sema_definition}
use Rattle.semaphore.specs.Units.{SemaState, opening}

-- the lock guards a semaphore for this many processes, each with a seat
pub record IsSemaLock (lock : Locked SemaState SemaCall SemaReply) (procs : ℕ) : Type 0 where
  pub value : ℕ
  pub fits : value ≤ MAX_VALUE
  pub opening_is : opening_of sema_definition lock ≡ opening value procs 0
  pub limit : limit_of lock ≡ procs

-- Own: why there is no semaphore of this value for this many processes. The value is tested first.
abbrev pub WhyNotOpened : Unused → ℕ → ℕ → Fault → Type 0
WhyNotOpened roster value procs fault.BadArg = MAX_VALUE < value
WhyNotOpened roster value procs fault.NoProc = (value ≤ MAX_VALUE) × (¬ IsProcCount procs)
WhyNotOpened roster value procs fault.NoRendez =
    (value ≤ MAX_VALUE) × IsProcCount procs × (¬ HasRendez roster procs)
WhyNotOpened roster value procs fault.Memory =
    (value ≤ MAX_VALUE) × IsProcCount procs × HasRendez roster procs
WhyNotOpened roster value procs other = ⊥
