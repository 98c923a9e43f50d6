-- What timers are under their lock.
use Rattle.std.specs.Prelude.{◌≡◌, ℕ, List, replicate}
use Rattle.kernel_lock.specs.declared.locked.Locked.{Locked}
use Rattle.kernel_lock.specs.Seats.{limit_of, opening_of}
use Rattle.timer_list.specs.declared.timer_object.Timer.{Timer}
use Rattle.timer_list.specs.declared.timer_object.Timer.TheVariants.{Unset}
use Rattle.timer_list.specs.declared.timer_object.TimerCall.{TimerCall}
use Rattle.timer_list.specs.declared.timer_object.TimerReply.{TimerReply}
use Rattle.timer_list.specs.Definitions.{timer_definition}

-- the lock guards timers for this many processes, each with a seat
pub record IsTimerLock (lock : Locked (List Timer) TimerCall TimerReply) (procs : ℕ) : Type 0 where
  pub opening_is : opening_of timer_definition lock ≡ replicate procs Unset
  pub limit : limit_of lock ≡ procs
