-- What tsemacquire promises, after semacquire(2): a semacquire that waits until a moment.
use Rattle.std.specs.Prelude.{◌≡◌, ℕ, ◌+◌, Result, Ok, Err}
use Rattle.sync_base.specs.declared.fault.Fault.{Fault}
use Rattle.semaphore.specs.declared.sema.Sema.{Sema}
use Rattle.semaphore.specs.declared.sema.SemaSeat.{SemaSeat}
use Rattle.semaphore.specs.Acquiring.{acquiring}
use Rattle.semaphore.specs.Seats.{rendez_at, units_given}
use Rattle.timer_list.specs.declared.timers.TimerSeat.{TimerSeat}
use Rattle.timer_list.specs.Timing.{TimedPoint}
use Rattle.waiting.specs.Runners.{Runs}

-- one unit where it was acquired, else none
abbrev pub timed_units_of : Result Unit Fault → ℕ
timed_units_of (Ok unit) = 1
timed_units_of (Err why) = 0

-- a tsemacquire that is run so: the answer Ok is exactly one unit that was given, and any other
-- answer is none
pub record AcquiresBy (runs : Runs TimerSeat) (sema : Sema) (before : TimedPoint SemaSeat)
    (answer : Result Unit Fault) (after : TimedPoint SemaSeat) : Type 0 where
  pub units : units_given after.at.seat ≡ units_given before.at.seat + timed_units_of answer
  pub takes : runs.ran (acquiring sema) (rendez_at sema before.at.seat) before answer after
