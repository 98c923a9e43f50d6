-- What no new timers are and no reason to refuse them: each against one row of what their
-- constructor says.
use Rattle.std.proofs.Common.{◌≡◌, ◌≢◌, ℕ, length, ap, arith}
use Rattle.histories.specs.declared.account.Account.{Account}
use Rattle.kernel_lock.specs.Seats.{gave_of}
use Rattle.sync_base.specs.declared.fault.Fault.TheVariants as fault
use Rattle.timer_list.specs.declared.timers.Timers.{Timers}
use Rattle.timer_list.specs.declared.timers.TimerSeat.{TimerSeat}
use Rattle.sleep_core.specs.Limits.{IsProcCount}
use Rattle.timer_list.specs.TimerHistory.{TimerEntry}
use Rattle.timer_list.specs.Seats.{AreNewTimers, IsTimerSeatOf}
use Rattle.timer_list.specs.Timers.{WhyNoTimers}

module _ (timers : Timers) (seat : TimerSeat) (procs : ℕ) where
  -- they serve a process fewer, or one more
  timers_for_another_count : timers.procs ≢ 3 → AreNewTimers 3 timers seat → ⊥
  timers_for_another_count other new = other new.procs_are

  -- their first seat is another's
  a_timer_of_another : (IsTimerSeatOf timers seat → ⊥) → AreNewTimers 3 timers seat → ⊥
  a_timer_of_another other new = other new.seat_is

  -- their first seat has given a number
  a_timer_that_gave_one : length (gave_of seat.seat) ≡ 1 → AreNewTimers 3 timers seat → ⊥
  a_timer_that_gave_one one new =
      let gave =
      ap (λ (account : Account TimerEntry). length account.gave) new.first_seat.account in
      omega (arith, one, gave)

  -- NoProc for as many processes as there may be
  timers_in_range : IsProcCount procs → WhyNoTimers procs fault.NoProc → ⊥
  timers_in_range count none = none count

  -- Memory for as many processes as there may not be
  timers_memory_first : (IsProcCount procs → ⊥) → WhyNoTimers procs fault.Memory → ⊥
  timers_memory_first none count = none count

  -- BadFlags, which is no reason
  timers_for_bad_flags : WhyNoTimers procs fault.BadFlags → ⊥
  timers_for_bad_flags why = why
