-- What no new semaphore is and no reason to refuse one: each against one row of what its
-- constructor says.
use Rattle.std.proofs.Common.{◌≡◌, ◌≢◌, ◌≤◌, ◌<◌, ℕ, length, ap, arith}
use Rattle.histories.specs.declared.account.Account.{Account}
use Rattle.kernel_lock.specs.Seats.{gave_of}
use Rattle.sync_base.specs.declared.fault.Fault.TheVariants as fault
use Rattle.sleep_wakeup.specs.Kernel.{Unused, HasRendez}
use Rattle.semaphore.specs.declared.limits.TheConstants.{MAX_VALUE}
use Rattle.semaphore.specs.declared.sema.Sema.{Sema}
use Rattle.semaphore.specs.declared.sema.SemaSeat.{SemaSeat}
use Rattle.semaphore.specs.Opening.{WhyNotOpened}
use Rattle.sleep_core.specs.Limits.{IsProcCount}
use Rattle.semaphore.specs.SemaHistory.{SemaEntry}
use Rattle.semaphore.specs.Seats.{IsNewSema, OwnsRow, IsSemaSeatOf, opening_value}
use Rattle.semaphore.specs.Units.{IsSemaRange}

module _ (roster : Unused) (sema : Sema) (seat : SemaSeat) where
  -- it has a unit more than it was asked for, or none
  another_value : opening_value sema ≢ 1 → IsNewSema roster 1 3 sema seat → ⊥
  another_value other new = other new.value_is

  -- it serves a process fewer, or one more
  another_count : sema.procs ≢ 3 → IsNewSema roster 1 3 sema seat → ⊥
  another_count other new = other new.procs_are

  -- its row begins before the next Rendez, or after it
  another_row : sema.first ≢ roster.rendez → IsNewSema roster 1 3 sema seat → ⊥
  another_row other new = other new.first_is

  -- its row is none of the kernel's
  a_row_of_no_kernel : (OwnsRow sema roster.words → ⊥) → IsNewSema roster 1 3 sema seat → ⊥
  a_row_of_no_kernel none new = none new.row

  -- its first seat is another's
  a_seat_of_another : (IsSemaSeatOf sema seat → ⊥) → IsNewSema roster 1 3 sema seat → ⊥
  a_seat_of_another other new = other new.seat_is

  -- its first seat has given a number
  a_seat_that_gave_one : length (gave_of seat.seat) ≡ 1 → IsNewSema roster 1 3 sema seat → ⊥
  a_seat_that_gave_one one new =
      let gave = ap (λ (account : Account SemaEntry). length account.gave) new.first_seat.account in
      omega (arith, one, gave)

module _ (roster : Unused) (value procs : ℕ) where
  -- BadArg for a value that is not too great
  a_value_in_range : value ≤ MAX_VALUE → WhyNotOpened roster value procs fault.BadArg → ⊥
  a_value_in_range small why = omega (arith, small, why)

  -- NoProc for a value that is too great
  processes_before_the_value : MAX_VALUE < value → WhyNotOpened roster value procs fault.NoProc → ⊥
  processes_before_the_value great (small, count) = omega (arith, great, small)

  -- NoProc for as many processes as there may be
  processes_in_range : IsProcCount procs → WhyNotOpened roster value procs fault.NoProc → ⊥
  processes_in_range count (small, none) = none count

  -- NoRendez for a value that is too great
  rendez_before_the_value : MAX_VALUE < value → WhyNotOpened roster value procs fault.NoRendez → ⊥
  rendez_before_the_value great (small, count, none) = omega (arith, great, small)

  -- NoRendez for as many processes as there may not be
  rendez_before_the_processes : (IsProcCount procs → ⊥)
      → WhyNotOpened roster value procs fault.NoRendez → ⊥
  rendez_before_the_processes none (small, count, rendez) = none count

  -- NoRendez where enough are left
  rendez_that_are_left : HasRendez roster procs → WhyNotOpened roster value procs fault.NoRendez → ⊥
  rendez_that_are_left left (small, count, none) = none left

  -- Memory for a value that is too great
  memory_before_the_value : MAX_VALUE < value → WhyNotOpened roster value procs fault.Memory → ⊥
  memory_before_the_value great (small, count, left) = omega (arith, great, small)

  -- Memory where too few Rendez are left
  memory_before_the_rendez : (HasRendez roster procs → ⊥)
      → WhyNotOpened roster value procs fault.Memory → ⊥
  memory_before_the_rendez none (small, count, left) = none left

  -- DoubleSleep, which is no reason
  opened_for_a_double_sleep : WhyNotOpened roster value procs fault.DoubleSleep → ⊥
  opened_for_a_double_sleep why = why

  -- an object of too great a value, or for as many processes as there may not be
  a_value_out_of_range : MAX_VALUE < value → IsSemaRange value procs → ⊥
  a_value_out_of_range great range =
      let small = range.fits in
      omega (arith, great, small)

  processes_out_of_range : (IsProcCount procs → ⊥) → IsSemaRange value procs → ⊥
  processes_out_of_range none range = none range.count
