-- What clauses see of timers and of their seats.
use Rattle.std.specs.Prelude.{◌≡◌, ℕ, Bool, false, List, [], ◌∷◌, Option}
use Rattle.kernel_lock.specs.Seats.{IsSeatOf, SeesHistory, shares_of, number_of, IsFirstSeat}
use Rattle.rendez_words.specs.Process.{Process}
use Rattle.timer_list.specs.declared.timers.Timers.{Timers}
use Rattle.timer_list.specs.declared.timers.TimerSeat.{TimerSeat}
use Rattle.timer_list.specs.Definitions.{timer_definition}
use Rattle.timer_list.specs.Opening.{IsTimerLock}
use Rattle.timer_list.specs.TimerHistory.{TimerEntry, has_timer}

-- the seat is one of the timers' and has one number; it has seen a legal history, with each of its
-- own calls in it once; and `set` says whether its timer is set, or expired and not cancelled
pub record IsSeatAtTimers (timers : Timers) (set : Bool) (seat : TimerSeat) : Type 0 where
  pub opened : IsTimerLock timers.lock timers.procs
  pub seat_is : IsSeatOf timers.lock seat.seat
  pub history : SeesHistory timer_definition timers.lock seat.seat
  pub mine : List TimerEntry
  pub shares_are : shares_of seat.seat ≡ record { number = number_of seat.seat; mine = mine } ∷ []
  pub set_is : has_timer mine ≡ set

-- between two calls of a process its timer is cancelled
abbrev pub IsTimerSeatOf : Timers → TimerSeat → Type 0
IsTimerSeatOf timers seat = IsSeatAtTimers timers false seat

-- new timers for this many processes, none of which is set, and their first seat
pub record AreNewTimers (procs : ℕ) (timers : Timers) (seat : TimerSeat) : Type 0 where
  pub procs_are : timers.procs ≡ procs
  pub seat_is : IsTimerSeatOf timers seat
  pub first_seat : IsFirstSeat seat.seat

-- the process as it was when the timer of the seat was set last, if it ever was
abbrev pub set_at : TimerSeat → Option Process
set_at seat = seat.set.process

-- the process as it was when that timer was cancelled last
abbrev pub cancelled_at : TimerSeat → Option Process
cancelled_at seat = seat.cancelled.process
