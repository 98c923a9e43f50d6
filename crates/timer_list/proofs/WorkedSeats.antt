-- What is no lock of timers, no seat of them and no tournament: each against one row.
use Rattle.std.proofs.Common.{◌≡◌, ◌≢◌, ◌<◌, ◌≤◌, ◌*◌, ◌^◌, ℕ, Bool, false, List}
use Rattle.std.proofs.Common.{[], Option, length, ap, sym, ◌∙◌, arith}
use Rattle.std.specs.Prelude.{replicate}
use Rattle.kernel_lock.specs.declared.locked.Locked.{Locked}
use Rattle.kernel_lock.specs.Seats.{IsSeatOf, SeesHistory, shares_of, limit_of, opening_of}
use Rattle.timer_list.specs.declared.due.Due.{Due}
use Rattle.timer_list.specs.declared.timer_object.Timer.{Timer}
use Rattle.timer_list.specs.declared.timer_object.Timer.TheVariants.{Unset}
use Rattle.timer_list.specs.declared.timer_object.TimerCall.{TimerCall}
use Rattle.timer_list.specs.declared.timer_object.TimerReply.{TimerReply}
use Rattle.timer_list.specs.declared.timers.Timers.{Timers}
use Rattle.timer_list.specs.declared.timers.TimerSeat.{TimerSeat}
use Rattle.timer_list.specs.Definitions.{timer_definition}
use Rattle.timer_list.specs.Opening.{IsTimerLock}
use Rattle.timer_list.specs.Seats.{IsSeatAtTimers, IsTimerSeatOf}
use Rattle.timer_list.specs.TimerHistory.{has_timer}
use Rattle.timer_list.specs.Tournament.{IsTournament, IsWon}

-- ---- locks

module _ (lock : Locked (List Timer) TimerCall TimerReply) where
  a_lock_of_fewer_timers : limit_of lock ≢ 3 → ¬ IsTimerLock lock 3
  a_lock_of_fewer_timers other of_it = other of_it.limit

  a_lock_of_a_timer_that_is_set : opening_of timer_definition lock ≢ replicate 3 Unset
      → ¬ IsTimerLock lock 3
  a_lock_of_a_timer_that_is_set other of_it = other of_it.opening_is

-- ---- seats

module _ (timers : Timers) (set : Bool) (seat : TimerSeat) where
  a_timer_of_no_timers : ¬ IsTimerLock timers.lock timers.procs → ¬ IsSeatAtTimers timers set seat
  a_timer_of_no_timers none at = none at.opened

  a_timer_of_another_lock : ¬ IsSeatOf timers.lock seat.seat → ¬ IsSeatAtTimers timers set seat
  a_timer_of_another_lock other at = other at.seat_is

  a_timer_that_saw_no_history : ¬ SeesHistory timer_definition timers.lock seat.seat
      → ¬ IsSeatAtTimers timers set seat
  a_timer_that_saw_no_history none at = none at.history

  a_timer_without_a_number : shares_of seat.seat ≡ [] → ¬ IsSeatAtTimers timers set seat
  a_timer_without_a_number none at =
      let one = ap (λ shares. length shares) (sym none ∙ at.shares_are) in omega (arith, one)

  who_made_no_call_has_no_timer : (at : IsSeatAtTimers timers set seat) → at.mine ≡ []
      → false ≡ set
  who_made_no_call_has_no_timer at none = sym (ap has_timer none) ∙ at.set_is

-- between two calls no timer is set
a_seat_between_calls_has_no_timer : (timers : Timers) (seat : TimerSeat)
    → ¬ IsSeatAtTimers timers false seat → ¬ IsTimerSeatOf timers seat
a_seat_between_calls_has_no_timer timers seat set at = set at

-- ---- sizes

a_tournament_has_two_nodes_for_each : (entrants : ℕ) (nodes : List (Option Due))
    → IsTournament entrants nodes → (1 ≤ entrants) × (entrants < 2 ^ 32)
    × (length nodes ≡ 2 * entrants)
    × ((place : ℕ) → 1 ≤ place → place < entrants → IsWon nodes place)
a_tournament_has_two_nodes_for_each entrants nodes is = (is.some, is.few, is.size, is.won)
