-- the seat is the timers' between two ticks
use Rattle.timer_list.specs.Seats.{IsTimerSeatOf}
use Rattle.tests_messages.proofs.deadlines.ticks.Given as goal

abbrev pub invariant-loop : goal.invariant-loop
invariant-loop g l = IsTimerSeatOf l.timers l.timer
