-- It cancels its timer, awaits the note of a tick that has taken it, and keeps what came.
use Rattle.timer_list.specs.Timing.{awaiting}
use Rattle.timer_list.proofs.within.end_within.Goals as goal

pub returns-clause-timer : goal.returns-clause-timer
returns-clause-timer g c = c.cancel-expired.ensures.asks.seat

pub returns-clause-timer_number : goal.returns-clause-timer_number
returns-clause-timer_number g c = c.cancel-expired.ensures.asks.number

pub returns-clause-ended : goal.returns-clause-ended
returns-clause-ended g c =
    record {
      expired = c.cancel-expired.result;
      cancelled = c.cancel-expired.ensures.asks;
      awaited = awaiting c.await_tick-came.new.proc c.await_tick-came.result;
      awaits = record {
        times = c.await_tick-came.ensures.looks.0;
        looks = rw c.taken_by.ensures at c.await_tick-came.ensures.looks.1;
        came = c.await_tick-came.ensures.came;
      };
      kept = c.answer_timed.ensures.kept;
    }
