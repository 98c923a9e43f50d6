-- It was refused, or it released and then woke each that was named.
use Rattle.std.proofs.Common.{refl, ◌∙◌, List, subst}
use Rattle.histories.specs.History.{IsPast}
use Rattle.kernel_lock.specs.Seats.{seen_of}
use Rattle.semaphore.specs.Asking.{wake_reply}
use Rattle.semaphore.specs.SemaHistory.{SemaEntry}
use Rattle.waiting.specs.Waiting.{point}
use Rattle.semaphore.proofs.sema.Sema.semrelease.Goals as goal

pub returns-in-None-clause-seat : goal.returns-in-None-clause-seat
returns-in-None-clause-seat g c = c.in-None.ensures.refused.seat

pub returns-in-None-clause-number : goal.returns-in-None-clause-number
returns-in-None-clause-number g c = c.in-None.ensures.refused.number

pub returns-in-None-clause-called : goal.returns-in-None-clause-called
returns-in-None-clause-called g c = record { asks = c.in-None.ensures.refused; idle = refl }

pub wake_granted-requires-clause-seat : goal.wake_granted-requires-clause-seat
wake_granted-requires-clause-seat g c = c.in-Some.ensures.released.found_second.asks.seat

pub returns-in-Some-clause-number : goal.returns-in-Some-clause-number
returns-in-Some-clause-number g c =
    let both = c.in-Some.ensures.released in
    c.wake_granted.ensures.number ∙ both.found_second.asks.number ∙ both.found_first.asks.number

pub returns-in-Some-clause-called : goal.returns-in-Some-clause-called
returns-in-Some-clause-called g c =
    let both = c.in-Some.ensures.released in
    record {
      first = point both.between c.args.proc.now;
      released = record { asks = both.found_first.asks; idle = refl };
      wakes = c.wake_granted.ensures.woken both.between both.found_second.asks;
      at_once = record {
        told = wake_reply c.in-Some.released.next;
        next = subst
            (λ (seen : List SemaEntry). IsPast seen (seen_of c.wake_granted.new.seat.seat))
            both.at_once c.wake_granted.ensures.later;
      };
    }
