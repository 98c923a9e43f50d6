-- Each round wakes whom it was named, and asks for the next.
use Rattle.std.proofs.Common.{◌∙◌}
use Rattle.histories.proofs.ListLemmas.{past_trans}
use Rattle.semaphore.proofs.ReleaseLemmas.{asks_later, names_more}
use Rattle.semaphore.proofs.sema.Sema.wake_granted.Goals as goal

pub loop-preserved : goal.loop-preserved
loop-preserved g c =
    let asks = c.next_wake-next.ensures.asks in
    record {
      seat = asks.seat;
      words = c.in-Ok.ensures.words ∙ c.loop.invariant.words;
      number = asks.number ∙ c.loop.invariant.number;
      there = c.next_wake-next.ensures.there;
      named = λ before first.
          names_more c.args.self.now c.in-Some-next.grant c.next_wake-next.result _ c.loop.seat
          c.next_wake-next.new.seat c.loop.proc c.wakeup.new.self
          (rw c.in-Some-next.is at (c.loop.invariant.named before first))
          (record { receipt = c.in-Ok.field-0; woken = c.in-Ok.ensures.woken }) asks;
      later = past_trans _ _ _ c.loop.invariant.later
          (asks_later c.args.self.now _ _ _ c.loop.seat c.next_wake-next.new.seat asks);
    }
