-- The value that goes frees a place, or there was none; and nobody waits who did not.
use Rattle.std.proofs.Common.{length, ap, arith, List}
use Rattle.messages.proofs.LineLemmas.{length_most}
use Rattle.messages.proofs.message_object.MessageObject.give.Goals as goal

pub invariant_of-self-in-None : goal.invariant_of-self-in-None
invariant_of-self-in-None g c =
    let kept = c.self.invariant in
    let room = kept.room in
    let numbers = kept.numbers in
    let same = ap (λ (l : List g.row.T.Denot). length l) c.in-None.ensures.items in
    let fewer = length_most c.self.inside.receivers.waiting c.args.place in
    record {
      room = omega (arith, room, same);
      numbers = rw c.leave.ensures (omega (arith, numbers, fewer));
      most = kept.most;
      deque = rw c.pop_front.ensures.capacity kept.deque;
      senders = kept.senders;
      receivers = rw c.leave.ensures kept.receivers;
      free = kept.free;
      places = rw c.leave.ensures kept.places;
    }

pub invariant_of-self : goal.invariant_of-self
invariant_of-self g c =
    let kept = c.self.invariant in
    let room = kept.room in
    let numbers = kept.numbers in
    let longer = ap (λ (l : List g.row.T.Denot). length l) c.in-Some.ensures.items in
    let fewer = length_most c.self.inside.receivers.waiting c.args.place in
    record {
      room = omega (arith, room, longer);
      numbers = rw c.leave.ensures (omega (arith, numbers, fewer));
      most = kept.most;
      deque = rw c.pop_front.ensures.capacity kept.deque;
      senders = kept.senders;
      receivers = rw c.leave.ensures kept.receivers;
      free = kept.free;
      places = rw c.leave.ensures kept.places;
    }
