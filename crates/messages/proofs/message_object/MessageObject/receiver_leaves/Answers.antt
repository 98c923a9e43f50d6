-- No list grows.
use Rattle.std.proofs.Common.{arith}
use Rattle.messages.proofs.LineLemmas.{length_most}
use Rattle.messages.proofs.message_object.MessageObject.receiver_leaves.Goals as goal

pub invariant_of-self : goal.invariant_of-self
invariant_of-self g c =
    let kept = c.self.invariant in
    let numbers = kept.numbers in
    let waiting = length_most c.self.inside.receivers.waiting c.args.place in
    record {
      room = kept.room;
      numbers = rw c.leave.ensures (omega (arith, numbers, waiting));
      most = kept.most;
      deque = kept.deque;
      senders = kept.senders;
      receivers = rw c.leave.ensures kept.receivers;
      free = kept.free;
      places = rw c.leave.ensures kept.places;
    }
