-- Nobody is open, and all places are free.
use Rattle.std.proofs.Common.{arith, refl}
use Rattle.messages.proofs.SoundLemmas.{below_length}
use Rattle.messages.proofs.message_object.MessageObject.new.Goals as goal

pub invariant_of-result : goal.invariant_of-result
invariant_of-result g c =
    let senders = c.in_ok-senders.ensures.ok in
    let receivers = c.in_ok-receivers.ensures.ok in
    let exact = c.in_ok-values.ensures.exact in
    let same = below_length c.args.handles in
    record {
      room = rw (c.in_ok-values.ensures.items, senders) (omega arith);
      numbers = rw (senders, receivers) (omega arith);
      most = c.requires.capacity;
      deque = omega (arith, exact);
      senders = rw senders c.requires.handles;
      receivers = rw (senders, receivers) refl;
      free = rw senders c.in_ok-free.ensures.room;
      places = rw (senders, receivers, c.in_ok-free.ensures.places) (omega (arith, same));
    }
