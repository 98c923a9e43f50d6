-- A place lies with the free ones, or with an open seat.
use Rattle.std.proofs.Common.{sym, arith}
use Rattle.messages.proofs.LineLemmas.{length_closed, length_join, length_not_open}
use Rattle.messages.proofs.message_object.MessageObject.close_receiver.Goals as goal

pub invariant_of-self : goal.invariant_of-self
invariant_of-self g c =
    let kept = c.self.invariant in
    let places = kept.places in
    let same = length_not_open c.self.inside.receivers.opened c.args.seat
    (sym c.in_default.ensures.place) in
    record {
      room = kept.room;
      numbers = rw c.close_seat.ensures.left kept.numbers;
      most = kept.most;
      deque = kept.deque;
      senders = kept.senders;
      receivers = rw c.close_seat.ensures.left kept.receivers;
      free = kept.free;
      places = rw c.close_seat.ensures.left (omega (arith, places, same));
    }

pub invariant_of-self-then-opened-gt0 : goal.invariant_of-self-then-opened-gt0
invariant_of-self-then-opened-gt0 g c =
    let kept = c.self.invariant in
    let places = kept.places in
    let fewer = length_closed c.self.inside.receivers.opened c.args.seat c.in-Some.place
    (sym c.in-Some.ensures.place) in
    let more = length_join c.self.inside.free.items c.in-Some.place in
    record {
      room = kept.room;
      numbers = rw c.close_seat.ensures.left kept.numbers;
      most = kept.most;
      deque = kept.deque;
      senders = kept.senders;
      receivers = rw c.close_seat.ensures.left kept.receivers;
      free = rw c.push_back_reserved.ensures.capacity kept.free;
      places = rw (c.close_seat.ensures.left, c.push_back_reserved.ensures.items)
          (omega (arith, places, fewer, more));
    }

pub invariant_of-self-2 : goal.invariant_of-self-2
invariant_of-self-2 g c =
    let kept = c.self.invariant in
    let places = kept.places in
    let fewer = length_closed c.self.inside.receivers.opened c.args.seat c.in-Some.place
    (sym c.in-Some.ensures.place) in
    let more = length_join c.self.inside.free.items c.in-Some.place in
    record {
      room = kept.room;
      numbers = rw c.close_seat.ensures.left kept.numbers;
      most = kept.most;
      deque = kept.deque;
      senders = kept.senders;
      receivers = rw c.close_seat.ensures.left kept.receivers;
      free = rw c.push_back_reserved.ensures.capacity kept.free;
      places = rw (c.close_seat.ensures.left, c.push_back_reserved.ensures.items)
          (omega (arith, places, fewer, more));
    }
