-- There was room for the value, and the seat that put it in has none granted any more.
use Rattle.std.proofs.Common.{◌≡◌, ◌+◌, length, ap, arith, ◌∙◌}
use Rattle.messages.specs.MessageObject.{Contents, can_put}
use Rattle.messages.proofs.LineLemmas.{length_join, length_most, room_for_one}
use Rattle.messages.proofs.message_object.MessageObject.accept.Goals as goal

pub invariant_of-self : goal.invariant_of-self
invariant_of-self g c =
    let o = c.self.inside in
    let kept = c.self.invariant in
    let numbers = kept.numbers in
    let fewer = length_most o.senders.waiting c.args.place in
    let may = ap (λ (k : Contents g.row.T.Denot). can_put k c.args.place) c.self.view_is
    ∙ c.requires in
    let room = room_for_one (length o.values.items) o.capacity c.args.place o.senders.granted may
    kept.room in
    let longer : length c.push_back_reserved.new.self.items ≡ length o.values.items + 1 =
    rw c.push_back_reserved.ensures.items (length_join o.values.items c.args.value) in
    record {
      room = rw (longer, c.leave.ensures) (omega (arith, room));
      numbers = rw c.leave.ensures (omega (arith, numbers, fewer));
      most = kept.most;
      deque = rw c.push_back_reserved.ensures.capacity kept.deque;
      senders = rw c.leave.ensures kept.senders;
      receivers = rw c.leave.ensures kept.receivers;
      free = rw c.leave.ensures kept.free;
      places = rw c.leave.ensures kept.places;
    }
