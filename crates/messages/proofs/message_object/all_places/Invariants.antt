-- so many places lie there
use Rattle.std.proofs.Common.{◌≡◌, ◌≤◌}
use Rattle.std.specs.VecDeque.{deque_capacity}
use Rattle.messages.specs.MessageObject.{places_below}
use Rattle.messages.proofs.message_object.all_places.Given as goal

abbrev pub invariant-places : goal.invariant-places
invariant-places l =
    record {
      items : l.free.items ≡ places_below l.place;
      within : l.place ≤ l.count;
      room : l.count ≤ deque_capacity l.free;
    }
