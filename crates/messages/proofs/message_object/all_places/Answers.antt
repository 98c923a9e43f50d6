-- Fewer places lie there than there is room for.
use Rattle.std.proofs.Common.{length, ap, ◌∙◌, arith, List, ℕ}
use Rattle.messages.proofs.SoundLemmas.{below_length}
use Rattle.messages.proofs.message_object.all_places.Goals as goal

pub push_back_reserved-requires : goal.push_back_reserved-requires
push_back_reserved-requires c =
    let long = c.places.free.ok.0 in
    let same = ap (λ (l : List ℕ). length l) c.places.invariant.items
    ∙ below_length c.places.place in
    let less = c.places-test.true in
    let room = c.places.invariant.room in
    omega (arith, long, same, less, room)
