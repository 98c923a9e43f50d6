-- There is room for each value.
use Rattle.std.proofs.Common.{arith}
use Rattle.messages.proofs.LawLemmas.{history_keeps}
use Rattle.messages.proofs.laws.never_overfull.Goals as goal

pub returns : goal.returns
returns g c capacity handles past legal =
    let held = history_keeps capacity handles past legal in
    let room = held.sound.room in
    let size = held.capacity_is in
    omega (arith, room, size)
