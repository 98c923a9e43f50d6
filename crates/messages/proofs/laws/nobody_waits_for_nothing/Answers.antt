-- By what each call keeps: whoever waits finds no place and no value that nobody was granted.
use Rattle.std.proofs.Common.{◌≢◌, ◌<◌, ℕ, List, [], ◌∷◌, length, refl, arith}
use Rattle.messages.proofs.LawLemmas.{history_keeps}
use Rattle.messages.proofs.laws.nobody_waits_for_nothing.Goals as goal

some_there : (xs : List ℕ) → xs ≢ [] → 0 < length xs
some_there [] some = absurd (some refl)
some_there (x ∷ xs) some = omega arith

pub returns : goal.returns
returns g c capacity handles past legal not =
    let held = history_keeps capacity handles past legal in
    let waits = held.waits not in
    let size = held.capacity_is in
    let room = held.sound.room in
    let values = held.sound.values in (
      (λ some. let least = waits.senders (some_there _ some) in omega (arith, least, room, size)),
      λ some. let least = waits.receivers (some_there _ some) in omega (arith, least, values),
    )
