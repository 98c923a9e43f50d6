-- A sleep as a call that asks no device, after tsleep of the kernel.
use Rattle.std.specs.Prelude.{◌≡◌, ⊤, ℕ, Option, Some, None}
use Rattle.waiting.specs.declared.call.Reply.{Reply}
use Rattle.waiting.specs.declared.call.Reply.TheVariants as reply
use Rattle.waiting.specs.Waiting.{Promise, Point}

-- it sleeps with its threshold at once
abbrev pub Begins : ℕ → Point Unit → Reply Unit → Point Unit → Type 0
Begins threshold before (reply.Wait number) after = (number ≡ threshold) × (after ≡ before)
Begins threshold before told after = ⊥

-- a sleep that ended well is its last sleep
abbrev pub Ends : Point Unit → Reply Unit → Point Unit → Type 0
Ends before (reply.Done unit) after = after ≡ before
Ends before told after = ⊥

-- and a sleep that failed came to no result
abbrev pub Fails : ⊤ → Option ⊤ → ⊤ → Type 0
Fails before (Some unit) after = ⊥
Fails before None after = ⊤

-- a sleep with this threshold, as a call
abbrev pub sleeping : ℕ → Promise Unit Unit
sleeping threshold = record { begun = Begins threshold; asked = Ends; left = Fails }
