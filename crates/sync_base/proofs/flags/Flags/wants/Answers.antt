-- A flag is set where its bit is 1.
use Rattle.std.proofs.Common.{◌≡◌, ◌==◌, ◌^◌, ℕ, not, arith, bit_and}
use Rattle.std.specs.Int.{bit_at}
use Rattle.std.proofs.lemmas.Bool.Decides.{nat_tests}
use Rattle.std.proofs.lemmas.Nat.Bits.{and_pow, bit_at-lt}
use Rattle.sync_base.proofs.flags.Flags.wants.Goals as goal

-- a mask of one bit leaves a bit that is set, and nothing else
is_set : (bits place : ℕ) → not (bit_and bits (2 ^ place) == 0) ≡ (bit_at bits place == 1)
is_set bits place =
    let low = bit_at-lt bits place in
    let mask = and_pow bits place in
    grind (arith, nat_tests)

pub returns-clause-wants : goal.returns-clause-wants
returns-clause-wants c =
    let bits = c.args.self.bits in
    let process = is_set bits 0 in
    let space = is_set bits 1 in
    let group = is_set bits 2 in
    cc
