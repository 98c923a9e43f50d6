-- The table agrees with the definition at each of the 256 bytes.
use Rattle.std.proofs.Common.{ℕ, get_or, refl, arith}
use Rattle.scripts.specs.declared.digits.TheConstants.{VALUES}
use Rattle.scripts.specs.Digits.{value_or_none}
use Rattle.scripts.proofs.DigitLemmas.{agree_below, agree_at}
use Rattle.scripts.proofs.digits.value_of.Goals as goal

-- the table is the definition at each of the 256 bytes
pub returns : goal.returns
unfolding agree_below
returns c =
    agree_at (λ (b : ℕ). get_or VALUES b 0) value_or_none 256 refl c.args.digit (omega arith)
