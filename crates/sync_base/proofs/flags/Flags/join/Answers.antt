-- Each bit of the two sets' bitwise or is the greater of theirs.
use Rattle.std.proofs.lemmas.Nat.Bits.{bit_at_or}
use Rattle.sync_base.proofs.flags.Flags.join.Goals as goal

pub returns : goal.returns
returns c place = bit_at_or _ _ place
