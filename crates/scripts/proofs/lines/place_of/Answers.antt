-- What the search answers is the first place of the byte.
use Rattle.std.proofs.Common.{◌==◌}
use Rattle.scripts.proofs.PlaceLemmas.{first_place}
use Rattle.scripts.proofs.lines.place_of.Goals as goal

pub returns : goal.returns
returns c = first_place (λ b. b == c.args.byte) c.args.text.now c.memchr.result c.memchr.ensures
