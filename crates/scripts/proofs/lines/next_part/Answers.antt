-- The parts are the one before the first such byte and those after it; with none, the whole text.
use Rattle.std.proofs.Common.{sym, ◌==◌}
use Rattle.scripts.proofs.LineLemmas.{parts_of-at, parts_of-missing}
use Rattle.scripts.proofs.lines.next_part.Goals as goal

pub returns-in-None-clause-part : goal.returns-in-None-clause-part
returns-in-None-clause-part c =
    parts_of-missing (λ b. b == c.args.parting) c.args.text.now (sym c.in-None.ensures)

pub returns-in-Some-clause-part : goal.returns-in-Some-clause-part
returns-in-Some-clause-part c =
    parts_of-at (λ b. b == c.args.parting) c.args.text.now c.in-Some.end (sym c.in-Some.ensures)
