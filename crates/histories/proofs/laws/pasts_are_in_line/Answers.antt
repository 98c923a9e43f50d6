-- The newest entries that the shorter lacks stand in front of it in the longer.
use Rattle.histories.proofs.ListLemmas.{past_shorter}
use Rattle.histories.proofs.laws.pasts_are_in_line.Goals as goal

pub returns : goal.returns
returns g c = λ first second history one two shorter.
    past_shorter first second history one two shorter
