-- By induction over the run.
use Rattle.sleep_core.proofs.TakesKept.{returned_is_greatest}
use Rattle.sleep_core.proofs.laws.returned_is_greatest.Goals as goal

pub returns : goal.returns
returns c = returned_is_greatest
