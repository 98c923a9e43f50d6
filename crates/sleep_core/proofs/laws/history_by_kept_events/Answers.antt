-- By induction over the run.
use Rattle.sleep_core.proofs.KeptHistory.{history_of-kept}
use Rattle.sleep_core.proofs.laws.history_by_kept_events.Goals as goal

pub returns : goal.returns
returns c = history_of-kept
