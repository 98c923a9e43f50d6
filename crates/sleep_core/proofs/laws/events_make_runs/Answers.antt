-- By induction over the events.
use Rattle.sleep_core.proofs.NoLostWakeup.{events_make_runs}
use Rattle.sleep_core.proofs.laws.events_make_runs.Goals as goal

pub returns : goal.returns
returns c = events_make_runs
