-- By the definitions of the step.
use Rattle.sleep_core.proofs.EventTableLemmas.{row}
use Rattle.sleep_core.proofs.laws.events_follow_table.Goals as goal

pub returns : goal.returns
returns c = row
