-- By what every run keeps.
use Rattle.sleep_core.proofs.SleepPlaceLemmas.{sleepers_are_in_one_place, others_are_in_no_place}
use Rattle.sleep_core.proofs.laws.sleepers_are_in_one_place.Goals as goal

pub returns-clause-sleepers : goal.returns-clause-sleepers
returns-clause-sleepers c = sleepers_are_in_one_place

pub returns-clause-others : goal.returns-clause-others
returns-clause-others c = others_are_in_no_place
