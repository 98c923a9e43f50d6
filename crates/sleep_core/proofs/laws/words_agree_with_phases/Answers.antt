-- By what every run keeps.
use Rattle.sleep_core.proofs.SleepPlaceLemmas.{words_agree_in_runs}
use Rattle.sleep_core.proofs.laws.words_agree_with_phases.Goals as goal

pub returns : goal.returns
returns c = words_agree_in_runs
