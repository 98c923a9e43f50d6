-- The state of a wakeup under way has a run: the sleeper's steps, and then the raiser's.
use Rattle.rendez_words.proofs.BrokenLemmas.{a_wakeup_goes_on}
use Rattle.rendez_words.proofs.laws.rule_can_be_kept.Goals as goal

pub returns : goal.returns
returns c = a_wakeup_goes_on
