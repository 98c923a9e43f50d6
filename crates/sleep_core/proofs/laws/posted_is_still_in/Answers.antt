-- By what every run keeps.
use Rattle.sleep_core.proofs.TakesKept.{posted_are_still_in, still_in_are_posted}
use Rattle.sleep_core.proofs.TakesKept.{asleep_have_fallen}
use Rattle.sleep_core.proofs.laws.posted_is_still_in.Goals as goal

pub returns-clause-word : goal.returns-clause-word
returns-clause-word c = posted_are_still_in

pub returns-clause-history : goal.returns-clause-history
returns-clause-history c = still_in_are_posted

pub returns-clause-asleep : goal.returns-clause-asleep
returns-clause-asleep c = asleep_have_fallen
