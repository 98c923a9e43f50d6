-- no call of its seat came since its setting, so only a tick that found it the first due has
-- expired it
use Rattle.timer_list.proofs.OwnTimerLemmas.{was_taken}
use Rattle.timer_list.proofs.laws.an_expired_timer_was_taken.Goals as goal

pub returns : goal.returns
returns c = was_taken
