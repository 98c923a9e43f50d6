-- The timers of the watch are those that it borrows.
use Rattle.plan9.proofs.clock.Watch.sleep_within.Goals as goal

pub returns-clause-slept : goal.returns-clause-slept
returns-clause-slept g c = rw (← c.self.view_is) c.sleep_within.ensures.slept
