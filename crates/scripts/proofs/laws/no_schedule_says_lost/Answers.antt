-- What the core keeps in every list of events.
use Rattle.scripts.proofs.ScheduleLemmas.{says_none_lost}
use Rattle.scripts.proofs.laws.no_schedule_says_lost.Goals as goal

pub returns : goal.returns
returns c = says_none_lost
    (λ procs rendez events. let kept = c.no_lost_wakeup.ensures.events procs rendez events in
    kept.nobody_oversleeps)
