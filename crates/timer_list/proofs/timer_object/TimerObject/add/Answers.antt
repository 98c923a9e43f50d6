-- there are as many moments as timers, and the one that enters is the one of the timer that is set
use Rattle.std.proofs.Common.{◌∙◌, ap, length, arith}
use Rattle.timer_list.specs.declared.timer_object.Timer.TheVariants.{Set}
use Rattle.timer_list.proofs.TimerLemmas.{length-dues_from, dues-set}
use Rattle.timer_list.proofs.timer_object.TimerObject.add.Goals as goal

pub enter-requires : goal.enter-requires
enter-requires c =
    omega (arith, ap length c.self.invariant, length-dues_from 0 c.self.inside.timers.items)

-- the timer that is set enters
pub invariant_of-self : goal.invariant_of-self
invariant_of-self c =
    c.enter.ensures
    ∙ dues-set c.self.inside.timers.items c.args.seat (Set c.args.pid c.args.deadline)
    c.self.inside.dues c.self.invariant
