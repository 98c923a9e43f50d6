-- a timer that was set leaves the tournament when it is unset; an expired one had left it before
use Rattle.std.proofs.Common.{◌∙◌, ap, sym, length, arith}
use Rattle.std.proofs.lemmas.List.{get_or_default}
use Rattle.timer_list.specs.declared.timer_object.Timer.TheVariants.{Unset}
use Rattle.timer_list.specs.Timers.{due_of}
use Rattle.timer_list.proofs.TimerLemmas.{length-dues_from, dues-set, dues-same}
use Rattle.timer_list.proofs.timer_object.TimerObject.cancel.Goals as goal

-- an expired timer played no part
pub invariant_of-self : goal.invariant_of-self
invariant_of-self c =
    let timers = c.self.inside.timers.items in
    let seat = c.args.seat in
    dues-same timers seat Unset c.self.inside.dues c.self.invariant
    (ap (due_of seat) (get_or_default timers seat Unset c.index.result.now (omega arith) ∙
    (sym c.index.ensures ∙ c.in-Expired.is)))

pub enter-requires : goal.enter-requires
enter-requires c =
    omega (arith, ap length c.self.invariant, length-dues_from 0 c.self.inside.timers.items)

-- the timer that is taken away plays no longer
pub invariant_of-self-in-Set : goal.invariant_of-self-in-Set
invariant_of-self-in-Set c =
    c.enter.ensures ∙ dues-set c.self.inside.timers.items c.args.seat Unset c.self.inside.dues
    c.self.invariant
