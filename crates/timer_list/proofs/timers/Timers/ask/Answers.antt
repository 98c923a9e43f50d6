-- The state that the call finds is what a legal history leaves, in which the seat's own calls are
-- its.
use Rattle.timer_list.specs.Timers.{seat_named}
use Rattle.timer_list.proofs.AskLemmas.{is_timed, names_it}
use Rattle.timer_list.proofs.timers.Timers.ask.Goals as goal

pub returns-clause-told : goal.returns-clause-told
returns-clause-told g c set at =
    is_timed c.args.self.now set c.args.call c.apply.result c.args.seat.now
    (record c.args.seat.now { seat = c.apply.new.seat }) at c.apply.ensures.history
    (rw (
      c.mark.ensures.seat,
      names_it (seat_named c.args.call) _ _ at.mine c.requires.named at.shares_are,
    ) at
    c.apply.ensures.served)
