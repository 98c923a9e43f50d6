-- the seat has no timer, so an Add is answered Added and nothing else
use Rattle.std.proofs.Common.{false}
use Rattle.timer_list.proofs.OwnTimerLemmas.{add_never}
use Rattle.timer_list.proofs.timers.Timers.add.Goals as goal

pub unreachable-requires : goal.unreachable-requires
unreachable-requires g c =
    let told = c.ask.ensures.told _ c.requires in
    add_never _ _ _ _ c.args.deadline c.args.pid _ told.size told.within told.free
    c.number-number.ensures told.answer_is c.in_default.not-Added

pub returns : goal.returns
returns g c =
    record {
      asks = rw c.number-number.ensures at (c.in-Added.ensures.asked false c.requires);
      set = c.ask.ensures.marked.0;
    }
