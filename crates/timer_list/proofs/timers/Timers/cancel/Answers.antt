-- the seat has a timer, so a Cancel is answered Removed or Expired and nothing else
use Rattle.std.proofs.Common.{true}
use Rattle.timer_list.proofs.OwnTimerLemmas.{cancel_never}
use Rattle.timer_list.proofs.timers.Timers.cancel.Goals as goal

pub unreachable-requires : goal.unreachable-requires
unreachable-requires g c =
    let told = c.ask.ensures.told _ c.requires in
    cancel_never _ _ _ _ _ told.size told.within told.free c.number-number.ensures told.answer_is
    c.in_default.not-Removed c.in_default.not-Expired

pub returns-in-Removed : goal.returns-in-Removed
returns-in-Removed g c =
    record {
      asks = rw c.number-number.ensures at (c.in-Removed.ensures.asked true c.requires);
      set = c.ask.ensures.marked.0;
      cancelled = c.ask.ensures.marked.1;
    }

pub returns-in-Expired : goal.returns-in-Expired
returns-in-Expired g c =
    record {
      asks = rw c.number-number.ensures at (c.in-Expired.ensures.asked true c.requires);
      set = c.ask.ensures.marked.0;
      cancelled = c.ask.ensures.marked.1;
    }
