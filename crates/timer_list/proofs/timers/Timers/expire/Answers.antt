-- an Expire is answered the process of a timer that ended or NoneDue, and nothing else
use Rattle.std.proofs.Common.{false}
use Rattle.timer_list.proofs.OwnTimerLemmas.{expire_never}
use Rattle.timer_list.proofs.timers.Timers.expire.Goals as goal

pub unreachable-requires : goal.unreachable-requires
unreachable-requires g c =
    let told = c.ask.ensures.told _ c.requires in
    expire_never told.state c.args.now c.ask.result told.answer_is c.in_default.not-Ended
    c.in_default.not-NoneDue

pub returns-in-Ended : goal.returns-in-Ended
returns-in-Ended g c = record { asks = c.in-Ended.ensures.asked false c.requires }

pub returns-in-NoneDue : goal.returns-in-NoneDue
returns-in-NoneDue g c = record { asks = c.in-NoneDue.ensures.asked false c.requires }
