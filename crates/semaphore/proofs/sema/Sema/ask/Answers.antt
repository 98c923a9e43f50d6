-- The state that the call finds is what a legal history leaves, in which the seat's own calls are
-- its.
use Rattle.semaphore.specs.Units.{seat_named}
use Rattle.semaphore.proofs.AskLemmas.{is_told}
use Rattle.timer_list.proofs.AskLemmas.{names_it}
use Rattle.semaphore.proofs.sema.Sema.ask.Goals as goal

pub returns-clause-told : goal.returns-clause-told
returns-clause-told g c waits at =
    is_told c.args.self.now waits c.args.call c.apply.result c.args.seat.now
    (record { seat = c.apply.new.seat }) at c.apply.ensures.history
    (rw (names_it (seat_named c.args.call) _ _ at.mine c.requires.named at.shares_are) at
    c.apply.ensures.served)
