-- The seat sits down with the numbers that it stood up with: a served request gives and takes none.
use Rattle.std.proofs.Common.{ap, ◌∙◌}
use Rattle.kernel_lock.proofs.SeatLemmas.{sits_again}
use Rattle.kernel_lock.proofs.ServeLemmas.{keeps_numbers}
use Rattle.kernel_lock.proofs.locked.Locked.apply.Goals as goal

pub returns-clause-seat : goal.returns-clause-seat
returns-clause-seat g c =
    let served = c.serve-reply.ensures in
    let sat = c.put_token.ensures in
    sits_again c.args.self.now c.args.seat.now c.put_token.new.self _ c.serve-reply.new.stepper
    c.requires.seat (ap (λ me. me.0) c.take_token-stepper.ensures.stepper) served.stepper
    served.outside
    (ap (λ account. account.number) served.served.account.new_is)
    (keeps_numbers _ _ _ served.served c.args.seat.now.number)
    sat.table sat.views (sat.number ∙ c.take_token-stepper.ensures.number)
