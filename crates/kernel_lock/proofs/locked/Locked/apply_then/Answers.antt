-- The seat sits down with the numbers that it stood up with, and what the two requests tell of its
-- view they tell of it.
use Rattle.std.proofs.Common.{ap, ◌∙◌, unwrap_or}
use Rattle.kernel_lock.specs.View.{head_view}
use Rattle.kernel_lock.proofs.SeatLemmas.{sits_again}
use Rattle.kernel_lock.proofs.ServeLemmas.{then_number, then_keeps, applies_then}
use Rattle.kernel_lock.proofs.locked.Locked.apply_then.Goals as goal

pub returns-clause-seat : goal.returns-clause-seat
returns-clause-seat g c =
    let served = c.serve_then-answers.ensures in
    let sat = c.put_token.ensures in
    sits_again c.args.self.now c.args.seat.now c.put_token.new.self _
    c.serve_then-answers.new.stepper
    c.requires.seat (ap (λ me. me.0) c.take_token-stepper.ensures.stepper) served.stepper
    served.outside
    (then_number g.O.Object.definition _ _ _ _ _ _ _ served.served)
    (then_keeps g.O.Object.definition _ _ _ _ _ _ _ served.served c.args.seat.now.number)
    sat.table sat.views (sat.number ∙ c.take_token-stepper.ensures.number)

pub returns-clause-served : goal.returns-clause-served
returns-clause-served g c =
    applies_then g.O.Object.definition c.args.self.now c.args.seat.now c.put_token.new.self _ _ _ _
    _ _ _
    c.requires.seat (ap (λ me. me.0) c.take_token-stepper.ensures.stepper)
    (ap head_view c.put_token.ensures.views)
    (c.unwrap_or-by.ensures
    ∙ ap (λ named. unwrap_or named c.args.seat.now.number) c.caller.ensures)
    c.serve_then-answers.ensures.served
