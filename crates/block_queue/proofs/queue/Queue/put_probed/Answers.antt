-- The writer sits down again as it stood up: a put ends free, and leaves it its numbers.
use Rattle.std.proofs.Common.{ap, subst, sym, ◌∙◌, ◌+◌, ◌<◌}
use Rattle.block_queue.specs.Seats.{IsFreeStepperOf, head_view}
use Rattle.block_queue.proofs.AllSeatsLemmas.{sat_same, puts_same}
use Rattle.block_queue.proofs.SeatLemmas.{sits_put}
use Rattle.block_queue.proofs.queue.Queue.put_probed.Goals as goal

pub returns-clause-seat : goal.returns-clause-seat
returns-clause-seat g c =
    let writer = c.put_token.ensures.writer ∙ c.take_token-stepper.ensures.writer in
    sits_put c.args.self.now c.put_token.new.self c.put_in_turn-answer.new.stepper
    (subst (λ n. n < c.args.self.now.key.writers) (sym writer) c.requires.seat.writer_is)
    (subst (λ n. IsFreeStepperOf c.args.self.now c.put_in_turn-answer.new.stepper (n + 1))
    (sym c.put_token.ensures.writer) c.put_in_turn-answer.ensures.stepper)
    c.put_token.ensures.table c.put_token.ensures.views

pub returns-clause-same : goal.returns-clause-same
returns-clause-same g c =
    sat_same _ _ _ _ (ap (λ me. me.0.account) c.take_token-stepper.ensures.stepper)
    (ap (λ views. (head_view views).account) c.put_token.ensures.views)
    (puts_same _ _ _ _ _ _ c.put_in_turn-answer.ensures.answer)
