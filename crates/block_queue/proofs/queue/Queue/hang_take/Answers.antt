-- The reader sits down again as it stood up: a hangup is an entry, which leaves it its numbers.
use Rattle.std.proofs.Common.{ap, sym, ◌∙◌}
use Rattle.block_queue.specs.Seats.{head_view}
use Rattle.block_queue.proofs.AllSeatsLemmas.{sat_same, enters_same}
use Rattle.block_queue.proofs.SeatLemmas.{sits_take}
use Rattle.block_queue.proofs.queue.Queue.hang_take.Goals as goal

pub returns-clause-seat : goal.returns-clause-seat
returns-clause-seat c =
    sits_take c.args.self.now c.put_token.new.self c.hang.new.stepper c.hang.ensures.stepper
    c.put_token.ensures.table c.put_token.ensures.views
    (c.put_token.ensures.taken ∙ c.take_token-stepper.ensures.taken ∙ c.requires.seat.taken ∙
    sym (ap (λ me. me.0.taken) c.take_token-stepper.ensures.stepper) ∙ sym c.hang.ensures.taken)

pub returns-clause-same : goal.returns-clause-same
returns-clause-same c =
    sat_same _ _ _ _ (ap (λ me. me.0.account) c.take_token-stepper.ensures.stepper)
    (ap (λ views. (head_view views).account) c.put_token.ensures.views)
    (enters_same _ _ _ _ c.hang.ensures.hung)
