-- The reader sits down again as it stood up: a take ends free, and leaves it its numbers.
use Rattle.std.proofs.Common.{ap}
use Rattle.block_queue.specs.Seats.{head_view}
use Rattle.block_queue.proofs.AllSeatsLemmas.{sat_same, takes_same}
use Rattle.block_queue.proofs.SeatLemmas.{sits_take}
use Rattle.block_queue.proofs.queue.Queue.take_probed.Goals as goal

pub returns-clause-seat : goal.returns-clause-seat
returns-clause-seat g c =
    sits_take c.args.self.now c.put_token.new.self c.take_next-answer.new.stepper
    c.take_next-answer.ensures.stepper c.put_token.ensures.table c.put_token.ensures.views
    (let sat = c.put_token.ensures.taken in let counted =
    c.take_next-answer.ensures.counted in let blocks = c.blocks-2.ensures in cc)

pub returns-clause-same : goal.returns-clause-same
returns-clause-same g c =
    sat_same _ _ _ _ (ap (λ me. me.0.account) c.take_token-stepper.ensures.stepper)
    (ap (λ views. (head_view views).account) c.put_token.ensures.views)
    (takes_same _ _ _ _ c.take_next-answer.ensures.answer)
