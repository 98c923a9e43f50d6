-- Each way out before the claim has its entry, which leaves the writer free: hungup, worn or full.
use Rattle.std.proofs.Common.{arith, ap, ◌∙◌, ◌<◌}
use Rattle.block_queue.proofs.SeatLemmas.{free_steps, entered_free, steps_on}
use Rattle.block_queue.specs.Places.{free_word}
use Rattle.block_queue.proofs.queue.Queue.try_put.Goals as goal

pub returns-then-tail-ge-MARK-clause-stepper : goal.returns-then-tail-ge-MARK-clause-stepper
returns-then-tail-ge-MARK-clause-stepper g c =
    let told = c.put_tail-tail.ensures.told in
    let entered = told.hungup c.if-tail-ge-MARK.true in
    entered_free c.args.self.now c.args.stepper.now c.put_tail-tail.new.seat _ _ _
    (free_steps _ _ _ c.requires.stepper) c.requires.stepper.number_is
    c.put_tail-tail.ensures.seat entered.enters entered.stage_is (told.slots ∙
    c.requires.stepper.no_slot)

pub returns-then-self-tail-eq-LAST_WRITE-clause-stepper :
    goal.returns-then-self-tail-eq-LAST_WRITE-clause-stepper
returns-then-self-tail-eq-LAST_WRITE-clause-stepper g c =
    let told = c.put_tail-tail.ensures.told in
    let entered = told.worn c.if-self-tail-eq-LAST_WRITE.true in
    entered_free c.args.self.now c.args.stepper.now c.put_tail-tail.new.seat _ _ _
    (free_steps _ _ _ c.requires.stepper) c.requires.stepper.number_is
    c.put_tail-tail.ensures.seat entered.enters entered.stage_is (told.slots ∙
    c.requires.stepper.no_slot)

pub returns-then-word-free-clause-stepper : goal.returns-then-word-free-clause-stepper
returns-then-word-free-clause-stepper g c =
    let tail = c.put_tail-tail.ensures.told in
    let told = c.put_sequence-word.ensures.told in
    let counted = tail.counted c.if-tail-ge-MARK.false c.if-self-tail-eq-LAST_WRITE.false in
    let less : c.put_sequence-word.result < free_word c.args.self.now.key.limit
    c.put_tail-tail.result = omega (arith, c.if-word-free.true, c.free-free.ensures) in
    let entered = told.full less in
    entered_free c.args.self.now c.put_tail-tail.new.seat c.put_sequence-word.new.seat _ _ _
    (steps_on c.args.self.now c.args.stepper.now c.put_tail-tail.new.seat _
    (free_steps _ _ _ c.requires.stepper) c.put_tail-tail.ensures.seat
    (ap (λ view. view.account) counted))
    (ap (λ view. view.account.number) counted ∙ c.requires.stepper.number_is)
    c.put_sequence-word.ensures.seat entered.enters entered.stage_is (told.slots ∙ tail.slots ∙
    c.requires.stepper.no_slot)
