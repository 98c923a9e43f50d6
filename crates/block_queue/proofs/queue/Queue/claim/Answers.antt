-- The seat that was told that its write stands is free again; the move between changed no account.
use Rattle.std.proofs.Common.{ap, ◌∙◌}
use Rattle.atomic_table.specs.Table.{rest}
use Rattle.block_queue.proofs.SeatLemmas.{entered_stepper, entered_free, entered_number, steps_on}
use Rattle.block_queue.proofs.queue.Queue.claim.Goals as goal

pub store-requires-clause-seat : goal.store-requires-clause-seat
store-requires-clause-seat g c =
    let entered = c.accept.ensures.told.entered c.if-accept-count.false in
    steps_on c.args.self.now c.accept.new.seat c.move_in.new.seat _
    (entered_stepper c.args.self.now c.args.stepper.now c.accept.new.seat _ _ _ c.requires.stepper
    c.accept.ensures.seat entered.enters)
    c.move_in.ensures.seat (ap (λ me. me.0.account) c.move_in.ensures.moved)

pub returns-clause-stepper : goal.returns-clause-stepper
returns-clause-stepper g c =
    let entered = c.accept.ensures.told.entered c.if-accept-count.false in
    let stored = c.store.ensures.told in
    let account = ap (λ me. me.0.account) c.move_in.ensures.moved in
    let stepper = steps_on c.args.self.now c.accept.new.seat c.move_in.new.seat _
    (entered_stepper c.args.self.now c.args.stepper.now c.accept.new.seat _ _ _ c.requires.stepper
    c.accept.ensures.seat entered.enters)
    c.move_in.ensures.seat account in
    entered_free c.args.self.now c.move_in.new.seat c.store.new.seat _ _ _ stepper
    (ap (λ account. account.number) account ∙ entered_number _ _ _ _ entered.enters ∙
    c.requires.number)
    c.store.ensures.seat stored.entered.enters stored.entered.stage_is (stored.slots ∙
    ap (λ me. rest me.1) c.move_in.ensures.moved)
