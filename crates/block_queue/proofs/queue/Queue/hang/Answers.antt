-- A hangup is one step, after which the seat is free again.
use Rattle.std.proofs.Common.{◌∙◌}
use Rattle.block_queue.proofs.SeatLemmas.{free_steps, entered_free}
use Rattle.block_queue.proofs.queue.Queue.hang.Goals as goal

pub returns-clause-stepper : goal.returns-clause-stepper
returns-clause-stepper c =
    let told = c.hang_up.ensures.told in
    entered_free c.args.self.now c.args.stepper.now c.hang_up.new.seat _ _ _
    (free_steps _ _ _ c.requires.stepper) c.requires.stepper.number_is
    c.hang_up.ensures.seat told.entered.enters told.entered.stage_is (told.slots ∙
    c.requires.stepper.no_slot)
