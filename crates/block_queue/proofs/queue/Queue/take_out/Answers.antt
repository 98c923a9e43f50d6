-- The block that stood in the slot is told, and the reader is free with its entry.
use Rattle.std.proofs.Common.{◌+◌, ◌∙◌, ap, subst, sym}
use Rattle.atomic_table.specs.Table.{rest}
use Rattle.block_queue.specs.declared.entry.Entry.TheVariants.{Block}
use Rattle.block_queue.specs.Meaning.{Enters}
use Rattle.block_queue.proofs.SeatLemmas.{entered_free, steps_on}
use Rattle.block_queue.proofs.queue.Queue.take_out.Goals as goal

pub returns : goal.returns
returns g c =
    let moved = c.move_out-stored.ensures.moved in
    let freed = c.free_place.ensures.told in
    let account = ap (λ me. me.0.account) moved in
    let taken = ap (λ me. me.0.taken) moved ∙ sym c.requires.taken_is in
    record {
      free = entered_free c.args.self.now c.move_out-stored.new.seat c.free_place.new.seat _ _ _
          (steps_on c.args.self.now c.args.stepper.now c.move_out-stored.new.seat _
          c.requires.stepper_is c.move_out-stored.ensures.seat account)
          (ap (λ account. account.number) account ∙ c.requires.number_is)
          c.free_place.ensures.seat freed.enters freed.stage_is
          (freed.slots ∙ ap (λ me. rest me.1) moved);
      answered =
          subst (λ old. Enters c.args.self.now.key (Block c.stored.inside.writer
          c.stored.inside.block (c.args.self.now.key.first + c.args.taken + 1)) old
          c.free_place.new.seat.me.0.account) account
          (subst (λ n. Enters c.args.self.now.key (Block c.stored.inside.writer
          c.stored.inside.block (c.args.self.now.key.first + n + 1))
          c.move_out-stored.new.seat.me.0.account c.free_place.new.seat.me.0.account) taken
          (subst (λ write. Enters c.args.self.now.key (Block write.writer write.bytes
          (c.args.self.now.key.first + c.move_out-stored.new.seat.me.0.taken + 1))
          c.move_out-stored.new.seat.me.0.account c.free_place.new.seat.me.0.account)
          (sym c.stored.view_is) freed.enters));
      fresh = tt;
      counted = freed.taken_is ∙ ap (λ n. n + 1) taken;
    }
