-- The object answers in the slot that the seat has.
use Rattle.std.proofs.Common.{Some, ◌∷◌, refl, ap, ◌∙◌}
use Rattle.atomic_table.specs.Table.{rest}
use Rattle.kernel_lock.specs.declared.view.Guarded.{Guarded}
use Rattle.kernel_lock.proofs.SlotLemmas.{has_slot}
use Rattle.kernel_lock.proofs.locked.Locked.answer.Goals as goal

pub slot_mut-requires : goal.slot_mut-requires
slot_mut-requires g c = (c.requires.stepper.table, has_slot _ c.requires.full)

pub returns-clause-answered : goal.returns-clause-answered
returns-clause-answered g c =
    let alone = ap rest c.requires.full.slots_are in
    let left : Guarded g.row.O.Denot =
    record { object = c.run.new.self; next = c.in-Some.guarded.next } in
    record {
      found = c.in-Some.guarded;
      left = left;
      found_is = c.slot_mut.ensures.value
          ∙ ap (λ slot. (0, slot) ∷ rest c.args.stepper.now.me.1) c.in-Some.is
          ∙ ap (λ slots. (0, Some c.in-Some.guarded) ∷ slots) alone;
      after_is = ap (λ slots. (c.args.stepper.now.me.0, (0, Some left) ∷ slots)) alone;
      next_is = refl;
      object_is = c.run.ensures.after;
      reply_is = c.run.ensures.reply;
    }
