-- The object answered in its slot, so the release is due, and both steps after the taken lock are
-- one served request.
use Rattle.std.proofs.Common.{Some, sym, subst}
use Rattle.kernel_lock.specs.Steps.{IsDue, HasReleased}
use Rattle.kernel_lock.proofs.ServeLemmas.{takes_slot, serving_is_due, has_served}
use Rattle.kernel_lock.proofs.locked.Locked.answer_last.Goals as goal

pub answer-reply-requires-clause-full : goal.answer-reply-requires-clause-full
answer-reply-requires-clause-full g c =
    let taken = c.requires.taken.1 in
    takes_slot g.O.Object.definition _ _ taken.no_slot taken.taken

pub give_served-requires-clause-due : goal.give_served-requires-clause-due
give_served-requires-clause-due g c =
    let taken = c.requires.taken.1 in
    subst
    (λ request. IsDue g.O.Object.definition c.args.self.now.table.shared.key
    (Some record { by = c.args.by; request = request; reply = c.answer-reply.result })
    c.answer-reply.new.stepper.me)
    (sym c.of-asked.ensures)
    (serving_is_due g.O.Object.definition _ _ _ _ _ taken.key_is taken.no_slot taken.taken
    c.answer-reply.ensures.answered taken.own c.requires.named)

pub returns-clause-served : goal.returns-clause-served
returns-clause-served g c = λ before taken.
    let released = subst
    (λ request. HasReleased
    (Some record { by = c.args.by; request = request; reply = c.answer-reply.result })
    c.answer-reply.new.stepper.me c.give_served.new.stepper.me)
    c.of-asked.ensures c.give_served.ensures.released in
    has_served g.O.Object.definition _ _ _ _ _ taken.key_is taken.no_slot taken.taken
    c.answer-reply.ensures.answered taken.own c.requires.named _ released
