-- Whether the seat is divided or not, the object stays, and the right number lies beside it.
use Rattle.std.proofs.Common.{◌+◌, refl, ap, ◌∙◌}
use Rattle.kernel_lock.specs.declared.view.Guarded.{Guarded}
use Rattle.kernel_lock.specs.View.{parent_view}
use Rattle.kernel_lock.proofs.SplitLemmas.{refuses, divides}
use Rattle.kernel_lock.proofs.locked.Locked.next_seat.Goals as goal

pub returns-then-next-self-clause-object : goal.returns-then-next-self-clause-object
returns-then-next-self-clause-object g c =
    let inside = c.requires.inside in
    refuses c.args.stepper.now.me c.args.stepper.now.me _ inside.guarded inside.guarded inside
    inside.slots_are refl
    (c.read_next-next.ensures.same
    ∙ ap (λ slots. (c.args.stepper.now.me.0, slots)) inside.slots_are)
    refl refl

pub write_next-requires-clause-full : goal.write_next-requires-clause-full
write_next-requires-clause-full g c =
    record {
      guarded = c.requires.inside.guarded;
      slots_are = ap (λ me. me.1) c.divide-child.ensures.divided.parent_is
          ∙ ap (λ me. me.1) c.read_next-next.ensures.same
          ∙ c.requires.inside.slots_are;
    }

pub returns-clause-object : goal.returns-clause-object
returns-clause-object g c =
    let inside = c.requires.inside in
    let parent = c.divide-child.ensures.divided.parent_is in
    let same = c.read_next-next.ensures.same in
    let next = c.read_next-next.ensures.next _ inside.slots_are in
    let left : Guarded g.row.O.Denot =
    record { object = inside.guarded.object; next = c.read_next-next.result + 1 } in
    divides _ c.divide-child.new.stepper.me _ inside.guarded left inside inside.slots_are
    (ap (λ me. me.0) parent ∙ ap (λ me. parent_view me.0) same)
    (c.write_next.ensures.counted _
    (ap (λ me. me.1) parent ∙ ap (λ me. me.1) same ∙ inside.slots_are))
    refl (ap (λ n. n + 1) next)
