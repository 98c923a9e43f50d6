-- The release keeps the rule, and the seat is outside after it.
use Rattle.std.proofs.Common.{rules, arith, ◌≡◌, List, Option, Some, None, ap, refl, ◌∙◌}
use Rattle.kernel_lock.specs.declared.view.Operation.{Operation}
use Rattle.kernel_lock.specs.declared.view.Stage.TheVariants.{Outside}
use Rattle.kernel_lock.specs.declared.view.View.{View}
use Rattle.kernel_lock.specs.View.{outside_view}
use Rattle.kernel_lock.proofs.ReleaseKeeps.{release_keeps}
use Rattle.kernel_lock.proofs.locked.Locked.release.Goals as goal

pub store-requires : goal.store-requires
store-requires g c =
    let one_slot = c.args.self.now.one_slot in (
      search rules,
      search rules,
      release_keeps g.O.Object.definition _ _ _ _ _ (omega arith) c.requires.due,
    )

-- a seat that has given the lock back is outside, whether a request was served or not
released_is_outside : {Object Call Reply : Type 0} (history : List (Operation Call Reply))
    (served : Option (Operation Call Reply)) (view : View Object Call Reply) →
    (outside_view history served view).stage ≡ Outside
released_is_outside history None view = refl
released_is_outside history (Some served) view = refl

pub by-requires : goal.by-requires
by-requires g c =
    let due = c.requires.due in
    ap (λ view. view.stage) (c.store.ensures.2.view_is due.history due.stage_is)
    ∙ released_is_outside _ _ _
