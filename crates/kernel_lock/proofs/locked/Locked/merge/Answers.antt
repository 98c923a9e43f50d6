-- The join and the load are the steps Merge and Settle; the second tells how the two histories
-- compare.
use Rattle.std.proofs.Common.{rules, ap, subst, ◌∙◌}
use Rattle.kernel_lock.specs.Steps.{HasSettled}
use Rattle.kernel_lock.proofs.MergeKeeps.{merge_keeps}
use Rattle.kernel_lock.proofs.SettleKeeps.{settle_keeps, merges}
use Rattle.kernel_lock.proofs.locked.Locked.merge.Goals as goal

pub join_seat-requires : goal.join_seat-requires
join_seat-requires g c = (
  search rules,
  search rules,
  search rules,
  search rules,
  merge_keeps g.O.Object.definition _ _ _ _ _,
)

pub load-requires : goal.load-requires
load-requires g c = (
  search rules,
  search rules,
  settle_keeps g.O.Object.definition _ _ _ _
      (ap (λ me. me.0.key) c.join_seat.ensures.2 ∙ c.requires.stepper.key),
)

pub returns-clause-merged : goal.returns-clause-merged
returns-clause-merged g c =
    let settled = subst (λ me. HasSettled g.O.Object.definition me c.load.new.seat.me)
    c.join_seat.ensures.2 c.load.ensures.2 in
    merges g.O.Object.definition _ _ _ _ _ c.requires.stepper.key settled
