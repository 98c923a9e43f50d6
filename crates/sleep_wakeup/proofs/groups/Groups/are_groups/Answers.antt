-- By the numbers.
use Rattle.std.proofs.Common.{subst}
use Rattle.sleep_wakeup.specs.Groups.{Membership, AreGroups}
use Rattle.sleep_wakeup.proofs.GroupNumbers.{are_disjoint}
use Rattle.sleep_wakeup.proofs.groups.Groups.are_groups.Goals as goal

pub returns : goal.returns
returns c =
    subst (λ (m : Membership). AreGroups m.groups m.given) c.self.view_is
    (are_disjoint _ _ _ c.self.invariant)
