-- The number of the new group is one above the count.
use Rattle.std.proofs.Common.{◌≡◌, ◌∙◌, ◌+◌, ap, arith, suc, set, subst}
use Rattle.sleep_wakeup.specs.Groups.{Membership, begins, groups_by, AreNumbers}
use Rattle.sleep_wakeup.proofs.GroupLemmas.{begun}
use Rattle.sleep_wakeup.proofs.GroupNumbers.{begun_numbers, count_within}
use Rattle.std.proofs.Math.ListN.{length-set}
use Rattle.sleep_wakeup.proofs.groups.Groups.begin.Goals as goal

pub overflow_add-self : goal.overflow_add-self
overflow_add-self c =
    let own = c.self.inside in
    let given = ap (λ (m : Membership). m.given) c.self.view_is in
    let room = ap (λ (m : Membership). m.room) c.self.view_is in
    let same = length-set own.numbers.items own.given (suc own.count) in
    let new = count_within _ _ _
    (begun_numbers own.numbers.items own.count own.given c.self.invariant (omega arith)) in
    omega (arith, same, new)

pub invariant_of-self : goal.invariant_of-self
invariant_of-self c =
    let own = c.self.inside in
    let given = ap (λ (m : Membership). m.given) c.self.view_is in
    let room = ap (λ (m : Membership). m.room) c.self.view_is in
    subst (λ new. AreNumbers (set own.numbers.items own.given new) new (own.given + 1))
    (omega arith)
    (begun_numbers own.numbers.items own.count own.given c.self.invariant (omega arith))

pub returns-clause-groups : goal.returns-clause-groups
returns-clause-groups c =
    let own = c.self.inside in
    let given = ap (λ (m : Membership). m.given) c.self.view_is in
    let room = ap (λ (m : Membership). m.room) c.self.view_is in
    let up : suc own.count ≡ own.count + 1 = omega arith in
    subst (λ new. groups_by new (set own.numbers.items own.given new)
    ≡ begins own.given (groups_by own.count own.numbers.items)) up
    (begun own.numbers.items own.count own.given c.self.invariant (omega arith))
    ∙ ap (λ (m : Membership). begins m.given m.groups) c.self.view_is
