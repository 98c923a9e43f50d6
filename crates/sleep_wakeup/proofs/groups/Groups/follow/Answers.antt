-- The child has its parent's number.
use Rattle.std.proofs.Common.{◌≡◌, ◌∙◌, ◌+◌, sym, ap, arith, set, get_or, subst}
use Rattle.std.proofs.lemmas.List.{get_or_default}
use Rattle.sleep_wakeup.specs.Groups.{Membership, begins, follows, groups_by, AreNumbers}
use Rattle.sleep_wakeup.proofs.GroupLemmas.{followed, orphaned}
use Rattle.sleep_wakeup.proofs.GroupNumbers.{followed_numbers}
use Rattle.sleep_wakeup.proofs.groups.Groups.follow.Goals as goal

pub invariant_of-self : goal.invariant_of-self
invariant_of-self c =
    let own = c.self.inside in
    let given = ap (λ (m : Membership). m.given) c.self.view_is in
    let room = ap (λ (m : Membership). m.room) c.self.view_is in
    let is : c.index.result.now ≡ get_or own.numbers.items c.args.parent.0 0 =
    c.index.ensures
    ∙ get_or_default own.numbers.items c.args.parent.0 c.index.result.now 0 (omega arith) in
    subst (λ new. AreNumbers (set own.numbers.items own.given new) own.count (own.given + 1))
    (sym is)
    (followed_numbers own.numbers.items own.count own.given c.args.parent.0 c.self.invariant
    (omega arith) (omega arith))

pub returns-then-parent-self-clause-groups : goal.returns-then-parent-self-clause-groups
returns-then-parent-self-clause-groups c =
    c.begin.ensures.groups
    ∙ subst (λ (m : Membership). begins m.given m.groups
    ≡ follows c.args.parent.0 m.given m.groups) c.self.view_is
    (orphaned _ _ _ c.args.parent.0 c.self.invariant (omega arith))

pub returns-else-parent-self-clause-groups : goal.returns-else-parent-self-clause-groups
returns-else-parent-self-clause-groups c =
    let own = c.self.inside in
    let given = ap (λ (m : Membership). m.given) c.self.view_is in
    let room = ap (λ (m : Membership). m.room) c.self.view_is in
    let is : c.index.result.now ≡ get_or own.numbers.items c.args.parent.0 0 =
    c.index.ensures
    ∙ get_or_default own.numbers.items c.args.parent.0 c.index.result.now 0 (omega arith) in
    ap (λ new. groups_by own.count (set own.numbers.items own.given new)) is
    ∙ followed own.numbers.items own.count own.given c.args.parent.0 c.self.invariant
    (omega arith) (omega arith)
    ∙ ap (λ (m : Membership). follows c.args.parent.0 m.given m.groups) c.self.view_is
