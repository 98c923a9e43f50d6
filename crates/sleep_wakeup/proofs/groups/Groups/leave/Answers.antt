-- The number of its own group is one above the count.
use Rattle.std.proofs.Common.{◌≡◌, ◌∙◌, ◌+◌, ap, length, arith, List, ℕ, suc, set, get_or}
use Rattle.std.proofs.Common.{subst}
use Rattle.std.proofs.Math.ListN.{length-set}
use Rattle.std.proofs.lemmas.List.{get_or_default}
use Rattle.sleep_wakeup.specs.Groups.{Membership, leaves, groups_by, members_from, AreNumbers}
use Rattle.sleep_wakeup.proofs.GroupLemmas.{left, stayed}
use Rattle.sleep_wakeup.proofs.GroupNumbers.{left_numbers, count_within}
use Rattle.sleep_wakeup.proofs.groups.Groups.leave.Goals as goal
use Rattle.sleep_wakeup.proofs.groups.Groups.leave.Goals.{
  else-pid-self-via-then-pid-self+else-size_of-gt1,
  else-pid-self-via-else-pid-self,
}

pub overflow_add-self : goal.overflow_add-self
overflow_add-self c =
    let own = c.self.inside in
    let is : c.index.result.now ≡ get_or own.numbers.items c.args.pid.0 0 =
    c.index.ensures
    ∙ get_or_default own.numbers.items c.args.pid.0 c.index.result.now 0 (omega arith) in
    let size : c.size_of.result
    ≡ length (members_from 0 (get_or own.numbers.items c.args.pid.0 0) own.numbers.items) =
    c.size_of.ensures
    ∙ ap (λ number. length (members_from 0 number c.deref.result.now)) is
    ∙ ap (λ (numbers : List ℕ).
    length (members_from 0 (get_or own.numbers.items c.args.pid.0 0) numbers))
    c.deref.ensures.value in
    let same = length-set own.numbers.items c.args.pid.0 (suc own.count) in
    let new = count_within _ _ _
    (left_numbers own.numbers.items own.count own.given c.args.pid.0 c.self.invariant (omega arith)
    (omega (arith, size))) in
    omega (arith, same, new)

pub invariant_of-self : goal.invariant_of-self
invariant_of-self c =
    let own = c.self.inside in
    let is : c.index.result.now ≡ get_or own.numbers.items c.args.pid.0 0 =
    c.index.ensures
    ∙ get_or_default own.numbers.items c.args.pid.0 c.index.result.now 0 (omega arith) in
    let size : c.size_of.result
    ≡ length (members_from 0 (get_or own.numbers.items c.args.pid.0 0) own.numbers.items) =
    c.size_of.ensures
    ∙ ap (λ number. length (members_from 0 number c.deref.result.now)) is
    ∙ ap (λ (numbers : List ℕ).
    length (members_from 0 (get_or own.numbers.items c.args.pid.0 0) numbers))
    c.deref.ensures.value in
    subst (λ new. AreNumbers (set own.numbers.items c.args.pid.0 new) new own.given) (omega arith)
    (left_numbers own.numbers.items own.count own.given c.args.pid.0 c.self.invariant (omega arith)
    (omega (arith, size)))

pub returns-then-size_of-gt1-clause-groups : goal.returns-then-size_of-gt1-clause-groups
returns-then-size_of-gt1-clause-groups c =
    let own = c.self.inside in
    let is : c.index.result.now ≡ get_or own.numbers.items c.args.pid.0 0 =
    c.index.ensures
    ∙ get_or_default own.numbers.items c.args.pid.0 c.index.result.now 0 (omega arith) in
    let size : c.size_of.result
    ≡ length (members_from 0 (get_or own.numbers.items c.args.pid.0 0) own.numbers.items) =
    c.size_of.ensures
    ∙ ap (λ number. length (members_from 0 number c.deref.result.now)) is
    ∙ ap (λ (numbers : List ℕ).
    length (members_from 0 (get_or own.numbers.items c.args.pid.0 0) numbers))
    c.deref.ensures.value in
    let up : suc own.count ≡ own.count + 1 = omega arith in
    subst (λ new. groups_by new (set own.numbers.items c.args.pid.0 new)
    ≡ leaves c.args.pid.0 (groups_by own.count own.numbers.items)) up
    (left own.numbers.items own.count own.given c.args.pid.0 c.self.invariant (omega arith)
    (omega (arith, size)))
    ∙ ap (λ (m : Membership). leaves c.args.pid.0 m.groups) c.self.view_is

pub returns-else-pid-self-clause-groups : goal.returns-else-pid-self-clause-groups
returns-else-pid-self-clause-groups c =
    subst (λ (m : Membership). m.groups ≡ leaves c.args.pid.0 m.groups) c.self.view_is
    (elim c.else-pid-self.branch [
      | else-pid-self-via-then-pid-self+else-size_of-gt1 w ↦
          let own = c.self.inside in
          let is : w.index.result.now ≡ get_or own.numbers.items c.args.pid.0 0 =
          w.index.ensures
          ∙ get_or_default own.numbers.items c.args.pid.0 w.index.result.now 0 (omega arith) in
          let size : w.size_of.result
          ≡ length (members_from 0 (get_or own.numbers.items c.args.pid.0 0) own.numbers.items) =
          w.size_of.ensures
          ∙ ap (λ number. length (members_from 0 number w.deref.result.now)) is
          ∙ ap (λ (numbers : List ℕ).
          length (members_from 0 (get_or own.numbers.items c.args.pid.0 0) numbers))
          w.deref.ensures.value in
          stayed own.numbers.items own.count own.given c.args.pid.0 c.self.invariant
          (λ there. omega (arith, size))
      | else-pid-self-via-else-pid-self w ↦
          stayed _ _ _ c.args.pid.0 c.self.invariant (λ there. absurd (omega (arith, there)))
    ])
