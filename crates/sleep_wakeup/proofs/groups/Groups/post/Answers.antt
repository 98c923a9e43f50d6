-- The group of the pid is that of its number.
use Rattle.std.proofs.Common.{◌≡◌, ◌∙◌, sym, ap, length, arith, List, ℕ, get_or}
use Rattle.std.proofs.lemmas.List.{get_or_default}
use Rattle.sleep_wakeup.specs.Groups.{Membership, group_of, members_from, notes_each}
use Rattle.sleep_wakeup.proofs.GroupMembers.{found}
use Rattle.sleep_wakeup.proofs.groups.Groups.post.Goals as goal

members : (c : goal.After-post_to) → members_from 0 c.index.result.now c.deref.result.now
    ≡ group_of c.args.pid.0 c.args.self.now.groups
members c =
    let own = c.self.inside in
    let given = ap (λ (m : Membership). m.given) c.self.view_is in
    let room = c.self.invariant.room in
    let is : c.index.result.now ≡ get_or own.numbers.items c.args.pid.0 0 =
    c.index.ensures
    ∙ get_or_default own.numbers.items c.args.pid.0 c.index.result.now 0 (omega arith) in
    let number = c.self.invariant.numbered c.args.pid.0 (omega arith) in
    ap (λ number. members_from 0 number c.deref.result.now) is
    ∙ ap (λ (numbers : List ℕ).
    members_from 0 (get_or own.numbers.items c.args.pid.0 0) numbers) c.deref.ensures.value
    ∙ sym (found c.args.pid.0 own.count own.numbers.items number.0 number.1)
    ∙ ap (λ (m : Membership). group_of c.args.pid.0 m.groups) c.self.view_is

pub returns-clause-noted : goal.returns-clause-noted
returns-clause-noted c =
    c.post_to.ensures.noted
    ∙ ap (λ (group : List ℕ). notes_each c.args.poster.now.process group c.args.set) (members c)

pub returns-clause-count : goal.returns-clause-count
returns-clause-count c =
    c.post_to.ensures.count ∙ ap (λ (group : List ℕ). length group) (members c)
