-- the earliest of all moments is the first that is due where it is come; else none is
use Rattle.std.proofs.Common.{◌≡◌, ◌∙◌, ◌<◌, ap, sym, length, Some, None, arith}
use Rattle.std.proofs.lemmas.Bool.Decides.{nat_tests}
use Rattle.std.proofs.lemmas.List.{get_or_default}
use Rattle.timer_list.specs.declared.due.Due.{Due}
use Rattle.timer_list.specs.declared.timer_object.Timer.TheVariants.{Unset, Expired}
use Rattle.timer_list.specs.declared.timer_object.TimerCall.TheVariants.{Expire}
use Rattle.timer_list.specs.declared.timer_object.TimerReply.TheVariants.{NoneDue, Ended}
use Rattle.timer_list.specs.Timers.{after, answer_to, dues_from, if_come}
use Rattle.timer_list.proofs.TimerLemmas.{Expires, length-dues_from, dues-set, due_is_set}
use Rattle.timer_list.proofs.TimerLemmas.{expires_none, expires_one}
use Rattle.timer_list.proofs.timer_object.TimerObject.expire.Goals as goal

-- no timer is set
nothing : (c : goal.In_default) → Expires c.args.self.now c.args.now NoneDue c.args.self.now
nothing c =
    expires_none _ c.args.now _ _ (c.self.invariant ∙ ap (dues_from 0) c.self.view_is)
    c.earliest.ensures (ap (if_come c.args.now) c.in_default.is)

pub returns-in_default-clause-answer : goal.returns-in_default-clause-answer
returns-in_default-clause-answer c = (nothing c).answer

pub returns-in_default-clause-after : goal.returns-in_default-clause-after
returns-in_default-clause-after c = (nothing c).after

not_come : (now : _) (due : Due) → now < due.deadline → if_come now (Some due) ≡ None
not_come now due later = grind (arith, nat_tests)

-- the first deadline is still to come
early : (c : goal.Then-due-now) → Expires c.args.self.now c.args.now NoneDue c.args.self.now
early c =
    expires_none _ c.args.now _ _ (c.self.invariant ∙ ap (dues_from 0) c.self.view_is)
    c.earliest.ensures
    (ap (if_come c.args.now) c.in-Some.is ∙ not_come c.args.now c.in-Some.due c.if-due-now.true)

pub returns-then-due-now-clause-answer : goal.returns-then-due-now-clause-answer
returns-then-due-now-clause-answer c = (early c).answer

pub returns-then-due-now-clause-after : goal.returns-then-due-now-clause-after
returns-then-due-now-clause-after c = (early c).after

-- the first is set
pub index-requires : goal.index-requires
index-requires c =
    let set = due_is_set _ _ _ c.self.invariant (sym c.in-Some.is ∙ c.earliest.ensures) in
    omega (arith, set.within)

pub unreachable-requires : goal.unreachable-requires
unreachable-requires c =
    let set = due_is_set _ _ _ c.self.invariant (sym c.in-Some.is ∙ c.earliest.ensures) in
    c.in_default-index.not-Set set.pid c.in-Some.due.deadline
    (c.index.ensures ∙ (get_or_default c.self.inside.timers.items c.in-Some.due.seat
    c.index.result.now Unset set.within ∙ set.timer))

pub index_mut-requires : goal.index_mut-requires
index_mut-requires c =
    let set = due_is_set _ _ _ c.self.invariant (sym c.in-Some.is ∙ c.earliest.ensures) in
    omega (arith, set.within)

pub enter-requires : goal.enter-requires
enter-requires c =
    let set = due_is_set _ _ _ c.self.invariant (sym c.in-Some.is ∙ c.earliest.ensures) in
    omega (
      arith,
      set.within,
      ap length c.self.invariant,
      length-dues_from 0 c.self.inside.timers.items,
    )

-- the timer that expired plays no longer
pub invariant_of-self : goal.invariant_of-self
invariant_of-self c =
    c.enter.ensures
    ∙ dues-set c.self.inside.timers.items c.in-Some.due.seat Expired c.self.inside.dues
    c.self.invariant

one : (c : goal.After-enter) → Expires c.self.inside.timers.items c.args.now (Ended c.in-Set.pid)
    (Rattle.std.proofs.Common.set c.self.inside.timers.items c.in-Some.due.seat Expired)
one c =
    let is = sym c.in-Some.is ∙ c.earliest.ensures in
    let set = due_is_set _ _ _ c.self.invariant is in
    expires_one _ c.args.now _ c.in-Some.due c.in-Set.pid c.in-Set.deadline c.self.invariant is
    c.if-due-now.false
    (get_or_default c.self.inside.timers.items c.in-Some.due.seat Unset c.index.result.now
    set.within ∙ (sym c.index.ensures ∙ c.in-Set.is))

pub returns-clause-answer : goal.returns-clause-answer
returns-clause-answer c = (one c).answer ∙ ap (λ t. answer_to t (Expire c.args.now)) c.self.view_is

pub returns-clause-after : goal.returns-clause-after
returns-clause-after c = (one c).after ∙ ap (λ t. after t (Expire c.args.now)) c.self.view_is
