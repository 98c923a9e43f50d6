-- The object answered in its slot, so the release is due where nothing follows; else the request
-- enters the history, and the one that follows is answered as if the lock had been taken again.
use Rattle.std.proofs.Common.{◌≡◌, true, Some, sym, ap, subst, ◌∙◌, IfSome, unwrap_or}
use Rattle.histories.specs.Account.{has_number}
use Rattle.kernel_lock.specs.Steps.{IsDue, HasReleased, HasEntered}
use Rattle.kernel_lock.proofs.ServeLemmas.{takes_slot, serving_is_due, has_served, takes_again}
use Rattle.kernel_lock.proofs.ServeLemmas.{follower_is_own, serves_both, serves_then}
use Rattle.kernel_lock.proofs.locked.Locked.serve_then.Goals as goal

pub answer-first-requires-clause-full : goal.answer-first-requires-clause-full
answer-first-requires-clause-full g c =
    takes_slot g.O.Object.definition _ _ c.requires.outside.no_slot c.take.ensures.taken

pub give_served-requires-clause-due : goal.give_served-requires-clause-due
give_served-requires-clause-due g c =
    subst
    (λ request. IsDue g.O.Object.definition c.args.self.now.table.shared.key
    (Some record { by = c.args.by; request = request; reply = c.answer-first.result })
    c.answer-first.new.stepper.me)
    (sym c.of-asked.ensures)
    (serving_is_due g.O.Object.definition _ _ _ _ _ c.requires.stepper.key
    c.requires.outside.no_slot c.take.ensures.taken c.answer-first.ensures.answered
    c.requires.by c.requires.named)

pub enter_served-requires-clause-due : goal.enter_served-requires-clause-due
enter_served-requires-clause-due g c =
    subst
    (λ request. IsDue g.O.Object.definition c.args.self.now.table.shared.key
    (Some record { by = c.args.by; request = request; reply = c.answer-first.result })
    c.answer-first.new.stepper.me)
    (sym c.of-asked.ensures)
    (serving_is_due g.O.Object.definition _ _ _ _ _ c.requires.stepper.key
    c.requires.outside.no_slot c.take.ensures.taken c.answer-first.ensures.answered
    c.requires.by c.requires.named)

pub returns-in-None-clause-history : goal.returns-in-None-clause-history
returns-in-None-clause-history g c =
    let released = subst
    (λ request. HasReleased
    (Some record { by = c.args.by; request = request; reply = c.answer-first.result })
    c.answer-first.new.stepper.me c.give_served.new.stepper.me)
    c.of-asked.ensures c.give_served.ensures.released in
    (has_served g.O.Object.definition _ _ _ _ _ c.requires.stepper.key
    c.requires.outside.no_slot c.take.ensures.taken c.answer-first.ensures.answered
    c.requires.by c.requires.named _ released).knows

pub answer_last-second-requires-clause-taken : goal.answer_last-second-requires-clause-taken
answer_last-second-requires-clause-taken g c =
    let entered = subst
    (λ request. HasEntered g.O.Object.definition
    (Some record { by = c.args.by; request = request; reply = c.answer-first.result })
    c.answer-first.new.stepper.me c.enter_served.new.stepper.me)
    c.of-asked.ensures c.enter_served.ensures.entered in
    let done = has_served g.O.Object.definition _ _ _ _ _ c.requires.stepper.key
    c.requires.outside.no_slot c.take.ensures.taken c.answer-first.ensures.answered
    c.requires.by c.requires.named _ entered.released in
    let next_is = sym c.next.ensures ∙ c.in-Some.is in
    let by_is = c.unwrap_or-by_next.ensures
    ∙ ap (λ named. unwrap_or named c.args.own) c.caller.ensures in (
      entered.between,
      takes_again g.O.Object.definition _ _ _ _ entered _ _ done c.unwrap_or-by_next.result
          (subst (λ by. has_number c.args.stepper.now.me.0.account.shares by ≡ true) (sym by_is)
          (follower_is_own g.O.Object.definition c.args.stepper.now.me.0.account.shares c.args.own
          (g.O.Object.definition.named c.in-Some.next)
          (subst
          (λ follower. IfSome follower (λ next. IfSome (g.O.Object.definition.named next)
          (λ number. has_number c.args.stepper.now.me.0.account.shares number ≡ true)))
          next_is (c.requires.next c.answer-first.result)) c.requires.own)),
    )

pub returns : goal.returns
returns g c =
    let entered = subst
    (λ request. HasEntered g.O.Object.definition
    (Some record { by = c.args.by; request = request; reply = c.answer-first.result })
    c.answer-first.new.stepper.me c.enter_served.new.stepper.me)
    c.of-asked.ensures c.enter_served.ensures.entered in
    let done = has_served g.O.Object.definition _ _ _ _ _ c.requires.stepper.key
    c.requires.outside.no_slot c.take.ensures.taken c.answer-first.ensures.answered
    c.requires.by c.requires.named _ entered.released in
    let next_is = sym c.next.ensures ∙ c.in-Some.is in
    let by_is = c.unwrap_or-by_next.ensures
    ∙ ap (λ named. unwrap_or named c.args.own) c.caller.ensures in
    let again = takes_again g.O.Object.definition _ _ _ _ entered _ _ done
    c.unwrap_or-by_next.result
    (subst (λ by. has_number c.args.stepper.now.me.0.account.shares by ≡ true) (sym by_is)
    (follower_is_own g.O.Object.definition c.args.stepper.now.me.0.account.shares c.args.own
    (g.O.Object.definition.named c.in-Some.next)
    (subst
    (λ follower. IfSome follower (λ next. IfSome (g.O.Object.definition.named next)
    (λ number. has_number c.args.stepper.now.me.0.account.shares number ≡ true)))
    next_is (c.requires.next c.answer-first.result)) c.requires.own)) in
    let last = c.answer_last-second.ensures.served entered.between again in
    record {
      stepper = record {
        table = c.answer_last-second.ensures.table
            ∙ c.enter_served.ensures.stepper.table
            ∙ c.answer-first.ensures.stepper.table
            ∙ c.take.ensures.stepper.table
            ∙ c.requires.stepper.table;
        key = last.key_is;
      };
      outside = record { stage = last.stage_is; no_slot = last.no_slot };
      served = serves_then g.O.Object.definition _ _ _ _ _ _ _ _ _ next_is by_is
          (serves_both g.O.Object.definition _ _ _ _ entered _ _ done _ _ last);
      history = last.knows;
    }
