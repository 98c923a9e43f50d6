-- The lock's history keeps the order in time: each kind of step leaves what was seen.
use Rattle.std.proofs.Common.{◌≡◌, ℕ, get_or, refl, sym, ap, subst, Option}
use Rattle.std.proofs.Common.{Some, None}
use mathlib.Core.Logic.{dite}
use mathlib.Core.Option.{some}
use native.Mathlib.Decide.{ℕ_discrete}
use lib.ListN.{get_elem?}
use Rattle.histories.specs.History.{IsPast, IsHistory}
use Rattle.histories.specs.Time.{StaysSeen}
use Rattle.histories.proofs.HistoryLemmas.{by_below_weaker}
use Rattle.histories.proofs.ListLemmas.{past_refl, past_cons}
use Rattle.histories.proofs.TimeLemmas.{step_stays, is_linearizable}
use Rattle.kernel_lock.specs.declared.view.Key.{Key}
use Rattle.kernel_lock.specs.declared.view.Operation.{Operation}
use Rattle.kernel_lock.specs.declared.view.Stage.{Stage}
use Rattle.kernel_lock.specs.declared.view.View.{View}
use Rattle.kernel_lock.specs.Definition.{Definition, server, meaning_of, opening_state}
use Rattle.kernel_lock.specs.Moments.{Moment, Learns, acquires, polls, releases, enters, settles}
use Rattle.kernel_lock.specs.Moments.{Steps, LocksAreLinearizable}
use Rattle.kernel_lock.specs.Rule.{IsInside, FitsStage, IsOneHistory}
use Rattle.kernel_lock.specs.Steps.{Me, IsDue, HasReleased}
use Rattle.kernel_lock.specs.View.{account_of, outside_view}

module _ {Object State Call Reply : Type 0}
    (definition : Definition Object State Call Reply) (key : Key Object) where
  module _ (before : Moment definition key) (rule : IsOneHistory definition key before) where
    -- a view that differs in nothing of its account has seen what it had seen
    seen_in : (old new view : View Object Call Reply) → view ≡ new →
        IsPast old.account.seen new.account.seen → IsPast old.account.seen view.account.seen
    seen_in old new view is past =
        subst (λ (v : View Object Call Reply). IsPast old.account.seen v.account.seen) (sym is) past

    -- a seat that gives the lock back enters its request above the whole history
    released_past : (served : Option (Operation Call Reply)) (seat : ℕ)
        (old new : Me Object Call Reply) → get_elem? before.views seat ≡ some old.0 →
        IsDue definition key served old → HasReleased served old new →
        IsPast old.0.account.seen new.0.account.seen
    released_past served seat old new there due released =
        seen_in old.0 _ new.0 (released.view_is due.history due.stage_is) (by_request served)
      where
        inside : IsInside
            record { ledger = rule.ledger; holder = rule.holder; word = get_or before.words 0 0 }
            seat due.history old.0.given
        inside =
            subst
            (λ (stage : Stage Call Reply). FitsStage
            record { ledger = rule.ledger; holder = rule.holder; word = get_or before.words 0 0 }
            seat old.0.given stage)
            due.stage_is (rule.each_seat seat old.0 there).stage

        by_request : (request : Option (Operation Call Reply)) →
            IsPast old.0.account.seen (outside_view due.history request old.0).account.seen
        by_request None = past_refl old.0.account.seen
        by_request (Some its) =
            past_cons old.0.account.seen due.history its
            (subst (IsPast old.0.account.seen) (sym inside.history_is)
            (rule.seats.each_seat seat old.0 there).seen)

    -- each step of a seat leaves it what it had seen
    learned : (seat found : ℕ) (old new : Me Object Call Reply) →
        get_elem? before.views seat ≡ some old.0 → Learns definition key old found new →
        IsPast old.0.account.seen new.0.account.seen
    learned seat found old new there (acquires has) =
        dite (ℕ_discrete found 0)
        (λ free. seen_in old.0 _ new.0 (has.free free).view_is (past_refl old.0.account.seen))
        (λ taken. seen_in old.0 old.0 new.0
        (ap (λ (me : Me Object Call Reply). me.0) (has.taken taken))
        (past_refl old.0.account.seen))
    learned seat found old new there (polls has) =
        seen_in old.0 old.0 new.0 (ap (λ (me : Me Object Call Reply). me.0) has.same)
        (past_refl old.0.account.seen)
    learned seat found old new there (releases served due has) =
        released_past served seat old new there due has
    learned seat found old new there (enters served due has) =
        seen_in old.0 _ new.0 has.taken.view_is
        (released_past served seat old has.between there due has.released)
    learned seat found old new there (settles has) =
        seen_in old.0 _ new.0 has.view_is (past_refl old.0.account.seen)

    -- and so does each step of the lock
    stays : (after : Moment definition key) → Steps definition key before after →
        StaysSeen account_of before.views after.views
    stays after =
        step_stays account_of server rule.ledger before.views after.views rule.seats learned
        (λ view. refl) (λ first second. refl)

-- so each lock is linearizable
pub locks_are_linearizable : {Object State Call Reply : Type 0}
    (definition : Definition Object State Call Reply) → LocksAreLinearizable definition
locks_are_linearizable definition key =
    is_linearizable server account_of (λ moment. moment.views) (λ moment rule. rule.ledger)
    (λ moment rule. rule.seats) (stays definition key)
    (IsHistory (meaning_of definition) (opening_state definition key) key.limit)
    (λ moment rule. record {
      legal = rule.legal;
      within = by_below_weaker server rule.ledger.next key.limit rule.ledger.history rule.limit
          rule.seats.by_given;
    })
