-- The ring keeps the order in time: each kind of step leaves what was seen.
use Rattle.std.proofs.Common.{◌≡◌, ℕ, ◌+◌, ◌-◌, List, ◌∷◌, refl, sym, ap, subst, ◌∙◌}
use Rattle.std.proofs.Common.{arith}
use mathlib.Core.Logic.{dite}
use native.Mathlib.Decide.{ℕ_discrete}
use Rattle.histories.specs.declared.account.Account.{Account}
use Rattle.histories.specs.History.{IsPast, IsHistory}
use Rattle.histories.specs.Time.{StaysSeen}
use Rattle.histories.proofs.HistoryLemmas.{by_below_weaker}
use Rattle.histories.proofs.ListLemmas.{past_refl}
use Rattle.histories.proofs.TimeLemmas.{step_stays, is_linearizable}
use Rattle.sync_base.specs.declared.limits.TheConstants.{LAST_WRITE}
use Rattle.block_queue.specs.declared.entry.Entry.{Entry}
use Rattle.block_queue.specs.declared.places.TheConstants.{MARK}
use Rattle.block_queue.specs.declared.view.Key.{Key}
use Rattle.block_queue.specs.declared.view.View.{View}
use Rattle.block_queue.specs.History.{seat_of, opening_state}
use Rattle.block_queue.specs.Meaning.{Enters, queue_meaning}
use Rattle.block_queue.specs.Moments.{Moment, Learns, put_tail, put_sequence, accept, store}
use Rattle.block_queue.specs.Moments.{take_ready, take_tail, take_sequence, free_place, hang}
use Rattle.block_queue.specs.Moments.{survey, Steps, RingsAreLinearizable}
use Rattle.block_queue.specs.Places.{free_word, stored_word}
use Rattle.block_queue.specs.Rule.{IsOneQueue, account_of}
use Rattle.block_queue.specs.Steps.{Seated}

-- an entry comes above what its seat had seen
entered : (key : Key) (made : Entry) (old new : Account Entry) → Enters key made old new →
    IsPast old.seen new.seen
entered key made old new enters =
    record {
      since = made ∷ enters.adds.looked.since;
      new_is = ap (λ (a : Account Entry). a.seen) enters.adds.new_is
          ∙ ap (λ (past : List Entry). made ∷ past) enters.adds.looked.history_is;
    }

module _ (key : Key) where
  -- a view that differs in nothing of its account has seen what it had seen
  seen_in : (old view : View) → view.account ≡ old.account →
      IsPast old.account.seen view.account.seen
  seen_in old view is =
      subst (λ (a : Account Entry). IsPast old.account.seen a.seen) (sym is)
      (past_refl old.account.seen)

  -- each step of a seat leaves it what it had seen
  learned : (found : ℕ) (old new : Seated) → Learns key old found new →
      IsPast old.0.account.seen new.0.account.seen
  learned found old new (put_tail asked has) =
      dite (ℕ_discrete (MARK - found) 0)
      (λ hung. entered asked.key _ _ _ (has.hungup (omega arith)).enters)
      (λ counted. dite (ℕ_discrete (asked.key.first + found) LAST_WRITE)
      (λ worn. entered asked.key _ _ _ (has.worn worn).enters)
      (λ given. seen_in old.0 new.0
      (ap (λ (v : View). v.account) (has.counted (omega arith) given))))
  learned found old new (put_sequence asked has) =
      dite (ℕ_discrete (free_word asked.key.limit asked.count - found) 0)
      (λ reached. dite (ℕ_discrete found (free_word asked.key.limit asked.count))
      (λ placed. seen_in old.0 new.0 (ap (λ (v : View). v.account) (has.placed placed)))
      (λ other. seen_in old.0 new.0
      (ap (λ (v : View). v.account) (has.passed (omega arith)))))
      (λ below. entered asked.key _ _ _ (has.full (omega arith)).enters)
  learned found old new (accept asked has) =
      dite (ℕ_discrete found asked.count)
      (λ same. entered asked.key _ _ _ (has.entered same).enters)
      (λ other. seen_in old.0 new.0 (ap (λ (me : Seated). me.0.account) (has.passed other)))
  learned found old new (store asked has) = entered asked.key _ _ _ has.entered.enters
  learned found old new (take_ready has) =
      dite (ℕ_discrete found (stored_word key.limit old.0.taken))
      (λ same. seen_in old.0 new.0 (ap (λ (me : Seated). me.0.account) (has.moving same).1))
      (λ other. seen_in old.0 new.0 (ap (λ (me : Seated). me.0.account) (has.passed other)))
  learned found old new (take_tail has) =
      dite (ℕ_discrete found (old.0.taken + MARK))
      (λ same. entered key _ _ _ (has.ended same).enters)
      (λ other. seen_in old.0 new.0 (ap (λ (v : View). v.account) (has.looking other)))
  learned found old new (take_sequence has) =
      dite (ℕ_discrete found (stored_word key.limit old.0.taken))
      (λ same. seen_in old.0 new.0 (ap (λ (me : Seated). me.0.account) (has.moving same).1))
      (λ other. entered key _ _ _ (has.not_yet other).enters)
  learned found old new (free_place write has) = entered key _ _ _ has.enters
  learned found old new (hang has) = entered key _ _ _ has.entered.enters
  learned found old new (survey has) =
      seen_in old.0 new.0 (ap (λ (me : Seated). me.0.account) has.same)

  -- and so does each step of the ring
  stays : (before : Moment) → IsOneQueue key before → (after : Moment) → Steps key before after →
      StaysSeen account_of before.views after.views
  stays before rule after =
      step_stays account_of seat_of rule.ledger before.views after.views rule.seats
      (λ seat found old new there told. learned found old new told) (λ view. refl)
      (λ first second. refl)

-- so each ring is linearizable, as a queue whose put is two entries
pub rings_are_linearizable : RingsAreLinearizable
rings_are_linearizable key =
    is_linearizable seat_of account_of (λ moment. moment.views) (λ moment rule. rule.ledger)
    (λ moment rule. rule.seats) (stays key)
    (IsHistory (queue_meaning key.first) (opening_state key.limit) (key.writers + 1))
    (λ moment rule. record {
      legal = rule.legal;
      within = by_below_weaker seat_of rule.ledger.next (key.writers + 1) rule.ledger.history
          rule.writers rule.seats.by_given;
    })
