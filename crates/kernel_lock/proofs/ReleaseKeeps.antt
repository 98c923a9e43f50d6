-- The step Release keeps the rule: the object comes home as the history leaves it,
-- with the request that was served, if one was.
use Rattle.std.proofs.Common.{◌≡◌, ℕ, ◌<◌, ◌≤◌, List, ◌∷◌, set, get_or, refl, sym, ap, subst}
use Rattle.std.proofs.Common.{◌∙◌, arith, Option, Some, None}
use mathlib.Core.Option.{some}
use lib.ListN.{get_elem?}
use Rattle.atomic_table.specs.Table as table
use Rattle.atomic_table.proofs.Lists.{set_here}
use Rattle.std.specs.Prelude.{IfSome}
use Rattle.histories.specs.History.{IsPast, IsLegal, state_after}
use Rattle.histories.specs.Ledger.{Ledger, AreSeats, ledger_with}
use Rattle.histories.proofs.ListLemmas.{past_refl, past_cons}
use Rattle.histories.proofs.SeatsKeep.{seats_stay, seats_enter}
use Rattle.kernel_lock.specs.declared.view.Guarded.{Guarded}
use Rattle.kernel_lock.specs.declared.view.Key.{Key}
use Rattle.kernel_lock.specs.declared.view.Operation.{Operation}
use Rattle.kernel_lock.specs.declared.view.Stage.{Stage}
use Rattle.kernel_lock.specs.declared.view.View.{View}
use Rattle.kernel_lock.specs.Definition.{Definition, server, meaning_of, opening_state}
use Rattle.kernel_lock.specs.Rule.{LockState, IsInside, FitsStage, FitsLock, IsOneHistory}
use Rattle.kernel_lock.specs.Steps.{Slot, Me, IsOwnRight, IsDue, HasReleased}
use Rattle.kernel_lock.specs.View.{account_of, history_with, outside_view}
use Rattle.kernel_lock.proofs.RuleLemmas.{lock_moves, rule_after}

module _ {Object : Type 0} where
  -- where two lists of slots are the same, the first holds the same object in both
  pub same_guarded : (guarded other : Guarded Object) (xs ys : List (ℕ × Slot Object)) →
      (0, Some guarded) ∷ xs ≡ (0, Some other) ∷ ys → guarded ≡ other
  same_guarded guarded other xs ys same =
      let pair : ◌≡◌ {A = ℕ × Slot Object} (0, Some guarded) (0, Some other) = cc in
      let value : Some guarded ≡ Some other = ap (λ (p : ℕ × Slot Object). p.1) pair in
      cc

-- the ledger with the request that was served, if one was
abbrev pub ledger_after : {Call Reply : Type 0} → Option (Operation Call Reply) →
    Ledger (Operation Call Reply) → Ledger (Operation Call Reply)
ledger_after None ledger = ledger
ledger_after (Some served) ledger = ledger_with served ledger

module _ {Object State Call Reply : Type 0}
    (definition : Definition Object State Call Reply) where
  module _ (key : Key Object) (s : table.State (Slot Object) (View Object Call Reply))
      (rule : IsOneHistory definition key s) (id : ℕ) (me : Me Object Call Reply)
      (at : get_elem? s.views id ≡ some me.0) where
    -- what holds of the history after the step, with a request and without, and of the seats
    -- where this one knows what a release tells it
    pub record Follows (served : Option (Operation Call Reply)) : Type 0 where
      -- the request is the newest
      pub history : (ledger_after served rule.ledger).history ≡
          history_with served rule.ledger.history
      -- no number is given
      pub next : (ledger_after served rule.ledger).next ≡ rule.ledger.next
      -- what was there is a past of it
      pub grown : IsPast rule.ledger.history (ledger_after served rule.ledger).history
      -- it is legal
      pub legal : IsLegal (meaning_of definition) (opening_state definition key)
          (ledger_after served rule.ledger).history
      -- and all seats fit it
      pub seats : (view : View Object Call Reply) →
          account_of view ≡ account_of (outside_view rule.ledger.history served me.0) →
          AreSeats server account_of (ledger_after served rule.ledger) (set s.views id view)

    -- the request was answered right, so all that holds
    pub follows : (served : Option (Operation Call Reply)) →
        IfSome served (IsOwnRight definition key rule.ledger.history me.0) → Follows served
    follows None right =
        record {
          history = refl;
          next = refl;
          grown = past_refl rule.ledger.history;
          legal = rule.legal;
          seats = λ view same.
              seats_stay server account_of rule.ledger s.views id me.0 view rule.seats at same;
        }
    follows (Some served) right =
        record {
          history = refl;
          next = refl;
          grown = past_cons rule.ledger.history rule.ledger.history served
              (past_refl rule.ledger.history);
          legal = (right.right, rule.legal);
          seats = λ view same.
              seats_enter server account_of rule.ledger s.views id me.0 view served rule.seats at
              right.own same;
        }

    -- a release gives no number
    pub outside_given : (history : List (Operation Call Reply))
        (served : Option (Operation Call Reply)) →
        (outside_view history served me.0).given ≡ me.0.given
    outside_given history None = refl
    outside_given history (Some served) = refl

    outside_fits : (now : LockState Call Reply) (history : List (Operation Call Reply))
        (served : Option (Operation Call Reply)) → me.0.given ≤ now.ledger.next →
        FitsLock now id (outside_view history served me.0)
    outside_fits now history None given = record { given = given; stage = tt }
    outside_fits now history (Some served) given = record { given = given; stage = tt }

  -- storing 0 keeps the rule where what lies in the slot is what the history and the request leave
  pub release_keeps : (key : Key Object) (served : Option (Operation Call Reply)) (slots id : ℕ)
      (me : Me Object Call Reply) → 0 < slots → IsDue definition key served me →
      table.Allows (IsOneHistory definition key) slots id me 0 (λ _. 0)
      (λ _ after. HasReleased served me after)
  release_keeps key served slots id me some_slot due s rule wide at _ = (
    outside_view due.history served me.0,
    table.gives,
    tt,
    subst
        (λ (homes : List _). IsOneHistory definition key record {
          words = set s.words 0 0;
          homes = homes;
          views = set s.views id (outside_view due.history served me.0);
        })
        (ap (table.put_back s.homes) (sym due.slots_are)) kept,
    record {
      view_is = λ history stage_is.
          let same : due.history ≡ history = let e = stage_is in let f = due.stage_is in cc in
          ap (λ (h : List (Operation Call Reply)). outside_view h served me.0) same;
      slots_are = refl;
    },
  )
    where
      fits : FitsLock
          record { ledger = rule.ledger; holder = rule.holder; word = get_or s.words 0 0 } id me.0
      fits = rule.each_seat id me.0 at

      inside : IsInside
          record { ledger = rule.ledger; holder = rule.holder; word = get_or s.words 0 0 }
          id due.history me.0.given
      inside =
          subst
          (λ (stage : Stage Call Reply). FitsStage
          record { ledger = rule.ledger; holder = rule.holder; word = get_or s.words 0 0 }
          id me.0.given stage)
          due.stage_is fits.stage

      after : Follows key s rule id me at served
      after =
          follows key s rule id me at served
          (subst (λ (h : List (Operation Call Reply)). IfSome served
          (IsOwnRight definition key h me.0))
          inside.history_is due.served_right)

      kept : IsOneHistory definition key record {
        words = set s.words 0 0;
        homes = set s.homes 0 (some (Some due.guarded));
        views = set s.views id (outside_view due.history served me.0);
      }
      kept =
          subst
          (λ (h : List (Operation Call Reply)). IsOneHistory definition key record {
            words = set s.words 0 0;
            homes = set s.homes 0 (some (Some due.guarded));
            views = set s.views id (outside_view h served me.0);
          })
          (sym inside.history_is)
          (rule_after definition key s (set s.homes 0 (some (Some due.guarded))) id 0
          (outside_view rule.ledger.history served me.0) (ledger_after served rule.ledger)
          rule.holder rule.one_word after.legal
          (let limit = rule.limit in let next = after.next in omega arith)
          (λ free. record {
            guarded = due.guarded;
            there = set_here s.homes 0 (some (Some due.guarded)) (omega arith);
            object = due.object
                ∙ ap (λ (h : List (Operation Call Reply)). state_after (meaning_of definition)
                (opening_state definition key) (history_with served h)) inside.history_is
                ∙ ap (state_after (meaning_of definition) (opening_state definition key))
                (sym after.history);
            next_is = due.next_is ∙ inside.given_is ∙ sym after.next;
          })
          (after.seats (outside_view rule.ledger.history served me.0) refl)
          (outside_fits key s rule id me at
          record { ledger = ledger_after served rule.ledger; holder = rule.holder; word = 0 }
          rule.ledger.history served
          (let given = fits.given in let next = after.next in omega arith))
          (λ seat view other there.
          lock_moves
          record { ledger = rule.ledger; holder = rule.holder; word = get_or s.words 0 0 }
          record { ledger = ledger_after served rule.ledger; holder = rule.holder; word = 0 }
          seat view (rule.each_seat seat view there) after.grown
          (let next = after.next in omega arith)
          (λ holder one. other (holder ∙ sym inside.holder_is))))
