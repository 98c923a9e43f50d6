-- The step Enter keeps the rule: who is inside writes its request into the history, and is inside
-- still. What it knows is what it would know had it given the lock back and taken it again at once.
use Rattle.std.proofs.Common.{◌≡◌, ℕ, ◌≤◌, List, ◌∷◌, set, get_or, refl, sym, ap, subst, ◌∙◌, arith}
use Rattle.std.proofs.Common.{Option, Some, None}
use Rattle.std.specs.Prelude.{IfSome}
use mathlib.Core.Option.{some}
use lib.ListN.{get_elem?}
use Rattle.atomic_table.specs.Table as table
use Rattle.histories.specs.History.{state_after}
use Rattle.histories.specs.Changes.{IsNext}
use Rattle.histories.specs.Ledger.{Ledger, AreSeats}
use Rattle.histories.proofs.AloneLemmas.{looks_at, is_next}
use Rattle.histories.proofs.HistoryLemmas.{by_below_weaker}
use Rattle.histories.proofs.ListLemmas.{set_here}
use Rattle.histories.proofs.SeatsKeep as seats
use Rattle.kernel_lock.specs.declared.view.Key.{Key}
use Rattle.kernel_lock.specs.declared.view.Operation.{Operation}
use Rattle.kernel_lock.specs.declared.view.Stage.{Stage}
use Rattle.kernel_lock.specs.declared.view.View.{View}
use Rattle.kernel_lock.specs.Definition.{Definition, server, meaning_of, opening_state}
use Rattle.kernel_lock.specs.Rule.{LockState, IsInside, FitsStage, IsOneHistory}
use Rattle.kernel_lock.specs.Steps.{Slot, Me, FindsObject, TakesLock, IsOwnRight, IsDue}
use Rattle.kernel_lock.specs.Steps.{HasReleased, HasEntered}
use Rattle.kernel_lock.specs.View.{account_of, history_with, inside_view, outside_view}
use Rattle.kernel_lock.proofs.ReleaseKeeps.{ledger_after, Follows, follows, outside_given}
use Rattle.kernel_lock.proofs.RuleLemmas.{lock_moves, rule_after}

module _ {Object Call Reply : Type 0} where
  -- a seat that gives the lock back keeps its key
  pub outside_key : (history : List (Operation Call Reply)) (served : Option (Operation Call Reply))
      (view : View Object Call Reply) → (outside_view history served view).key ≡ view.key
  outside_key history None view = refl
  outside_key history (Some served) view = refl

  -- with a request, it has seen the whole history
  pub outside_seen : (ledger : Ledger (Operation Call Reply))
      (served : Option (Operation Call Reply)) (view : View Object Call Reply) →
      IfSome served (λ _. (ledger_after served ledger).history
      ≡ (outside_view ledger.history served view).account.seen)
  outside_seen ledger None view = tt
  outside_seen ledger (Some served) view = refl

module _ {Object State Call Reply : Type 0}
    (definition : Definition Object State Call Reply) (key : Key Object)
    (served : Option (Operation Call Reply)) (id : ℕ) (me : Me Object Call Reply)
    (due : IsDue definition key served me)
    (s : table.State (Slot Object) (View Object Call Reply))
    (rule : IsOneHistory definition key s) (at : get_elem? s.views id ≡ some me.0) where
  abbrev now : LockState Call Reply
  now = record { ledger = rule.ledger; holder = rule.holder; word = get_or s.words 0 0 }

  abbrev ledger : Ledger (Operation Call Reply)
  ledger = ledger_after served rule.ledger

  inside : IsInside now id due.history me.0.given
  inside =
      subst (λ (stage : Stage Call Reply). FitsStage now id me.0.given stage) due.stage_is
      (rule.each_seat id me.0 at).stage

  after : Follows definition key s rule id me at served
  after =
      follows definition key s rule id me at served
      (subst (λ (h : List (Operation Call Reply)). IfSome served (IsOwnRight definition key h me.0))
      inside.history_is due.served_right)

  -- what it would know outside
  abbrev between : Me Object Call Reply
  between = (outside_view rule.ledger.history served me.0, table.rest me.1)

  -- and what it knows inside
  abbrev view : View Object Call Reply
  view = inside_view ledger.history due.guarded.next between.0

  next_is : due.guarded.next ≡ ledger.next
  next_is = due.next_is ∙ inside.given_is ∙ sym after.next

  within : ledger.next ≤ key.limit
  within = let limit = rule.limit in let next = after.next in omega arith

  all_seats : AreSeats server account_of ledger (set s.views id view)
  all_seats = after.seats view refl

  there : get_elem? (set s.views id view) id ≡ some view
  there = set_here s.views id view me.0 at

  kept : IsOneHistory definition key record {
    words = set s.words 0 (get_or s.words 0 0);
    homes = s.homes;
    views = set s.views id view;
  }
  kept =
      let word = inside.word_is in
      rule_after definition key s s.homes id (get_or s.words 0 0) view ledger rule.holder
      rule.one_word after.legal within (λ free. absurd (omega arith)) all_seats
      record {
        given = let next = next_is in omega arith;
        stage = record {
          history_is = refl;
          given_is = next_is;
          holder_is = inside.holder_is;
          word_is = inside.word_is;
        };
      }
      (λ seat other_view other its.
      lock_moves now
      record { ledger = ledger; holder = rule.holder; word = get_or s.words 0 0 }
      seat other_view (rule.each_seat seat other_view its) after.grown
      (let next = after.next in omega arith)
      (λ holder one. other (holder ∙ sym inside.holder_is)))

  finds : FindsObject definition key between.0 ledger.history due.guarded
  finds =
      record {
        object = due.object
            ∙ ap (λ (h : List (Operation Call Reply)). state_after (meaning_of definition)
            (opening_state definition key) (history_with served h)) inside.history_is
            ∙ ap (state_after (meaning_of definition) (opening_state definition key))
            (sym after.history);
        legal = record {
          legal = after.legal;
          within = by_below_weaker server ledger.next key.limit ledger.history within
              all_seats.by_given;
        };
        limit = let next = next_is in let limit = within in omega arith;
        knows = seats.knows_history (meaning_of definition) (opening_state definition key)
            key.limit ledger id view.account after.legal all_seats.by_given within
            (all_seats.each_seat id view there);
      }

  taken : TakesLock definition between (view, me.1)
  taken =
      record {
        history = ledger.history;
        guarded = due.guarded;
        view_is = refl;
        slots_are = due.slots_are
            ∙ ap (λ (slots : List (ℕ × Slot Object)). (0, Some due.guarded) ∷ slots)
            (sym (ap table.rest due.slots_are));
        looked = looks_at server account_of ledger (set s.views id view) all_seats id view there;
        next = subst (IsNext server between.0.account) (sym next_is)
            (is_next server account_of ledger (set s.views id view) all_seats id view there);
        given =
            let same = outside_given definition key s rule id me at rule.ledger.history served in
            let next = due.next_is in
            omega arith;
        finds = λ found found_is.
            let keyed = sym (outside_key rule.ledger.history served me.0) ∙ found_is in
            let its = due.key_is in
            let same : found ≡ key = cc in
            subst
            (λ (k : Key Object). FindsObject definition k between.0 ledger.history due.guarded)
            (sym same) finds;
      }

  released : HasReleased served me between
  released =
      record {
        view_is = λ history stage_is.
            let same : rule.ledger.history ≡ history =
            let e = stage_is in let f = due.stage_is in let h = inside.history_is in cc in
            ap (λ (h : List (Operation Call Reply)). outside_view h served me.0) same;
        slots_are = refl;
      }

  -- the step is a release and an acquire with nothing between them
  pub entered : HasEntered definition served me (view, me.1)
  unfolding taken
  entered =
      record {
        between = between;
        released = released;
        taken = taken;
        at_once = outside_seen rule.ledger served me.0;
      }

-- a load of the word by who is inside keeps the rule, with the request in the history
pub enter_keeps : {Object State Call Reply : Type 0}
    (definition : Definition Object State Call Reply) (key : Key Object)
    (served : Option (Operation Call Reply)) (slots id : ℕ) (me : Me Object Call Reply) →
    IsDue definition key served me →
    table.Allows (IsOneHistory definition key) slots id me 0 (λ n. n)
    (λ _ after. HasEntered definition served me after)
enter_keeps definition key served slots id me due s rule _ at _ = (
  view definition key served id me due s rule at,
  table.keeps,
  tt,
  kept definition key served id me due s rule at,
  entered definition key served id me due s rule at,
)
