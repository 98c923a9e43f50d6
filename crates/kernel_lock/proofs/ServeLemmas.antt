-- What the steps of a served request tell together.
use Rattle.std.proofs.Common.{[], ◌≡◌, ℕ, ◌<◌, true, List, ◌∷◌, refl, sym, ap, subst, ◌∙◌, arith}
use Rattle.std.proofs.Common.{Option, Some, None}
use Rattle.std.specs.Prelude.{IfSome, unwrap_or}
use Rattle.atomic_table.specs.Table.{rest}
use Rattle.histories.specs.declared.account.Account.{Account}
use Rattle.histories.specs.declared.account.Share.{Share}
use Rattle.histories.specs.History.{state_after}
use Rattle.histories.specs.Account.{AreDifferent, KnowsHistory, has_number, share_after}
use Rattle.histories.proofs.AccountLemmas.{number_has, numbers_in-share_after, all_gain}
use Rattle.histories.proofs.AccountLemmas.{has_number-share_after}
use Rattle.histories.proofs.ListLemmas.{all_map}
use Rattle.kernel_lock.specs.declared.lock_seat.LockSeat.{LockSeat}
use Rattle.kernel_lock.specs.declared.locked.Locked.{Locked}
use Rattle.kernel_lock.specs.declared.view.Guarded.{Guarded}
use Rattle.kernel_lock.specs.declared.view.Key.{Key}
use Rattle.kernel_lock.specs.declared.view.Operation.{Operation}
use Rattle.kernel_lock.specs.declared.view.Stage.TheVariants.{Outside}
use Rattle.kernel_lock.specs.declared.view.View.{View}
use Rattle.kernel_lock.specs.Calls.{Serves, ServesBoth, ServesThen}
use Rattle.kernel_lock.specs.Definition.{Definition, IsRight, server, meaning_of, opening_state}
use Rattle.kernel_lock.specs.Steps.{Slot, Me, FindsObject, TakesLock, HasOnly, HasAnswered, IsDue}
use Rattle.kernel_lock.specs.Steps.{HasReleased, HasEntered, HasTaken, HasServed}
use Rattle.kernel_lock.specs.Seats.{IsSeatOf, Applies, AppliesThen, served_by, view_of}
use Rattle.kernel_lock.specs.View.{inside_view, outside_view}
use Rattle.kernel_lock.proofs.ReleaseKeeps.{same_guarded}

module _ {Object Call Reply : Type 0} where
  -- a seat has the numbers that it had
  pub keeps_numbers : (served : Operation Call Reply) (old new : View Object Call Reply) →
      Serves served old new → (number : ℕ) → has_number old.account.shares number ≡ true →
      has_number new.account.shares number ≡ true
  keeps_numbers served old new serves number has =
      ap (λ (account : Account (Operation Call Reply)). has_number account.shares number)
      serves.account.new_is
      ∙ has_number-share_after server served old.account.shares number ∙ has

module _ {Object State Call Reply : Type 0}
    (definition : Definition Object State Call Reply) where
  -- a seat that had no slot and took the lock has the object's slot alone
  pub takes_slot : (before after : Me Object Call Reply) → before.1 ≡ [] →
      TakesLock definition before after → HasOnly after
  takes_slot before after none taken =
      record {
        guarded = taken.guarded;
        slots_are = taken.slots_are
            ∙ ap (λ (slots : List (ℕ × Slot Object)). (0, Some taken.guarded) ∷ slots) none;
      }

  module _ (key : Key Object) (before middle after : Me Object Call Reply)
      (served : Operation Call Reply) (keyed : before.0.key ≡ Some key) (none : before.1 ≡ [])
      (taken : TakesLock definition before middle)
      (answered : HasAnswered definition served.request served.reply middle after)
      (own : has_number before.0.account.shares served.by ≡ true)
      (named : IfSome (definition.named served.request) (λ n. n ≡ served.by)) where
    abbrev opening : State
    opening = opening_state definition key

    found_is : answered.found ≡ taken.guarded
    found_is =
        same_guarded answered.found taken.guarded [] before.1
        (sym answered.found_is ∙ taken.slots_are)

    finds : FindsObject definition key before.0 taken.history taken.guarded
    finds = taken.finds key keyed

    -- the object when the request was made
    found_state : definition.state answered.found.object ≡
        state_after (meaning_of definition) opening taken.history
    found_state =
        ap (λ (guarded : Guarded Object). definition.state guarded.object) found_is ∙ finds.object

    right : IsRight definition (state_after (meaning_of definition) opening taken.history) served
    right =
        record {
          reply = answered.reply_is
              ∙ ap (λ (q : State). definition.answer q served.request) found_state;
          named = named;
        }

    known : after.0 ≡ inside_view taken.history taken.guarded.next before.0
    known = ap (λ (me : Me Object Call Reply). me.0) answered.after_is ∙ taken.view_is

    -- after the object answered right, the slot holds what the history and that request leave
    pub serving_is_due : IsDue definition key (Some served) after
    serving_is_due =
        record {
          history = taken.history;
          guarded = answered.left;
          others = [];
          key_is = ap (λ (view : View Object Call Reply). view.key) known ∙ keyed;
          stage_is = ap (λ (view : View Object Call Reply). view.stage) known;
          slots_are = ap (λ (me : Me Object Call Reply). me.1) answered.after_is;
          next_is = answered.next_is
              ∙ ap (λ (guarded : Guarded Object). guarded.next) found_is
              ∙ sym (ap (λ (view : View Object Call Reply). view.given) known);
          object = answered.object_is
              ∙ ap (λ (q : State). definition.after q served.request) found_state;
          served_right = record {
            right = right;
            own = ap (λ (view : View Object Call Reply).
                has_number view.account.shares served.by)
                known ∙ own;
          };
        }

    abbrev last_view : View Object Call Reply
    last_view =
        outside_view taken.history (Some served)
        (inside_view taken.history taken.guarded.next before.0)

    last_is : (final : Me Object Call Reply) → HasReleased (Some served) after final →
        (final.0 ≡ last_view) × (final.1 ≡ [])
    last_is final released = (
      released.view_is taken.history (ap (λ (view : View Object Call Reply). view.stage) known)
          ∙ ap (outside_view taken.history (Some served)) known,
      released.slots_are ∙ ap (λ (me : Me Object Call Reply). rest me.1) answered.after_is,
    )

    serves : Serves served before.0 last_view
    serves =
        record {
          account = record { past = taken.history; looked = taken.looked; new_is = refl };
          given = taken.given;
        }

    knows_more : KnowsHistory (meaning_of definition) opening key.limit last_view.account
    knows_more =
        let below : served.by < taken.guarded.next =
        number_has (λ n. n < taken.guarded.next) served.by before.0.account.shares
        taken.next.own own in
        let limit = finds.limit in
        record {
          history = record {
            legal = (right, finds.legal.legal);
            within = (omega arith, finds.legal.within);
          };
          mine = all_gain server taken.history served before.0.account.shares taken.looked.mine;
          different = subst AreDifferent
              (sym (numbers_in-share_after server served before.0.account.shares))
              finds.knows.different;
          numbers = all_map (λ share. share.number < key.limit) (share_after server served)
              before.0.account.shares finds.knows.numbers;
          gave = finds.knows.gave;
        }

    -- the lock taken, the request answered and the lock given back make one served request
    pub has_served : (final : Me Object Call Reply) → HasReleased (Some served) after final →
        HasServed definition key taken.history served before final
    has_served final released =
        let is = last_is final released in
        record {
          key_is = ap (λ (view : View Object Call Reply). view.key) is.0 ∙ keyed;
          stage_is = ap (λ (view : View Object Call Reply). view.stage) is.0;
          no_slot = is.1;
          serves = subst (Serves served before.0) (sym is.0) serves;
          follows = ap (λ (view : View Object Call Reply). view.account.seen) is.0;
          knows = subst
              (λ (view : View Object Call Reply). KnowsHistory (meaning_of definition) opening
              key.limit view.account)
              (sym is.0) knows_more;
        }

  -- ---- two requests in one hold of the lock

  -- a request that follows is made under the number that it names, or else under the seat's own
  pub follower_is_own : (shares : List (Share (Operation Call Reply))) (own : ℕ)
      (named : Option ℕ) → IfSome named (λ n. has_number shares n ≡ true) →
      has_number shares own ≡ true → has_number shares (unwrap_or named own) ≡ true
  follower_is_own shares own None names has = has
  follower_is_own shares own (Some number) names has = names

  module _ (key : Key Object) (first : Operation Call Reply) (before middle : Me Object Call Reply)
      (entered : HasEntered definition (Some first) before middle)
      (old : Me Object Call Reply) (history : List (Operation Call Reply))
      (done : HasServed definition key history first old entered.between) where
    -- after the first request the seat is inside, as if it had taken the lock once more
    abbrev pub takes_again : (by : ℕ) → has_number old.0.account.shares by ≡ true →
        HasTaken definition key by entered.between middle
    takes_again by has =
        record {
          key_is = done.key_is;
          no_slot = done.no_slot;
          own = keeps_numbers first old.0 entered.between.0 done.serves by has;
          taken = entered.taken;
        }

    -- so both are served, the second right after the first
    pub serves_both : (second : Operation Call Reply) (final : Me Object Call Reply) →
        HasServed definition key entered.taken.history second entered.between final →
        ServesBoth definition key first second old.0 final.0
    serves_both second final then =
        record {
          between = entered.between.0;
          knows = done.knows;
          first_served = done.serves;
          second_served = then.serves;
          at_once = then.follows ∙ ap (λ (seen : List _). second ∷ seen) entered.at_once;
        }

  -- which is what was served where the second follows the first
  pub serves_then : (key : Key Object) (own : ℕ) (first : Operation Call Reply)
      (follower : Option Call) (by : ℕ) (next : Call) (reply : Reply)
      (old new : View Object Call Reply) → follower ≡ Some next →
      by ≡ unwrap_or (definition.named next) own →
      ServesBoth definition key first (record { by = by; request = next; reply = reply }) old new →
      ServesThen definition key own first follower (Some reply) old new
  serves_then key own first follower by next reply old new is by_is both =
      subst
      (λ (o : Option Call). ServesThen definition key own first o (Some reply) old new) (sym is)
      (subst
      (λ (number : ℕ). ServesBoth definition key first
      (record { by = number; request = next; reply = reply }) old new)
      by_is both)

  -- what one request tells of a seat's view it tells of the seat
  cast_serves : (old new : LockSeat Object Call Reply) (before after : View Object Call Reply)
      (by : ℕ) (request : Call) (reply : Reply) → before ≡ view_of old → view_of new ≡ after →
      by ≡ unwrap_or (definition.named request) old.number →
      Serves (record { by = by; request = request; reply = reply }) before after →
      Applies definition old request reply new
  cast_serves old new before after by request reply was is by_is serves =
      subst (Serves (served_by definition old request reply) (view_of old)) (sym is)
      (subst (λ (view : View Object Call Reply). Serves (served_by definition old request reply)
      view after) was
      (subst (λ (number : ℕ). Serves (record { by = number; request = request; reply = reply })
      before after) by_is serves))

  -- one request or two change the seat's own number not
  pub then_number : (key : Key Object) (own : ℕ) (first : Operation Call Reply)
      (next : Option Call) (reply : Option Reply) (old new : View Object Call Reply) →
      ServesThen definition key own first next reply old new →
      new.account.number ≡ old.account.number
  then_number key own first None None old new serves =
      ap (λ (account : Account (Operation Call Reply)). account.number) serves.account.new_is
  then_number key own first (Some next) (Some reply) old new serves =
      ap (λ (account : Account (Operation Call Reply)). account.number)
      serves.second_served.account.new_is
      ∙ ap (λ (account : Account (Operation Call Reply)). account.number)
      serves.first_served.account.new_is
  then_number key own first None (Some reply) old new serves = absurd serves
  then_number key own first (Some next) None old new serves = absurd serves

  -- and take none
  pub then_keeps : (key : Key Object) (own : ℕ) (first : Operation Call Reply)
      (next : Option Call) (reply : Option Reply) (old new : View Object Call Reply) →
      ServesThen definition key own first next reply old new →
      (number : ℕ) → has_number old.account.shares number ≡ true →
      has_number new.account.shares number ≡ true
  then_keeps key own first None None old new serves number has =
      keeps_numbers first old new serves number has
  then_keeps key own first (Some next) (Some reply) old new serves number has =
      keeps_numbers
      (record { by = unwrap_or (definition.named next) own; request = next; reply = reply })
      serves.between new serves.second_served number
      (keeps_numbers first old serves.between serves.first_served number has)
  then_keeps key own first None (Some reply) old new serves number has = absurd serves
  then_keeps key own first (Some next) None old new serves number has = absurd serves

  -- what the two tell of a seat's view they tell of the seat
  pub applies_then : (lock : Locked Object Call Reply) (old new : LockSeat Object Call Reply)
      (before after : View Object Call Reply) (by : ℕ) (request : Call) (reply : Reply)
      (next : Option Call) (answer : Option Reply) → IsSeatOf lock old →
      before ≡ view_of old → view_of new ≡ after →
      by ≡ unwrap_or (definition.named request) old.number →
      ServesThen definition lock.table.shared.key old.number
      (record { by = by; request = request; reply = reply }) next answer before after →
      AppliesThen definition lock old request reply next answer new
  applies_then lock old new before after by request reply None None seat was is by_is serves =
      cast_serves old new before after by request reply was is by_is serves
  applies_then lock old new before after by request reply (Some next) (Some answer) seat was is
      by_is serves =
      let between : View Object Call Reply =
      record serves.between { key = Some lock.table.shared.key; stage = Outside } in
      let middle : LockSeat Object Call Reply =
      record { badge = record old.badge { views = between ∷ [] }; number = old.number } in
      let first = cast_serves old middle before between by request reply was refl by_is
      (record { account = serves.first_served.account; given = serves.first_served.given }) in
      record {
        between = middle;
        seat = record {
          table = seat.table;
          views = refl;
          key = refl;
          stage = refl;
          number = seat.number
              ∙ sym (ap (λ (account : Account (Operation Call Reply)). account.number)
              first.account.new_is);
          own = keeps_numbers _ (view_of old) between first old.number seat.own;
        };
        number = refl;
        history = serves.knows;
        first = first;
        second = subst (Serves (served_by definition middle next answer) between) (sym is)
            (record { account = serves.second_served.account; given = serves.second_served.given });
        at_once = ap (λ (view : View Object Call Reply). view.account.seen) is ∙ serves.at_once;
      }
  applies_then lock old new before after by request reply None (Some answer) seat was is by_is
      serves = absurd serves
  applies_then lock old new before after by request reply (Some next) None seat was is by_is
      serves = absurd serves
