-- What the steps of a split tell together.
use Rattle.std.proofs.Common.{◌≡◌, ℕ, ◌+◌, ◌<◌, ◌≤◌, List, [], ◌∷◌, refl, sym, ap, subst, ◌∙◌}
use Rattle.std.proofs.Common.{arith}
use Rattle.std.proofs.Common.{eq-eqb, Option, Some, None}
use Rattle.std.specs.Prelude.{IfSome, IfNone}
use Rattle.atomic_table.specs.Table.{rest}
use Rattle.histories.specs.Account.{KnowsHistory, has_number}
use Rattle.histories.specs.Changes.{IsNext}
use Rattle.histories.proofs.HistoryLemmas.{entries_by-unused}
use Rattle.kernel_lock.specs.declared.lock_seat.LockSeat.{LockSeat}
use Rattle.kernel_lock.specs.declared.locked.Locked.{Locked}
use Rattle.kernel_lock.specs.declared.view.Guarded.{Guarded}
use Rattle.kernel_lock.specs.declared.view.Key.{Key}
use Rattle.kernel_lock.specs.declared.view.Stage.{Stage}
use Rattle.kernel_lock.specs.declared.view.Stage.TheVariants.{Outside, Inside}
use Rattle.kernel_lock.specs.declared.view.View.{View}
use Rattle.kernel_lock.specs.Calls.{GivesSeat, RefusesSeat}
use Rattle.kernel_lock.specs.Definition.{Definition, server, meaning_of, opening_state}
use Rattle.kernel_lock.specs.Seats.{IsSeatOf, limit_of, view_of}
use Rattle.kernel_lock.specs.Steppers.{IsChild}
use Rattle.kernel_lock.specs.Steps.{Slot, Me, FindsObject, TakesLock, IsInsideWith, KeepsObject}
use Rattle.kernel_lock.specs.Steps.{IsDue, HasReleased}
use Rattle.kernel_lock.specs.View.{inside_view, outside_view, parent_view, child_view, head_view}
use Rattle.kernel_lock.proofs.ReleaseKeeps.{same_guarded}

module _ {Object State Call Reply : Type 0}
    (definition : Definition Object State Call Reply) where
  -- a seat that took the lock is inside, and knows that the number beside the object is the next
  pub is_inside : (before after : Me Object Call Reply) → before.1 ≡ [] →
      TakesLock definition before after → IsInsideWith after
  is_inside before after none taken =
      record {
        history = taken.history;
        guarded = taken.guarded;
        stage_is = ap (λ (view : View Object Call Reply). view.stage) taken.view_is;
        slots_are = taken.slots_are
            ∙ ap (λ (slots : List (ℕ × Slot Object)). (0, Some taken.guarded) ∷ slots) none;
        next_is = sym (ap (λ (view : View Object Call Reply). view.given) taken.view_is);
      }

module _ {Object Call Reply : Type 0} where
  -- the number that a seat found inside is the next one
  found_next : (me : Me Object Call Reply) (found : Guarded Object) → IsInsideWith me →
      me.1 ≡ (0, Some found) ∷ [] → found.next ≡ me.0.given
  found_next me found inside found_is =
      ap (λ (guarded : Guarded Object). guarded.next)
      (same_guarded found inside.guarded [] [] (sym found_is ∙ inside.slots_are)) ∙ inside.next_is

  -- the object was put back, and the seat is as it was
  pub refuses : (before middle after : Me Object Call Reply) (found left : Guarded Object) →
      IsInsideWith before → before.1 ≡ (0, Some found) ∷ [] → middle.0 ≡ before.0 →
      after ≡ (middle.0, (0, Some left) ∷ []) → left.object ≡ found.object →
      left.next ≡ found.next → KeepsObject before after
  refuses before middle after found left inside found_is same after_is object next =
      record {
        found = found;
        left = left;
        found_is = found_is;
        left_is = ap (λ (me : Me Object Call Reply). me.1) after_is;
        object = object;
        next_is = next
            ∙ found_next before found inside found_is
            ∙ ap (λ (view : View Object Call Reply). view.given) (sym same)
            ∙ ap (λ (me : Me Object Call Reply). me.0.given) (sym after_is);
      }

  -- the object was put back, and the seat gave a number
  pub divides : (before middle after : Me Object Call Reply) (found left : Guarded Object) →
      IsInsideWith before → before.1 ≡ (0, Some found) ∷ [] → middle.0 ≡ parent_view before.0 →
      after ≡ (middle.0, (0, Some left) ∷ []) → left.object ≡ found.object →
      left.next ≡ found.next + 1 → KeepsObject before after
  divides before middle after found left inside found_is parent after_is object next =
      record {
        found = found;
        left = left;
        found_is = found_is;
        left_is = ap (λ (me : Me Object Call Reply). me.1) after_is;
        object = object;
        next_is = next
            ∙ ap (λ (n : ℕ). n + 1) (found_next before found inside found_is)
            ∙ ap (λ (view : View Object Call Reply). view.given) (sym parent)
            ∙ ap (λ (me : Me Object Call Reply). me.0.given) (sym after_is);
      }

  child_view_is : (lock : Locked Object Call Reply) (old new : View Object Call Reply)
      (child : LockSeat Object Call Reply) → IsChild lock old new child →
      view_of child ≡ child_view old
  child_view_is lock old new child is = ap head_view is.views

  child_is_seat : (lock : Locked Object Call Reply) (old new : View Object Call Reply)
      (child : LockSeat Object Call Reply) → old.key ≡ Some lock.table.shared.key →
      IsChild lock old new child → IsSeatOf lock child
  child_is_seat lock old new child keyed is =
      let view = child_view_is lock old new child is in
      record {
        table = is.table;
        views = is.views ∙ ap (λ (v : View Object Call Reply). v ∷ []) (sym view);
        key = ap (λ (v : View Object Call Reply). v.key) view ∙ keyed;
        stage = ap (λ (v : View Object Call Reply). v.stage) view;
        number = is.number ∙ sym (ap (λ (v : View Object Call Reply). v.account.number) view);
        own = ap (λ (v : View Object Call Reply). has_number v.account.shares child.number) view
            ∙ rw (eq-eqb old.given child.number (sym is.number)) refl;
      }

module _ {Object State Call Reply : Type 0}
    (definition : Definition Object State Call Reply) where
  module _ (lock : Locked Object Call Reply) (before middle after : Me Object Call Reply)
      (keyed : before.0.key ≡ Some lock.table.shared.key) (outside : before.0.stage ≡ Outside)
      (none : before.1 ≡ []) (taken : TakesLock definition before middle)
      (kept : KeepsObject middle after) where
    abbrev key : Key Object
    key = lock.table.shared.key

    abbrev inside : View Object Call Reply
    inside = inside_view taken.history taken.guarded.next before.0

    finds : FindsObject definition key before.0 taken.history taken.guarded
    finds = taken.finds key keyed

    found_is : kept.found ≡ taken.guarded
    found_is =
        same_guarded kept.found taken.guarded [] before.1 (sym kept.found_is ∙ taken.slots_are)

    -- what the seat is, inside still: a parent, or as it was
    abbrev pub Stays : Option (LockSeat Object Call Reply) → Type 0
    Stays None = after.0 ≡ middle.0
    Stays (Some child) = IsChild lock middle.0 after.0 child

    -- a child says that the seat inside is its parent; no child, that the seat is as it was
    pub stays : (o : Option (LockSeat Object Call Reply)) →
        IfSome o (IsChild lock middle.0 after.0) → IfNone o (after.0 ≡ middle.0) → Stays o
    stays None is same = same
    stays (Some child) is same = is

    given_key : (o : Option (LockSeat Object Call Reply)) → Stays o → after.0.key ≡ Some key
    given_key None stay = ap (λ (v : View Object Call Reply). v.key) (stay ∙ taken.view_is)
        ∙ keyed
    given_key (Some child) stay =
        ap (λ (v : View Object Call Reply). v.key)
        (stay.parent ∙ ap parent_view taken.view_is) ∙ keyed

    given_stage : (o : Option (LockSeat Object Call Reply)) → Stays o →
        after.0.stage ≡ Inside taken.history
    given_stage None stay =
        ap (λ (v : View Object Call Reply). v.stage) (stay ∙ taken.view_is)
    given_stage (Some child) stay =
        ap (λ (v : View Object Call Reply). v.stage)
        (stay.parent ∙ ap parent_view taken.view_is)

    -- a split served nothing, so the object in the slot is still what the history leaves
    pub split_is_due : (o : Option (LockSeat Object Call Reply)) → Stays o →
        IsDue definition key None after
    split_is_due o stay =
        record {
          history = taken.history;
          guarded = kept.left;
          others = [];
          key_is = given_key o stay;
          stage_is = given_stage o stay;
          slots_are = kept.left_is;
          next_is = kept.next_is;
          object = ap definition.state kept.object
              ∙ ap (λ (guarded : Guarded Object). definition.state guarded.object) found_is
              ∙ finds.object;
          served_right = tt;
        }

    module _ (final : Me Object Call Reply) (released : HasReleased None after final) where
      -- after the release the seat has no slot
      pub no_slot : final.1 ≡ []
      no_slot = released.slots_are ∙ ap rest kept.left_is

      final_is : (o : Option (LockSeat Object Call Reply)) → Stays o →
          final.0 ≡ outside_view taken.history None after.0
      final_is o stay = released.view_is taken.history (given_stage o stay)

      parent_is : (child : LockSeat Object Call Reply) → IsChild lock middle.0 after.0 child →
          final.0 ≡ outside_view taken.history None (parent_view inside)
      parent_is child is =
          released.view_is taken.history
          (ap (λ (v : View Object Call Reply). v.stage)
          (is.parent ∙ ap parent_view taken.view_is))
          ∙ ap (outside_view taken.history None) (is.parent ∙ ap parent_view taken.view_is)

      same_is : after.0 ≡ middle.0 →
          final.0 ≡ record before.0 { given = taken.guarded.next }
      same_is same =
          released.view_is taken.history
          (ap (λ (v : View Object Call Reply). v.stage) (same ∙ taken.view_is))
          ∙ ap (outside_view taken.history None) (same ∙ taken.view_is)
          ∙ ap (λ (stage : Stage Call Reply).
          record before.0 { given = taken.guarded.next; stage = stage }) (sym outside)

      -- after the release the seat is still one of this lock's
      pub final_key : (o : Option (LockSeat Object Call Reply)) → Stays o →
          final.0.key ≡ Some key
      final_key o stay =
          ap (λ (v : View Object Call Reply). v.key) (final_is o stay) ∙ given_key o stay

      -- after the release the seat is outside
      pub final_stage : (o : Option (LockSeat Object Call Reply)) → Stays o →
          final.0.stage ≡ Outside
      final_stage o stay = ap (λ (v : View Object Call Reply). v.stage) (final_is o stay)

      room : (child : LockSeat Object Call Reply) → IsChild lock middle.0 after.0 child →
          taken.guarded.next < key.limit
      room child is =
          subst (λ (n : ℕ). n < key.limit)
          (ap (λ (v : View Object Call Reply). v.given) taken.view_is) is.room

      -- with a child or without, what the seat has seen is a legal history, with its own requests
      -- once each
      pub gives_knows : (o : Option (LockSeat Object Call Reply)) → Stays o →
          KnowsHistory (meaning_of definition) (opening_state definition key) key.limit
          final.0.account
      gives_knows None stay =
          subst
          (λ (v : View Object Call Reply). KnowsHistory (meaning_of definition)
          (opening_state definition key) key.limit v.account)
          (sym (same_is stay)) finds.knows
      gives_knows (Some child) stay =
          let knows = finds.knows in
          subst
          (λ (v : View Object Call Reply). KnowsHistory (meaning_of definition)
          (opening_state definition key) key.limit v.account)
          (sym (parent_is child stay))
          record {
            history = knows.history;
            mine = knows.mine;
            different = knows.different;
            numbers = knows.numbers;
            gave = (room child stay, knows.gave);
          }

      -- a child is a seat of the same lock
      pub gives_child : (o : Option (LockSeat Object Call Reply)) → Stays o →
          IfSome o (IsSeatOf lock)
      gives_child None stay = tt
      gives_child (Some child) stay =
          child_is_seat lock middle.0 after.0 child
          (ap (λ (v : View Object Call Reply). v.key) taken.view_is ∙ keyed) stay

      child_is : (child : LockSeat Object Call Reply) → IsChild lock middle.0 after.0 child →
          view_of child ≡ child_view inside
      child_is child is =
          child_view_is lock middle.0 after.0 child is ∙ ap child_view taken.view_is

      -- a child has the next number, which its parent gave, and has seen what that has
      pub gives_seat : (o : Option (LockSeat Object Call Reply)) → Stays o →
          IfSome o (λ child. GivesSeat (limit_of lock) before.0 final.0 (view_of child))
      gives_seat None stay = tt
      gives_seat (Some child) stay =
          subst (GivesSeat (limit_of lock) before.0 final.0) (sym (child_is child stay))
          (subst
          (λ (v : View Object Call Reply). GivesSeat (limit_of lock) before.0 v
          (child_view inside))
          (sym (parent_is child stay))
          record {
            account = record { next = taken.next; child_is = refl; parent_is = refl };
            later = taken.given;
            limit_is = room child stay;
            given = refl;
            child_given = refl;
          })

      -- what the child has seen is a legal history too, with no request by its number
      pub gives_history : (o : Option (LockSeat Object Call Reply)) → Stays o →
          IfSome o (λ child. KnowsHistory (meaning_of definition) (opening_state definition key)
          (limit_of lock) (view_of child).account)
      gives_history None stay = tt
      gives_history (Some child) stay =
          let knows = finds.knows in
          subst
          (λ (v : View Object Call Reply). KnowsHistory (meaning_of definition)
          (opening_state definition key) key.limit v.account)
          (sym (child_is child stay))
          record {
            history = knows.history;
            mine = (
              record {
                entries = entries_by-unused server taken.guarded.next taken.guarded.next
                    before.0.account.seen taken.next.seen (omega arith);
              },
              tt,
            );
            different = (tt, tt);
            numbers = (room child stay, tt);
            gave = tt;
          }

      -- no child where all numbers were given: the next is the limit, which is all that the seat
      -- learned
      pub gives_none : (o : Option (LockSeat Object Call Reply)) → Stays o →
          IfNone o (limit_of lock ≤ middle.0.given) →
          IfNone o (RefusesSeat (limit_of lock) before.0 final.0)
      gives_none None stay full =
          let middle_given = ap (λ (v : View Object Call Reply). v.given) taken.view_is in
          let most = finds.limit in
          let all : taken.guarded.next ≡ key.limit = omega arith in
          record {
            next = subst (IsNext server before.0.account) all taken.next;
            same = same_is stay ∙ ap (λ (n : ℕ). record before.0 { given = n }) all;
          }
      gives_none (Some child) stay full = tt
