-- A seat that sits down after its steps, and the last look of one.
use Rattle.std.proofs.Common.{◌≡◌, true, [], ◌∷◌, sym, ap, subst, ◌∙◌, Some}
use Rattle.histories.specs.Account.{has_number}
use Rattle.histories.specs.Changes.{LooksAt}
use Rattle.kernel_lock.specs.declared.lock_seat.LockSeat.{LockSeat}
use Rattle.kernel_lock.specs.declared.locked.Locked.{Locked}
use Rattle.kernel_lock.specs.declared.view.Guarded.{Guarded}
use Rattle.kernel_lock.specs.declared.view.View.{View}
use Rattle.kernel_lock.specs.Calls.{EndsHistory}
use Rattle.kernel_lock.specs.Definition.{Definition, server}
use Rattle.kernel_lock.specs.Seats.{IsSeatOf, view_of, limit_of, opening_of}
use Rattle.kernel_lock.specs.Steppers.{Stepper, IsStepperOf, IsOutside}
use Rattle.kernel_lock.specs.Steps.{Me, TakesLock}
use Rattle.kernel_lock.specs.View.{HasOwn, head_view}
use Rattle.kernel_lock.proofs.ReleaseKeeps.{same_guarded}

module _ {Object Call Reply : Type 0} where
  -- a stepper that is outside makes a seat
  pub sits_down : (lock : Locked Object Call Reply) (seat : LockSeat Object Call Reply)
      (stepper : Stepper Object Call Reply) → IsStepperOf lock stepper → IsOutside stepper →
      seat.badge.table_id ≡ stepper.table_id → seat.badge.views ≡ stepper.me.0 ∷ [] →
      seat.number ≡ stepper.me.0.account.number →
      has_number stepper.me.0.account.shares seat.number ≡ true → IsSeatOf lock seat
  sits_down lock seat stepper its outside table views number own =
      let view : head_view seat.badge.views ≡ stepper.me.0 = ap head_view views in
      record {
        table = table ∙ its.table;
        views = views ∙ ap (λ (v : View Object Call Reply). v ∷ []) (sym view);
        key = ap (λ (v : View Object Call Reply). v.key) view ∙ its.key;
        stage = ap (λ (v : View Object Call Reply). v.stage) view ∙ outside.stage;
        number = number ∙ sym (ap (λ (v : View Object Call Reply). v.account.number) view);
        own = ap (λ (v : View Object Call Reply). has_number v.account.shares seat.number) view
            ∙ own;
      }

  -- a seat that stood up, made its steps and sat down again
  pub sits_again : (lock : Locked Object Call Reply) (old new : LockSeat Object Call Reply)
      (before : View Object Call Reply) (stepper : Stepper Object Call Reply) →
      IsSeatOf lock old → before ≡ view_of old → IsStepperOf lock stepper → IsOutside stepper →
      stepper.me.0.account.number ≡ before.account.number →
      (has_number before.account.shares old.number ≡ true →
      has_number stepper.me.0.account.shares old.number ≡ true) →
      new.badge.table_id ≡ stepper.table_id → new.badge.views ≡ stepper.me.0 ∷ [] →
      new.number ≡ old.number → IsSeatOf lock new
  sits_again lock old new before stepper seat before_is its outside number own table views same =
      sits_down lock new stepper its outside table views
      (same ∙ seat.number
      ∙ ap (λ (v : View Object Call Reply). v.account.number) (sym before_is) ∙ sym number)
      (ap (has_number stepper.me.0.account.shares) same
      ∙ own (ap (λ (v : View Object Call Reply). has_number v.account.shares old.number)
      before_is ∙ seat.own))

  -- a seat that stood up has its own number
  pub stands_own : (lock : Locked Object Call Reply) (seat : LockSeat Object Call Reply)
      (before : View Object Call Reply) → IsSeatOf lock seat → before ≡ view_of seat →
      HasOwn before
  stands_own lock seat before is before_is =
      subst HasOwn (sym before_is)
      (ap (has_number (view_of seat).account.shares) (sym is.number) ∙ is.own)

module _ {Object State Call Reply : Type 0}
    (definition : Definition Object State Call Reply) where
  -- the object that a seat finds inside when the lock is closed
  pub ends : (lock : Locked Object Call Reply) (seat : LockSeat Object Call Reply)
      (before after : Me Object Call Reply) (found : Guarded Object) → IsSeatOf lock seat →
      seat.badge.views ≡ before.0 ∷ [] → before.1 ≡ [] → TakesLock definition before after →
      after.1 ≡ (0, Some found) ∷ [] →
      EndsHistory definition (opening_of definition lock) (limit_of lock) (view_of seat)
      found.object
  ends lock seat before after found is views none taken found_is =
      let view : view_of seat ≡ before.0 = ap head_view views in
      let finds = taken.finds lock.table.shared.key
      (ap (λ (v : View Object Call Reply). v.key) (sym view) ∙ is.key) in
      let same = same_guarded found taken.guarded [] before.1 (sym found_is ∙ taken.slots_are) in
      record {
        history = taken.history;
        looked = subst (λ (v : View Object Call Reply). LooksAt server taken.history v.account)
            (sym view) taken.looked;
        legal = finds.legal;
        object_is = ap (λ (guarded : Guarded Object). definition.state guarded.object) same
            ∙ finds.object;
      }
