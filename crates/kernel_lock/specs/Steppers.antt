-- What a lock's own code sees of a seat while it makes its steps.
use Rattle.std.specs.Prelude.{◌≡◌, ◌<◌, [], ◌∷◌, Some}
use Rattle.atomic_table.specs.declared.shared.Seat.{Seat}
use Rattle.kernel_lock.specs.declared.lock_seat.LockSeat.{LockSeat}
use Rattle.kernel_lock.specs.declared.locked.Locked.{Locked}
use Rattle.kernel_lock.specs.declared.view.Stage.TheVariants.{Outside}
use Rattle.kernel_lock.specs.declared.view.View.{View}
use Rattle.kernel_lock.specs.Seats.{limit_of}
use Rattle.kernel_lock.specs.Steps.{Slot}
use Rattle.kernel_lock.specs.View.{parent_view, child_view}

-- a seat while it makes its steps
abbrev pub Stepper : Type 0 → Type 0 → Type 0 → Type 0
Stepper Object Call Reply = Seat (Slot Object) (View Object Call Reply)

module _ {Object Call Reply : Type 0} where
  -- the stepper is one of the lock's
  pub record IsStepperOf (lock : Locked Object Call Reply)
      (stepper : Stepper Object Call Reply) : Type 0 where
    pub table : stepper.table_id ≡ lock.table.shared.table_id
    pub key : stepper.me.0.key ≡ Some lock.table.shared.key

  -- the stepper is between two calls
  pub record IsOutside (stepper : Stepper Object Call Reply) : Type 0 where
    pub stage : stepper.me.0.stage ≡ Outside
    pub no_slot : stepper.me.1 ≡ []

  -- a step changes what the stepper knows and has, and nothing else of it
  pub record IsSameStepper (before after : Stepper Object Call Reply) : Type 0 where
    pub table : after.table_id ≡ before.table_id
    pub id : after.id ≡ before.id

  -- a seat that was inside gave this one
  pub record IsChild (lock : Locked Object Call Reply) (old new : View Object Call Reply)
      (child : LockSeat Object Call Reply) : Type 0 where
    pub room : old.given < limit_of lock
    pub parent : new ≡ parent_view old
    pub table : child.badge.table_id ≡ lock.table.shared.table_id
    pub views : child.badge.views ≡ child_view old ∷ []
    pub number : child.number ≡ old.given
