-- What a queue's own code sees of a seat that makes its steps.
use Rattle.std.specs.Prelude.{◌≡◌, ℕ, ◌+◌, ◌<◌, List, [], ◌∷◌, Option, IsTrue}
use Rattle.atomic_table.specs.declared.shared.Seat.{Seat}
use Rattle.histories.specs.Account.{has_number}
use Rattle.sync_base.specs.Write.{Write}
use Rattle.histories.specs.declared.account.Account.{Account}
use Rattle.block_queue.specs.declared.entry.Entry.{Entry}
use Rattle.block_queue.specs.declared.queue.Queue.{Queue}
use Rattle.block_queue.specs.declared.seats.PutSeat.{PutSeat}
use Rattle.block_queue.specs.declared.seats.TakeSeat.{TakeSeat}
use Rattle.block_queue.specs.declared.view.Key.{Key}
use Rattle.block_queue.specs.declared.view.Stage.TheVariants.{Free}
use Rattle.block_queue.specs.Rule.{spent_view}
use Rattle.block_queue.specs.declared.view.View.{View}
use Rattle.block_queue.specs.Steps.{Asked}

-- a seat that makes its steps
abbrev pub Stepper : Type 0
Stepper = Seat (Option Write) View

-- the stepper is one of the queue's, and has this number
pub record IsStepperOf (queue : Queue) (stepper : Stepper) (number : ℕ) : Type 0 where
  pub table : stepper.table_id ≡ queue.table.shared.table_id
  pub own : IsTrue (has_number stepper.me.0.account.shares number)

-- a step changes what the stepper knows and holds, and nothing else of it
pub record IsSameStepper (before after : Stepper) : Type 0 where
  pub table : after.table_id ≡ before.table_id
  pub id : after.id ≡ before.id

-- a step is asked for this write of this queue
abbrev pub asks : Queue → ℕ → Write → Asked
asks queue count write = record { key = queue.key; write = write; count = count }

-- no write, where the step needs none
abbrev pub no_write : Write
no_write = record { writer = 0; bytes = [] }

-- the stepper is between two calls, and holds no slot
pub record IsFreeStepperOf (queue : Queue) (stepper : Stepper) (number : ℕ) : Type 0 where
  pub table : stepper.table_id ≡ queue.table.shared.table_id
  pub own : IsTrue (has_number stepper.me.0.account.shares number)
  pub number_is : stepper.me.0.account.number ≡ number
  pub stage : stepper.me.0.stage ≡ Free
  pub no_slot : stepper.me.1 ≡ []

-- the first of the views, where there is one
abbrev pub head_view : List View → View
head_view [] = spent_view
head_view (view ∷ views) = view

-- what the seat knows
abbrev pub put_view : PutSeat → View
put_view seat = head_view seat.badge.views

abbrev pub take_view : TakeSeat → View
take_view seat = head_view seat.badge.views

-- the seat is one of the queue's, and is between two calls
pub record IsPutSeatOf (queue : Queue) (seat : PutSeat) : Type 0 where
  pub table : seat.badge.table_id ≡ queue.table.shared.table_id
  pub views : seat.badge.views ≡ put_view seat ∷ []
  pub writer_is : seat.writer < queue.key.writers
  pub own : IsTrue (has_number (put_view seat).account.shares (seat.writer + 1))
  pub number_is : (put_view seat).account.number ≡ seat.writer + 1
  pub stage : (put_view seat).stage ≡ Free

pub record IsTakeSeatOf (queue : Queue) (seat : TakeSeat) : Type 0 where
  pub table : seat.badge.table_id ≡ queue.table.shared.table_id
  pub views : seat.badge.views ≡ take_view seat ∷ []
  pub own : IsTrue (has_number (take_view seat).account.shares 0)
  pub number_is : (take_view seat).account.number ≡ 0
  pub stage : (take_view seat).stage ≡ Free
  pub taken : seat.taken ≡ (take_view seat).taken

-- a call leaves a seat its number, and it gives none away
pub record IsSameSeat (old new : Account Entry) : Type 0 where
  pub number : new.number ≡ old.number
  pub gave : new.gave ≡ old.gave

-- what was fixed when the queue was made
abbrev pub key_of : Queue → Key
key_of queue = queue.key

-- the seat's numbers with their entries, and the history as far as it has seen it
abbrev pub put_account : PutSeat → Account Entry
put_account seat = (put_view seat).account

abbrev pub take_account : TakeSeat → Account Entry
take_account seat = (take_view seat).account
