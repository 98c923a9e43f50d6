-- A seat between its steps: it has its number still, and is free again after an entry.
use Rattle.std.proofs.Common.{[], ◌≡◌, ℕ, ◌+◌, ◌<◌, true, ◌∷◌, sym, ap, subst, ◌∙◌}
use Rattle.histories.specs.declared.account.Account.{Account}
use Rattle.histories.specs.Account.{has_number}
use Rattle.histories.proofs.AccountLemmas.{has_number-share_after}
use Rattle.block_queue.specs.declared.entry.Entry.{Entry}
use Rattle.block_queue.specs.declared.queue.Queue.{Queue}
use Rattle.block_queue.specs.declared.seats.PutSeat.{PutSeat}
use Rattle.block_queue.specs.declared.seats.TakeSeat.{TakeSeat}
use Rattle.block_queue.specs.declared.view.Key.{Key}
use Rattle.block_queue.specs.declared.view.Stage.TheVariants.{Free}
use Rattle.block_queue.specs.declared.view.View.{View}
use Rattle.block_queue.specs.History.{seat_of}
use Rattle.block_queue.specs.Meaning.{Enters}
use Rattle.block_queue.specs.Seats.{Stepper, IsStepperOf, IsFreeStepperOf, IsSameStepper}
use Rattle.block_queue.specs.Seats.{IsPutSeatOf, IsTakeSeatOf, head_view, put_view, take_view}

-- an entry leaves a seat its numbers
pub entered_own : (key : Key) (made : Entry) (old new : Account Entry) (number : ℕ) →
    Enters key made old new → has_number old.shares number ≡ true → has_number new.shares number ≡
    true
entered_own key made old new number enters has =
    subst (λ (a : Account Entry). has_number a.shares number ≡
    true) (sym enters.adds.new_is) (has_number-share_after seat_of made old.shares number ∙ has)

-- an entry leaves its seat the number that it acts by
pub entered_number : (key : Key) (made : Entry) (old new : Account Entry) →
    Enters key made old new → new.number ≡ old.number
entered_number key made old new enters = ap (λ (a : Account Entry). a.number) enters.adds.new_is

-- a seat that made an entry stands where it stood, with its number
pub entered_stepper : (queue : Queue) (old new : Stepper) (number : ℕ) (made : Entry) (key : Key) →
    IsStepperOf queue old number → IsSameStepper old new →
    Enters key made old.me.0.account new.me.0.account → IsStepperOf queue new number
entered_stepper queue old new number made key is same enters =
    record {
      table = same.table ∙ is.table;
      own =
          entered_own key made old.me.0.account new.me.0.account number enters is.own;
    }

-- a seat that made its entry is free again
pub entered_free : (queue : Queue) (old new : Stepper) (number : ℕ) (made : Entry) (key : Key) →
    IsStepperOf queue old number → old.me.0.account.number ≡ number → IsSameStepper old new
    → Enters key made old.me.0.account new.me.0.account → new.me.0.stage ≡ Free → new.me.1 ≡ [] →
    IsFreeStepperOf queue new number
entered_free queue old new number made key is number_is same enters stage no_slot =
    let stepper = entered_stepper queue old new number made key is same enters in
    record {
      table = stepper.table;
      own = stepper.own;
      number_is = entered_number key made old.me.0.account new.me.0.account enters ∙ number_is;
      stage = stage;
      no_slot = no_slot;
    }

-- a free seat is one that may step
pub free_steps : (queue : Queue) (stepper : Stepper) (number : ℕ) →
    IsFreeStepperOf queue stepper number → IsStepperOf queue stepper number
free_steps queue stepper number free = record { table = free.table; own = free.own }

-- a seat that knows what it knew may step on
pub steps_on : (queue : Queue) (old new : Stepper) (number : ℕ) → IsStepperOf queue old number →
    IsSameStepper old new → new.me.0.account ≡ old.me.0.account → IsStepperOf queue new number
steps_on queue old new number is same account =
    record {
      table = same.table ∙ is.table;
      own =
          subst (λ (a : Account Entry). has_number a.shares number ≡ true) (sym account) is.own;
    }

-- ---- a seat that sits down

-- a free one with a writer's number sits down as that writer's seat
pub sits_put : (queue : Queue) (seat : PutSeat) (stepper : Stepper) →
    seat.writer < queue.key.writers →
    IsFreeStepperOf queue stepper (seat.writer + 1) → seat.badge.table_id ≡ stepper.table_id →
    seat.badge.views ≡ stepper.me.0 ∷ [] → IsPutSeatOf queue seat
sits_put queue seat stepper writer free table views =
    let view : put_view seat ≡ stepper.me.0 = ap head_view views in
    record {
      table = table ∙ free.table;
      views = views ∙ ap (λ (v : View). v ∷ []) (sym view);
      writer_is = writer;
      own = ap (λ (v : View). has_number v.account.shares (seat.writer + 1)) view ∙ free.own;
      number_is = ap (λ (v : View). v.account.number) view ∙ free.number_is;
      stage = ap (λ (v : View). v.stage) view ∙ free.stage;
    }

-- a free one with number 0 sits down as the reader's seat
pub sits_take : (queue : Queue) (seat : TakeSeat) (stepper : Stepper) →
    IsFreeStepperOf queue stepper 0 →
    seat.badge.table_id ≡ stepper.table_id → seat.badge.views ≡ stepper.me.0 ∷ [] → seat.taken ≡
    stepper.me.0.taken → IsTakeSeatOf queue seat
sits_take queue seat stepper free table views taken =
    let view : take_view seat ≡ stepper.me.0 = ap head_view views in
    record {
      table = table ∙ free.table;
      views = views ∙ ap (λ (v : View). v ∷ []) (sym view);
      own = ap (λ (v : View). has_number v.account.shares 0) view ∙ free.own;
      number_is = ap (λ (v : View). v.account.number) view ∙ free.number_is;
      stage = ap (λ (v : View). v.stage) view ∙ free.stage;
      taken = taken ∙ sym (ap (λ (v : View). v.taken) view);
    }
