-- What each answer of a queue and each step of its ring tell its seat: each against the rows that
-- it names.
use Rattle.std.proofs.Common.{◌≡◌, ◌≢◌, ◌<◌, ◌≤◌, ◌+◌, ◌-◌, ℕ, List, [], ◌∷◌, length, true, false}
use Rattle.std.proofs.Common.{Some, None}
use Rattle.std.specs.Prelude.{◌^◌, IsTrue, slice_get}
use Rattle.atomic_table.specs.Table as table
use Rattle.histories.specs.declared.account.Account.{Account}
use Rattle.histories.specs.Account.{has_number}
use Rattle.histories.specs.Changes.{AddsEntry}
use Rattle.histories.specs.History.{IsLegal}
use Rattle.sync_base.specs.Pipe.{next_write}
use Rattle.sync_base.specs.Write.{Write}
use Rattle.sync_base.specs.declared.limits.TheConstants.{LAST_WRITE}
use Rattle.block_queue.specs.declared.answers.PutAnswer.TheVariants as put
use Rattle.block_queue.specs.declared.answers.TakeAnswer.{TakeAnswer}
use Rattle.block_queue.specs.declared.answers.TakeAnswer.TheVariants as take
use Rattle.block_queue.specs.declared.entry.Entry.{Entry}
use Rattle.block_queue.specs.declared.entry.Entry.TheVariants as entry
use Rattle.block_queue.specs.declared.places.TheConstants.{MARK}
use Rattle.block_queue.specs.declared.queue.Queue.{Queue}
use Rattle.block_queue.specs.declared.seats.PutSeat.{PutSeat}
use Rattle.block_queue.specs.declared.seats.TakeSeat.{TakeSeat}
use Rattle.block_queue.specs.declared.view.Key.{Key}
use Rattle.block_queue.specs.declared.view.Stage.{Stage}
use Rattle.block_queue.specs.declared.view.Stage.TheVariants.{Free, Counted, Placed, Storing}
use Rattle.block_queue.specs.declared.view.Stage.TheVariants.{Looking, Moving}
use Rattle.block_queue.specs.declared.view.View.{View}
use Rattle.block_queue.specs.Calls.{Puts, Takes, Stands, Refuses, IsFreshTake, blocks_in}
use Rattle.block_queue.specs.History.{opening_state, seat_of}
use Rattle.block_queue.specs.Meaning.{Enters, KnowsQueue, queue_after, queue_meaning}
use Rattle.block_queue.specs.Opening.{AreNewPutSeats, IsNewPutSeat, new_account}
use Rattle.block_queue.specs.Places.{free_word, stored_word, place_of}
use Rattle.block_queue.specs.Seats.{Stepper, IsStepperOf, IsFreeStepperOf, IsPutSeatOf}
use Rattle.block_queue.specs.Seats.{IsTakeSeatOf, IsSameSeat, put_view, take_view, put_account}
use Rattle.block_queue.specs.Steps.{Asked, Seated, HasEntered, HasPutTail, HasPutSequence}
use Rattle.block_queue.specs.Steps.{HasAccepted, HasStored, HasTakeReady, HasTakeTail}
use Rattle.block_queue.specs.Steps.{HasTakeSequence, HasFreed, HasHung, HasToHand}
use Rattle.block_queue.specs.Steps.{saw_hangup, staged_view}
use Rattle.block_queue.specs.Tries.{IsTakingOut, HasTakenOut}

-- ---- answers

module _ (key : Key) (writer number : ℕ) (block back : List ℕ) (old new : Account Entry) where
  what_is_taken_stands : Puts key writer block old new (put.Taken number)
      → Stands key writer block number old new
  what_is_taken_stands puts = puts

  it_was_taken_before_it_stood : (stands : Stands key writer block number old new)
      → Enters key (entry.Taken writer block number) old stands.between
      × Enters key (entry.Stood writer number) stands.between new
  it_was_taken_before_it_stood stands = (stands.taken, stands.stood)

  each_refusal_is_entered :
      (Puts key writer block old new (put.Full back number)
      → Refuses key (entry.Full writer block number) block back old new)
      × (Puts key writer block old new (put.Hungup back)
      → Refuses key (entry.Hungup writer block) block back old new)
      × (Puts key writer block old new (put.Worn back)
      → Enters key (entry.Worn writer block) old new)
  each_refusal_is_entered = (λ puts. puts, λ puts. puts, λ puts. puts.refused)

  each_take_is_entered :
      (Takes key old new (take.Block block writer number)
      → Enters key (entry.Block writer block number) old new)
      × (Takes key old new (take.NotYet number) → Enters key (entry.NotYet number) old new)
      × (Takes key old new take.End → Enters key entry.End old new)
  each_take_is_entered = (λ takes. takes, λ takes. takes, λ takes. takes)

  who_enters_knows_the_queue : Enters key entry.End old new
      → AddsEntry seat_of entry.End old new × KnowsQueue key new
  who_enters_knows_the_queue enters = (enters.adds, enters.knows)

  who_knows_the_queue_saw_a_legal_history : KnowsQueue key new
      → IsLegal (queue_meaning key.first) (opening_state key.limit) new.seen
  who_knows_the_queue_saw_a_legal_history knows = knows.history.legal

-- ---- steps of a put

module _ (key : Key) (made : Entry) (stage : Stage) (old new : View) where
  who_enters_stands_so : HasEntered key made stage old new
      → Enters key made old.account new.account × (new.stage ≡ stage) × (new.taken ≡ old.taken)
  who_enters_stands_so has = (has.enters, has.stage_is, has.taken_is)

module _ (asked : Asked) (before after : Seated) (found : ℕ) where
  module _ (has : HasPutTail asked before found after) where
    a_mark_tells_of_the_hangup : MARK ≤ found → HasEntered asked.key
        (entry.Hungup asked.write.writer asked.write.bytes) Free before.0 after.0
    a_mark_tells_of_the_hangup = has.hungup

    the_last_number_is_given : asked.key.first + found ≡ LAST_WRITE → HasEntered asked.key
        (entry.Worn asked.write.writer asked.write.bytes) Free before.0 after.0
    the_last_number_is_given = has.worn

    else_it_counts : found < MARK → asked.key.first + found ≢ LAST_WRITE
        → after.0 ≡ staged_view (Counted found) before.0
    else_it_counts = has.counted

    where_there_is_no_mark : found < MARK → (asked.key.first + found ≤ LAST_WRITE)
        × (saw_hangup asked.key before.0.account ≡ false) × (after.1 ≡ before.1)
    where_there_is_no_mark below = (has.given below, has.fresh below, has.slots)

  module _ (has : HasPutSequence asked before found after) where
    all_places_are_taken : found < free_word asked.key.limit asked.count → HasEntered asked.key
        (entry.Full asked.write.writer asked.write.bytes
        (asked.key.first + asked.count - asked.key.limit)) Free before.0 after.0
        × (asked.key.limit ≤ asked.count)
    all_places_are_taken below = (has.full below, has.room below)

    its_place_is_free : found ≡ free_word asked.key.limit asked.count
        → after.0 ≡ staged_view (Placed asked.count) before.0
    its_place_is_free = has.placed

    another_was_put_there : free_word asked.key.limit asked.count < found
        → (after.0 ≡ staged_view Free before.0) × (after.1 ≡ before.1)
    another_was_put_there above = (has.passed above, has.slots)

  module _ (has : HasAccepted asked before found after) where
    it_is_accepted : found ≡ asked.count → HasEntered asked.key
        (entry.Taken asked.write.writer asked.write.bytes (asked.key.first + asked.count + 1))
        (Storing asked.count asked.write.writer asked.write.bytes) before.0 after.0
        × (after.1 ≡ (place_of asked.key.limit asked.count, None) ∷ before.1)
    it_is_accepted same = (has.entered same, has.slots same)

    another_was_accepted : found ≢ asked.count → after ≡ (staged_view Free before.0, before.1)
    another_was_accepted = has.passed

  it_stands : HasStored asked before after → HasEntered asked.key
      (entry.Stood asked.write.writer (asked.key.first + asked.count + 1)) Free before.0 after.0
      × (after.1 ≡ table.rest before.1)
  it_stands has = (has.entered, has.slots)

-- ---- steps of a take, and a hangup

module _ (key : Key) (before after : Seated) (found : ℕ) where
  -- the seat has the slot of the next write
  abbrev IsMoving : Type 0
  IsMoving = (write : Write) × (after ≡ (
    staged_view (Moving write.writer write.bytes) before.0,
    (place_of key.limit before.0.taken, Some write) ∷ before.1,
  ))

  module _ (has : HasTakeReady key before found after) where
    the_next_is_ready : found ≡ stored_word key.limit before.0.taken → IsMoving
    the_next_is_ready = has.moving

    it_is_not_ready : found ≢ stored_word key.limit before.0.taken
        → (after ≡ before) × (before.0.taken < 2 ^ 62)
    it_is_not_ready other = (has.passed other, has.small)

  module _ (has : HasTakeTail key before found after) where
    all_is_taken_out : found ≡ before.0.taken + MARK
        → HasEntered key entry.End Free before.0 after.0 × (after.1 ≡ before.1)
    all_is_taken_out same = (has.ended same, has.slots)

    it_looks_on : found ≢ before.0.taken + MARK
        → (after.0 ≡ staged_view (Looking has.left) before.0) × (before.0.taken < 2 ^ 62)
    it_looks_on other = (has.looking other, has.small)

    who_saw_a_hangup_has_a_block_left : saw_hangup key before.0.account ≡ true → has.left ≡ true
    who_saw_a_hangup_has_a_block_left = has.fresh

  module _ (has : HasTakeSequence key before found after) where
    the_next_stands : found ≡ stored_word key.limit before.0.taken → IsMoving
    the_next_stands = has.moving

    module _ (other : found ≢ stored_word key.limit before.0.taken) where
      it_does_not_stand : HasEntered key (entry.NotYet (key.first + before.0.taken)) Free
          before.0 after.0
          × (after.1 ≡ before.1)
      it_does_not_stand = (has.not_yet other, has.same_slots other)

      but_one_is_left : before.0.stage ≡ Looking true
          → next_write (queue_after key after.0.account.seen).pipe ≢ None
      but_one_is_left = has.left other

  it_is_out : (write : Write) → HasFreed key write before after
      → Enters key (entry.Block write.writer write.bytes (key.first + before.0.taken + 1))
      before.0.account after.0.account
      × (after.0.stage ≡ Free) × (after.0.taken ≡ before.0.taken + 1)
      × (after.1 ≡ table.rest before.1)
  it_is_out write has = (has.enters, has.stage_is, has.taken_is, has.slots)

  it_is_hung_up : HasHung key before after
      → HasEntered key (entry.Hung before.0.account.number) Free before.0 after.0
      × (after.1 ≡ before.1)
  it_is_hung_up has = (has.entered, has.slots)

who_hands_over_is_the_reader : (view : View) (has : HasToHand view)
    → (view.account.shares ≡ has.own ∷ has.next ∷ has.others) × (has.own.number ≡ 0)
    × (0 < has.next.number) × (view.stage ≡ Free)
who_hands_over_is_the_reader view has = (has.shares_are, has.own_is, has.next_is, has.stage_is)

-- ---- seats

module _ (queue : Queue) (stepper after : Stepper) (taken : ℕ) where
  who_makes_steps_has_its_number : (number : ℕ) → IsStepperOf queue stepper number
      → (stepper.table_id ≡ queue.table.shared.table_id)
      × IsTrue (has_number stepper.me.0.account.shares number)
  who_makes_steps_has_its_number number is = (is.table, is.own)

  who_is_free_holds_nothing : (number : ℕ) → IsFreeStepperOf queue stepper number
      → (stepper.table_id ≡ queue.table.shared.table_id)
      × IsTrue (has_number stepper.me.0.account.shares number)
      × (stepper.me.0.account.number ≡ number) × (stepper.me.0.stage ≡ Free)
      × (stepper.me.1 ≡ [])
  who_is_free_holds_nothing number is = (is.table, is.own, is.number_is, is.stage, is.no_slot)

  who_takes_out_has_the_slot : (is : IsTakingOut queue taken stepper)
      → IsStepperOf queue stepper 0 × (stepper.me.0.account.number ≡ 0)
      × (taken ≡ stepper.me.0.taken) × (taken < 2 ^ 62)
      × (stepper.me.0.stage ≡ Moving is.write.writer is.write.bytes)
      × (stepper.me.1 ≡ (place_of queue.key.limit taken, Some is.write) ∷ [])
  who_takes_out_has_the_slot is =
      (is.stepper_is, is.number_is, is.taken_is, is.small, is.stage_is, is.slots_are)

  who_took_out_is_free : (answer : TakeAnswer) → HasTakenOut queue taken stepper after answer
      → IsFreeStepperOf queue after 0
      × Takes queue.key stepper.me.0.account after.me.0.account answer
      × IsFreshTake queue.key stepper.me.0.account after.me.0.account answer
      × (after.me.0.taken ≡ taken + blocks_in answer)
  who_took_out_is_free answer has = (has.free, has.answered, has.fresh, has.counted)

module _ (queue : Queue) where
  a_writers_seat : (seat : PutSeat) → IsPutSeatOf queue seat
      → (seat.badge.table_id ≡ queue.table.shared.table_id)
      × (seat.badge.views ≡ put_view seat ∷ []) × (seat.writer < queue.key.writers)
      × IsTrue (has_number (put_view seat).account.shares (seat.writer + 1))
      × ((put_view seat).account.number ≡ seat.writer + 1) × ((put_view seat).stage ≡ Free)
  a_writers_seat seat is = (is.table, is.views, is.writer_is, is.own, is.number_is, is.stage)

  the_readers_seat : (seat : TakeSeat) → IsTakeSeatOf queue seat
      → (seat.badge.table_id ≡ queue.table.shared.table_id)
      × (seat.badge.views ≡ take_view seat ∷ [])
      × IsTrue (has_number (take_view seat).account.shares 0)
      × ((take_view seat).account.number ≡ 0) × ((take_view seat).stage ≡ Free)
      × (seat.taken ≡ (take_view seat).taken)
  the_readers_seat seat is = (is.table, is.views, is.own, is.number_is, is.stage, is.taken)

  each_writer_gets_its_seat : (seats : List PutSeat) → AreNewPutSeats queue 2 seats
      → (length seats ≡ 2) × ((writer : ℕ) (seat : PutSeat)
      → slice_get seats writer ≡ Some seat → IsNewPutSeat queue writer seat)
  each_writer_gets_its_seat seats are = (are.count_is, are.each)

  a_new_seat_made_no_call : (writer : ℕ) (seat : PutSeat) → IsNewPutSeat queue writer seat
      → IsPutSeatOf queue seat × (seat.writer ≡ writer)
      × (put_account seat ≡ new_account (writer + 1))
  a_new_seat_made_no_call writer seat is = (is.seat_is, is.writer_is, is.account_is)

a_call_keeps_the_number : (old new : Account Entry) → IsSameSeat old new
    → (new.number ≡ old.number) × (new.gave ≡ old.gave)
a_call_keeps_the_number old new same = (same.number, same.gave)
