-- Refusals that no call of a queue answers: each against one row.
use Rattle.std.proofs.Common.{◌≡◌, ◌≢◌, ◌+◌, ℕ, List, [], ◌∷◌, true, true≢false, length, inl, inr}
use Rattle.std.proofs.Common.{refl, ap, sym, ◌∙◌, arith}
use Rattle.std.specs.Prelude.{None, get_or, map}
use Rattle.histories.specs.Account.{unused_share}
use Rattle.histories.specs.declared.account.Account.{Account}
use Rattle.histories.specs.declared.account.Share.{Share}
use Rattle.sync_base.specs.Pipe.{next_write}
use Rattle.block_queue.specs.declared.answers.PutAnswer.TheVariants as put
use Rattle.block_queue.specs.declared.answers.TakeAnswer.TheVariants as take
use Rattle.block_queue.specs.declared.put.PutAttempt.TheVariants.{Answered, Again}
use Rattle.block_queue.specs.declared.entry.Entry.{Entry}
use Rattle.block_queue.specs.declared.opening.Opened.{Opened}
use Rattle.block_queue.specs.declared.view.Key.{Key}
use Rattle.block_queue.specs.declared.view.View.{View}
use Rattle.sync_base.specs.declared.limits.TheConstants.{LAST_WRITE, MAX_PIPE_LIMIT, MAX_WRITERS}
use Rattle.block_queue.specs.Calls.{Refuses, IsFreshPut, IsFreshTake}
use Rattle.block_queue.specs.Meaning.{queue_after}
use Rattle.block_queue.specs.Opening.{IsBadQueue, IsBadFirst, Opens, AreNewPutSeats}
use Rattle.block_queue.specs.Opening.{reader_account}
use Rattle.block_queue.specs.Seats.{key_of, take_account, IsTakeSeatOf, Stepper, IsSameStepper}
use Rattle.block_queue.specs.Steps.{saw_hangup, HasToHand}
use Rattle.block_queue.specs.Tries.{IfAnswered, IfAgain, IsAgain, IsTaken}

module _ (key : Key) (old new : Account Entry) where
  a_refused_block_comes_back : (refusal : Entry) → ¬ Refuses key refusal (7 ∷ []) [] old new
  a_refused_block_comes_back refusal refuses =
      let none = ap (λ (bytes : List ℕ). length bytes) refuses.back_is in omega (arith, none)

  who_knew_of_the_hangup_is_not_told_full : saw_hangup key old ≡ true → (number : ℕ)
      → ¬ IsFreshPut key old (put.Full [] number)
  who_knew_of_the_hangup_is_not_told_full saw number fresh = true≢false (sym saw ∙ fresh)

  who_knew_of_the_hangup_awaits_no_write_that_is_not_there : saw_hangup key old ≡ true
      → next_write (queue_after key new.seen).pipe ≡ None → (number : ℕ)
      → ¬ IsFreshTake key old new (take.NotYet number)
  who_knew_of_the_hangup_awaits_no_write_that_is_not_there saw none number fresh = fresh saw none

-- ---- queues that are not made

no_queue_has_no_writer : IsBadQueue 1 0
no_queue_has_no_writer = inr (inl refl)

sizes_in_range_are_no_reason : ¬ IsBadQueue MAX_PIPE_LIMIT MAX_WRITERS
sizes_in_range_are_no_reason (inl (inl none)) = omega (arith, none)
sizes_in_range_are_no_reason (inl (inr many)) = omega (arith, many)
sizes_in_range_are_no_reason (inr (inl none)) = omega (arith, none)
sizes_in_range_are_no_reason (inr (inr many)) = omega (arith, many)

-- the sizes are tested before the first number
a_first_number_is_no_reason_before_the_sizes : ¬ IsBadFirst 0 1 (LAST_WRITE + 1)
a_first_number_is_no_reason_before_the_sizes bad = bad.sizes (inl (inl refl))

the_last_number_may_be_the_first : ¬ IsBadFirst 1 1 LAST_WRITE
the_last_number_may_be_the_first bad = let above = bad.above in omega (arith, above)

module _ (key : Key) (opened : Opened) where
  a_queue_of_other_sizes : key_of opened.queue ≢ key → ¬ Opens key opened
  a_queue_of_other_sizes other opens = other opens.key_is

  a_reader_that_was_at_work : take_account opened.take ≢ reader_account key.writers
      → ¬ Opens key opened
  a_reader_that_was_at_work other opens = other opens.account_is

  the_writers_seats_of_another_queue :
      ¬ AreNewPutSeats opened.queue key.writers opened.puts.items → ¬ Opens key opened
  the_writers_seats_of_another_queue other opens = other opens.puts_are

  the_readers_seat_of_another_queue : ¬ IsTakeSeatOf opened.queue opened.take → ¬ Opens key opened
  the_readers_seat_of_another_queue other opens = other opens.take_is

-- ---- what a round of a put came to

an_answer_is_told_of : ¬ IfAnswered (Answered (put.Taken 1)) (λ answer. ⊥)
an_answer_is_told_of told = told

a_block_that_goes_round_again_is_told_of : ¬ IfAgain (Again []) (λ back. ⊥)
a_block_that_goes_round_again_is_told_of told = told

an_answer_goes_round_no_more : ¬ IsAgain (Answered (put.Taken 1))
an_answer_goes_round_no_more it = it

full_is_not_taken : ¬ IsTaken (put.Full [] 1)
full_is_not_taken it = it

hungup_is_not_taken : ¬ IsTaken (put.Hungup [])
hungup_is_not_taken it = it

worn_is_not_taken : ¬ IsTaken (put.Worn [])
worn_is_not_taken it = it

-- a step leaves a seat at its table, and under its name there
module _ (before after : Stepper) where
  a_stepper_of_another_table : after.table_id ≢ before.table_id → ¬ IsSameStepper before after
  a_stepper_of_another_table other same = other same.table

  a_stepper_of_another_name : after.id ≢ before.id → ¬ IsSameStepper before after
  a_stepper_of_another_name other same = other same.id

-- the reader hands over no number that is its own
what_is_its_own_is_not_handed_over : (view : View)
    → view.account.shares ≡ unused_share 0 ∷ unused_share 0 ∷ [] → ¬ HasToHand view
what_is_its_own_is_not_handed_over view two has =
    let second = ap (λ (shares : List (Share Entry)).
    get_or (map (λ share. share.number) shares) 1 0) (sym two ∙ has.shares_are) in
    let above = has.next_is in
    omega (arith, second, above)
