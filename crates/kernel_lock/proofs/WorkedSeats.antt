-- What the clauses of a lock's calls tell of its seats, in plain words.
use Rattle.std.proofs.Common.{◌≡◌, ◌≢◌, ◌<◌, ◌∷◌, ◌∙◌, ap, Some, IsTrue}
use Rattle.std.specs.Prelude.{max}
use Rattle.histories.specs.Account.{has_number}
use Rattle.kernel_lock.specs.declared.lock_seat.LockSeat.{LockSeat}
use Rattle.kernel_lock.specs.declared.locked.Locked.{Locked}
use Rattle.kernel_lock.specs.Definition.{Definition}
use Rattle.kernel_lock.specs.Seats.{limit_of, shares_of, seen_of, given_of, view_of}
use Rattle.kernel_lock.specs.Steppers.{Stepper, IsSameStepper}
use Rattle.kernel_lock.specs.Seats.{AppliesBoth, number_of}
use Rattle.kernel_lock.specs.Seats.{HasAll, Splits, KnowsAllGiven, Joins, Applies, served_by}

module _ {Object Call Reply : Type 0}
    (lock : Locked Object Call Reply) (old new other : LockSeat Object Call Reply) where
  who_has_all_has_the_first : HasAll old → IsTrue (has_number (shares_of old) 0)
  who_has_all_has_the_first all = all.first

  a_child_is_below_the_limit : Splits lock old new other
      → (view_of other).account.number < limit_of lock
  a_child_is_below_the_limit splits = splits.limit_is

  who_is_refused_knows_of_all : KnowsAllGiven lock old new → given_of new ≡ limit_of lock
  who_is_refused_knows_of_all refused = ap (λ view. view.given) refused.same

  the_joined_know_what_either_knew : Joins old other new
      → given_of new ≡ max (given_of old) (given_of other)
  the_joined_know_what_either_knew joins = joins.given

module _ {Object State Call Reply : Type 0}
    (definition : Definition Object State Call Reply)
    (old new : LockSeat Object Call Reply) (request : Call) (reply : Reply) where
  what_was_served_is_the_newest : (applies : Applies definition old request reply new)
      → seen_of new ≡ served_by definition old request reply ∷ applies.account.past
  what_was_served_is_the_newest applies = ap (λ account. account.seen) applies.account.new_is

-- two requests in one hold of the lock: the second is the seat's newest, and right after it stands
-- the first, which it made under the same number where neither names another
module _ {Object State Call Reply : Type 0}
    (definition : Definition Object State Call Reply) (lock : Locked Object Call Reply)
    (old new : LockSeat Object Call Reply) (request next : Call) (reply answer : Reply)
    (both : AppliesBoth definition lock old request next reply answer new) where
  the_first_follows_at_once :
      seen_of new ≡ served_by definition both.between next answer
      ∷ served_by definition old request reply ∷ both.first.account.past
  the_first_follows_at_once =
      both.at_once
      ∙ ap (λ seen. served_by definition both.between next answer ∷ seen)
      (ap (λ account. account.seen) both.first.account.new_is)

  the_second_is_its_newest :
      seen_of new ≡ served_by definition both.between next answer ∷ both.second.account.past
  the_second_is_its_newest = ap (λ account. account.seen) both.second.account.new_is

  it_has_its_number_between : number_of both.between ≡ number_of old
  it_has_its_number_between = both.number

  it_is_the_locks_between : (view_of both.between).key ≡ Some lock.table.shared.key
  it_is_the_locks_between = both.seat.key

-- a step leaves a seat at its table, and under its name there
module _ {Object Call Reply : Type 0} (before after : Stepper Object Call Reply) where
  a_seat_of_another_table : after.table_id ≢ before.table_id → ¬ IsSameStepper before after
  a_seat_of_another_table other same = other same.table

  a_seat_of_another_name : after.id ≢ before.id → ¬ IsSameStepper before after
  a_seat_of_another_name other same = other same.id
