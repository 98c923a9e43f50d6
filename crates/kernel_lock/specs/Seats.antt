-- What clauses see of a lock and of its seats.
use Rattle.std.specs.Prelude.{◌≡◌, ℕ, List, [], ◌∷◌, IsTrue}
use Rattle.std.specs.Prelude.{Option, Some, None, IfSome, unwrap_or}
use Rattle.histories.specs.declared.account.Account.{Account}
use Rattle.histories.specs.declared.account.Share.{Share}
use Rattle.histories.specs.Account.{HasAllNumbers, KnowsHistory, has_number}
use Rattle.kernel_lock.specs.declared.lock_seat.LockSeat.{LockSeat}
use Rattle.kernel_lock.specs.declared.locked.Locked.{Locked}
use Rattle.kernel_lock.specs.declared.view.Operation.{Operation}
use Rattle.kernel_lock.specs.declared.view.Stage.TheVariants.{Outside}
use Rattle.kernel_lock.specs.declared.view.View.{View}
use Rattle.kernel_lock.specs.Calls.{IsNew, Serves, GivesSeat, RefusesSeat, JoinsSeats, EndsHistory}
use Rattle.kernel_lock.specs.Definition.{Definition, meaning_of, opening_state}
use Rattle.kernel_lock.specs.View.{head_view}

module _ {Object Call Reply : Type 0} where
  -- how many seats the lock may give
  abbrev pub limit_of : Locked Object Call Reply → ℕ
  limit_of lock = lock.table.shared.key.limit

  -- what the seat knows
  abbrev pub view_of : LockSeat Object Call Reply → View Object Call Reply
  view_of seat = head_view seat.badge.views

  -- the seat's account: its numbers with their requests, what it has seen, the numbers that it gave
  abbrev pub account_of : LockSeat Object Call Reply → Account (Operation Call Reply)
  account_of seat = (view_of seat).account

  -- the number under which the seat makes the requests that name no seat
  abbrev pub number_of : LockSeat Object Call Reply → ℕ
  number_of seat = seat.number

  -- the seat's numbers, each with its requests (its `mine`)
  abbrev pub shares_of : LockSeat Object Call Reply → List (Share (Operation Call Reply))
  shares_of seat = (account_of seat).shares

  -- the history as far as the seat has seen it, newest first
  abbrev pub seen_of : LockSeat Object Call Reply → List (Operation Call Reply)
  seen_of seat = (account_of seat).seen

  -- the numbers that the seat gave
  abbrev pub gave_of : LockSeat Object Call Reply → List ℕ
  gave_of seat = (account_of seat).gave

  -- how many seats the seat knows to have been given: the numbers below this one
  abbrev pub given_of : LockSeat Object Call Reply → ℕ
  given_of seat = (view_of seat).given

  -- the number is one of the seat's
  abbrev pub HasNumber : LockSeat Object Call Reply → ℕ → Type 0
  HasNumber seat number = IsTrue (has_number (shares_of seat) number)

  -- the seat has 0 and each number that it gave: all numbers that there are
  abbrev pub HasAll : LockSeat Object Call Reply → Type 0
  HasAll seat = HasAllNumbers (account_of seat)

  -- the seat is one of the lock's, and is between two calls; the table's own number of it, its
  -- badge's `id`, is named by no clause
  pub record IsSeatOf (lock : Locked Object Call Reply)
      (seat : LockSeat Object Call Reply) : Type 0 where
    pub table : seat.badge.table_id ≡ lock.table.shared.table_id
    pub views : seat.badge.views ≡ view_of seat ∷ []
    pub key : (view_of seat).key ≡ Some lock.table.shared.key
    pub stage : (view_of seat).stage ≡ Outside
    pub number : seat.number ≡ (account_of seat).number
    pub own : HasNumber seat seat.number

  -- the first seat of a new lock, which has given no number
  abbrev pub IsFirstSeat : LockSeat Object Call Reply → Type 0
  IsFirstSeat seat = IsNew 0 [] 1 (view_of seat)

  -- a split gave the child and changed nothing else
  abbrev pub Splits :
      Locked Object Call Reply → LockSeat Object Call Reply →
      LockSeat Object Call Reply → LockSeat Object Call Reply → Type 0
  Splits lock old new child =
      GivesSeat (limit_of lock) (view_of old) (view_of new) (view_of child)

  -- a split was refused: all seats were given, as far as the seat can know
  abbrev pub KnowsAllGiven :
      Locked Object Call Reply → LockSeat Object Call Reply →
      LockSeat Object Call Reply → Type 0
  KnowsAllGiven lock old new = RefusesSeat (limit_of lock) (view_of old) (view_of new)

  -- one seat was made of two
  abbrev pub Joins :
      LockSeat Object Call Reply → LockSeat Object Call Reply →
      LockSeat Object Call Reply → Type 0
  Joins first second joined = JoinsSeats (view_of first) (view_of second) (view_of joined)

module _ {Object State Call Reply : Type 0}
    (definition : Definition Object State Call Reply) where
  -- what the object meant when the lock was made
  abbrev pub opening_of : Locked Object Call Reply → State
  opening_of lock = opening_state definition lock.table.shared.key

  -- a request that names a seat names a number of this one
  abbrev pub NamesOwn : LockSeat Object Call Reply → Call → Type 0
  NamesOwn seat request = IfSome (definition.named request) (HasNumber seat)

  -- the request of this seat with its reply
  abbrev pub served_by : LockSeat Object Call Reply → Call → Reply → Operation Call Reply
  served_by seat request reply =
      record {
        by = unwrap_or (definition.named request) (number_of seat);
        request = request;
        reply = reply;
      }

  -- a request was served, with this reply
  abbrev pub Applies :
      LockSeat Object Call Reply → Call → Reply → LockSeat Object Call Reply → Type 0
  Applies old request reply new =
      Serves (served_by old request reply) (view_of old) (view_of new)

  -- what the seat has seen is a legal history from the opening on, with its own requests once each
  abbrev pub SeesHistory : Locked Object Call Reply → LockSeat Object Call Reply → Type 0
  SeesHistory lock seat =
      KnowsHistory (meaning_of definition) (opening_of lock) (limit_of lock) (account_of seat)

  -- two requests were served, the second right after the first: as by two calls, between which
  -- the seat is one of the lock's and no other request is made
  pub record AppliesBoth (lock : Locked Object Call Reply) (old : LockSeat Object Call Reply)
      (request next : Call) (reply answer : Reply) (new : LockSeat Object Call Reply)
      : Type 0 where
    pub between : LockSeat Object Call Reply
    pub seat : IsSeatOf lock between
    pub number : number_of between ≡ number_of old
    pub history : SeesHistory lock between
    pub first : Applies old request reply between
    pub second : Applies between next answer new
    pub at_once : seen_of new ≡ served_by between next answer ∷ seen_of between

  -- a request was served with this reply and, where a request follows it, that request too
  abbrev pub AppliesThen :
      Locked Object Call Reply → LockSeat Object Call Reply → Call → Reply → Option Call →
      Option Reply → LockSeat Object Call Reply → Type 0
  AppliesThen lock old request reply None None new = Applies old request reply new
  AppliesThen lock old request reply (Some next) (Some answer) new =
      AppliesBoth lock old request next reply answer new
  AppliesThen lock old request reply next answer new = ⊥

  -- the object is what one legal history leaves, of which all that the seat has seen is a past
  abbrev pub Closes :
      Locked Object Call Reply → LockSeat Object Call Reply → Object → Type 0
  Closes lock seat object =
      EndsHistory definition (opening_of lock) (limit_of lock) (view_of seat) object
