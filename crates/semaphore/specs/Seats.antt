-- What clauses see of a semaphore and of its seats.
use Rattle.std.specs.Prelude.{◌≡◌, ◌≤◌, ◌+◌, ℕ, Bool, true, false, List, [], ◌∷◌}
use Rattle.histories.specs.declared.account.Share.{Share}
use Rattle.sync_base.specs.declared.ids.RendezId.{RendezId}
use Rattle.rendez_words.specs.declared.words.Words.{Words}
use Rattle.rendez_words.specs.Words.{rendez_of}
use Rattle.sleep_wakeup.specs.Kernel.{Unused}
use Rattle.kernel_lock.specs.Seats.{IsSeatOf, SeesHistory, shares_of, number_of, opening_of}
use Rattle.kernel_lock.specs.Seats.{IsFirstSeat}
use Rattle.semaphore.specs.declared.sema.Sema.{Sema}
use Rattle.semaphore.specs.declared.sema.SemaSeat.{SemaSeat}
use Rattle.semaphore.specs.declared.sema_object.SemaCall.{SemaCall}
use Rattle.semaphore.specs.declared.sema_object.SemaCall.TheVariants.{Acquire, Collect, Leave}
use Rattle.semaphore.specs.declared.sema_object.SemaReply.{SemaReply}
use Rattle.semaphore.specs.declared.sema_object.SemaReply.TheVariants as reply
use Rattle.semaphore.specs.Definitions.{sema_definition}
use Rattle.semaphore.specs.Opening.{IsSemaLock}
use Rattle.semaphore.specs.SemaHistory.{SemaEntry, taken}

-- ---- semaphores

-- whether the seat waits, after a call of it that got this answer
abbrev pub waits_after : SemaCall → SemaReply → Bool → Bool
waits_after (Acquire seat) (reply.Wait count) before = true
waits_after (Collect seat) reply.Granted before = false
waits_after (Leave seat) reply.Granted before = false
waits_after (Leave seat) reply.Gone before = false
waits_after call answer before = before

-- whether the seat that made these calls waits
abbrev pub is_waiting : List SemaEntry → Bool
is_waiting [] = false
is_waiting (entry ∷ past) = waits_after entry.request entry.reply (is_waiting past)

-- the seat is one of the semaphore's and has one number; it has seen a legal history, with each of
-- its own calls in it once; and `waits` says whether it waits
pub record IsSeatAt (sema : Sema) (waits : Bool) (seat : SemaSeat) : Type 0 where
  pub opened : IsSemaLock sema.lock sema.procs
  pub seat_is : IsSeatOf sema.lock seat.seat
  pub history : SeesHistory sema_definition sema.lock seat.seat
  pub mine : List SemaEntry
  pub shares_are : shares_of seat.seat ≡ record { number = number_of seat.seat; mine = mine } ∷ []
  pub waits_is : is_waiting mine ≡ waits

-- between two calls of a process its seat does not wait
abbrev pub IsSemaSeatOf : Sema → SemaSeat → Type 0
IsSemaSeatOf sema seat = IsSeatAt sema false seat

-- the units at first
abbrev pub opening_value : Sema → ℕ
opening_value sema = (opening_of sema_definition sema.lock).value

-- the Rendez of the semaphore's seats are among these words
abbrev pub OwnsRow : Sema → Words → Type 0
OwnsRow sema words = sema.first + sema.procs ≤ rendez_of words

-- the Rendez of the seat with this number
abbrev pub rendez_of_seat : Sema → ℕ → RendezId
rendez_of_seat sema number = record { 0 = sema.first + number }

-- the Rendez of a seat
abbrev pub rendez_at : Sema → SemaSeat → RendezId
rendez_at sema seat = rendez_of_seat sema (number_of seat.seat)

-- the calls of a seat that has one number
abbrev pub own_of : {Entry : Type 0} → List (Share Entry) → List Entry
own_of [] = []
own_of (share ∷ shares) = share.mine

-- the units that its calls brought a seat
abbrev pub units_given : SemaSeat → ℕ
units_given seat = taken (own_of (shares_of seat.seat))

-- ---- how they are made

-- a new semaphore: it has this many units, its Rendez are the next ones, and its first seat has the
-- number 0 and has made no call
pub record IsNewSema (roster : Unused) (value procs : ℕ) (sema : Sema) (seat : SemaSeat) :
    Type 0 where
  pub value_is : opening_value sema ≡ value
  pub procs_are : sema.procs ≡ procs
  pub first_is : sema.first ≡ roster.rendez
  pub row : OwnsRow sema roster.words
  pub seat_is : IsSemaSeatOf sema seat
  pub first_seat : IsFirstSeat seat.seat
