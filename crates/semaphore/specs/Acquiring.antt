-- What semacquire promises. From semacquire(2). Own: the order of waiters, and that notes that came
-- with a unit are put back. How a call sleeps is the wait of all devices.
use Rattle.std.specs.Prelude.{◌≡◌, ℕ, ◌+◌, Bool, true, false, Option, Some, None, Result, Ok, Err}
use Rattle.kernel_lock.specs.Seats as lock
use Rattle.sync_base.specs.declared.fault.Fault.{Fault}
use Rattle.sync_base.specs.declared.fault.Fault.TheVariants as fault
use Rattle.semaphore.specs.declared.acquiring.Semacquired.{Semacquired}
use Rattle.semaphore.specs.declared.acquiring.Semacquired.TheVariants as got
use Rattle.semaphore.specs.declared.sema.Sema.{Sema}
use Rattle.semaphore.specs.declared.sema.SemaSeat.{SemaSeat}
use Rattle.semaphore.specs.declared.sema_object.SemaCall.TheVariants.{Acquire, AcquireNow}
use Rattle.semaphore.specs.declared.sema_object.SemaCall.TheVariants.{Collect, Leave}
use Rattle.semaphore.specs.declared.sema_object.SemaReply.TheVariants as told
use Rattle.semaphore.specs.Asking.{Asks, OnlyAsks, now_reply}
use Rattle.semaphore.specs.Seats.{rendez_at, units_given}
use Rattle.waiting.specs.declared.call.Reply.{Reply}
use Rattle.waiting.specs.declared.call.Reply.TheVariants as reply
use Rattle.waiting.specs.Waiting.{Promise, Point, Waited}

-- the number of a seat
abbrev pub number_of : SemaSeat → ℕ
number_of seat = lock.number_of seat.seat

-- ---- the requests of a call that waits

-- the first request: the seat has its unit, or is in line and waits for the grant after that count,
-- or its grants are worn out
abbrev pub Begins : Sema → Point SemaSeat → Reply Unit → Point SemaSeat → Type 0
Begins sema before (reply.Done unit) after =
    OnlyAsks sema false (Acquire (number_of before.seat)) told.Acquired before after
Begins sema before (reply.Wait count) after =
    OnlyAsks sema true (Acquire (number_of before.seat)) (told.Wait count) before after
Begins sema before (reply.Refused fault.Worn) after =
    OnlyAsks sema false (Acquire (number_of before.seat)) told.Worn before after
Begins sema before (reply.Refused why) after = ⊥

-- after a sleep it asks whether it was granted its unit
abbrev pub Collects : Sema → Point SemaSeat → Reply Unit → Point SemaSeat → Type 0
Collects sema before (reply.Done unit) after =
    OnlyAsks sema false (Collect (number_of before.seat)) told.Granted before after
Collects sema before (reply.Wait count) after =
    OnlyAsks sema true (Collect (number_of before.seat)) (told.Wait count) before after
Collects sema before (reply.Refused why) after = ⊥

-- and where a sleep failed it leaves the line, with a unit or without
abbrev pub Leaves : Sema → SemaSeat → Option Unit → SemaSeat → Type 0
Leaves sema before (Some unit) after =
    Asks sema false (Leave (number_of before)) told.Granted before after
Leaves sema before None after =
    Asks sema false (Leave (number_of before)) told.Gone before after

-- a call that takes a unit, as its wait asks the semaphore
abbrev pub acquiring : Sema → Promise SemaSeat Unit
acquiring sema = record { begun = Begins sema; asked = Collects sema; left = Leaves sema }

-- ---- the call

-- one unit where it was acquired, else none
abbrev pub units_of : Result Semacquired Fault → ℕ
units_of (Ok got.Acquired) = 1
units_of (Ok got.NotNow) = 0
units_of (Err why) = 0

-- a call that waits never answers that it got no unit now
abbrev pub Waits : Sema → Point SemaSeat → Result Semacquired Fault → Point SemaSeat → Type 0
Waits sema before (Ok got.Acquired) after =
    Waited (acquiring sema) (rendez_at sema before.seat) before (Ok tt) after
Waits sema before (Ok got.NotNow) after = ⊥
Waits sema before (Err why) after =
    Waited (acquiring sema) (rendez_at sema before.seat) before (Err why) after

-- a call that does not wait asks once, and returns the answer
abbrev pub AsksNow : Sema → Point SemaSeat → Result Semacquired Fault → Point SemaSeat → Type 0
AsksNow sema before (Ok got) after =
    OnlyAsks sema false (AcquireNow (number_of before.seat)) (now_reply got) before after
AsksNow sema before (Err why) after = ⊥

-- one or the other, by whether the call is to wait
abbrev pub Takes :
    Bool → Sema → Point SemaSeat → Result Semacquired Fault → Point SemaSeat → Type 0
Takes true = Waits
Takes false = AsksNow

-- a semacquire: the answer Acquired is exactly one unit that was given, and any other answer is
-- none
pub record Semacquires (block : Bool) (sema : Sema) (before : Point SemaSeat)
    (answer : Result Semacquired Fault) (after : Point SemaSeat) : Type 0 where
  pub units : units_given after.seat ≡ units_given before.seat + units_of answer
  pub takes : Takes block sema before answer after
