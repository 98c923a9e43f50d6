-- What clauses see of a semaphore, and of the seats at it.
use Rattle.std.specs.Prelude.{◌≡◌, ◌+◌, ⊤, ℕ, Bool, if◌then◌else◌, List}
use Rattle.std.specs.Prelude.{Option, Some, None, Result, Ok, Err}
use Rattle.sync_base.specs.declared.fault.Fault.{Fault}
use Rattle.kernel_lock.specs.Seats.{number_of, Splits, KnowsAllGiven}
use Rattle.sleep_wakeup.specs.Kernel.{Running, Unused}
use Rattle.semaphore.specs.declared.acquiring.Semacquired.{Semacquired}
use Rattle.semaphore.specs.declared.acquiring.Semacquired.TheVariants as sema
use Rattle.semaphore.specs.declared.sema.Sema.{Sema}
use Rattle.semaphore.specs.declared.sema.SemaSeat.{SemaSeat}
use Rattle.semaphore.specs.Seats.{IsNewSema, IsSemaSeatOf}
use Rattle.timer_list.specs.Timing.{TimedPoint}
use Rattle.waiting.specs.Runners.{run_point}
use Rattle.plan9.specs.Chains.{AreChained, MayHave, WhyNotMany}
use Rattle.plan9.specs.Watches.{Watching}

-- a semaphore, and the first seat as long as nobody has it
pub record Seating : Type 0 where
  pub sema : Sema
  pub spare : Option SemaSeat

-- a seat at a semaphore
pub record Seated : Type 0 where
  pub sema : Sema
  pub seat : SemaSeat

-- this is the Rendez behind the last one of the semaphore
abbrev pub EndsBefore : Sema → ℕ → Type 0
EndsBefore sema beyond = sema.first + sema.procs ≡ beyond

-- nobody has the seat, or it is one of the semaphore's that does not wait
abbrev pub IsSpareOf : Sema → Option SemaSeat → Type 0
IsSpareOf sema None = ⊤
IsSpareOf sema (Some seat) = IsSemaSeatOf sema seat

-- a new semaphore, whose first seat nobody has
abbrev pub IsNew : Unused → ℕ → ℕ → Seating → Type 0
IsNew roster value procs seating =
    (seat : SemaSeat) × IsNewSema roster value procs seating.sema seat
    × (seating.spare ≡ Some seat)

-- ---- who has a seat

-- the seat that nobody had
pub record IsFirst (seating : Seating) (seated : Seated) : Type 0 where
  pub sema_is : seated.sema ≡ seating.sema
  pub seat_is : Some seated.seat ≡ seating.spare

-- the same seat at the same semaphore
pub record IsSameSeat (old new : Seated) : Type 0 where
  pub sema_is : new.sema ≡ old.sema
  pub number_is : number_of new.seat.seat ≡ number_of old.seat.seat

-- a seat of the same semaphore that was given to no other
pub record IsFurther (old new child : Seated) : Type 0 where
  pub sema_is : child.sema ≡ old.sema
  pub given : Splits old.sema.lock old.seat.seat new.seat.seat child.seat.seat

-- all seats were given, as far as the seat can know
abbrev pub KnowsNoSeat : Seated → Seated → Type 0
KnowsNoSeat old new = KnowsAllGiven old.sema.lock old.seat.seat new.seat.seat

-- ---- many at once

-- a seat gives another
pub record GivesSeat (old new child : Seated) : Type 0 where
  pub same : IsSameSeat old new
  pub further : IsFurther old new child

-- so many seats: the first one, and each other given by the one before it
abbrev pub AreSeats : Seating → ℕ → List Seated → Type 0
AreSeats seating = AreChained GivesSeat (IsFirst seating)

-- one or more are asked for, and no more than the semaphore has
abbrev pub MaySeat : Seating → ℕ → Type 0
MaySeat seating = MayHave seating.sema.procs

-- why there are no seats
abbrev pub WhyNoSeats : Seating → ℕ → Fault → Type 0
WhyNoSeats seating =
    WhyNotMany GivesSeat (IsFirst seating) KnowsNoSeat (seating.spare ≡ None) seating.sema.procs

-- ---- a call

-- the answer of semacquire where it waits
abbrev pub got : Result ⊤ Fault → Result Semacquired Fault
got (Ok unit) = Ok sema.Acquired
got (Err fault) = Err fault

-- and the answer where it does not
abbrev pub got_now : Bool → Result Semacquired Fault
got_now now = Ok (if now then sema.Acquired else sema.NotNow)

-- the state of a call with a watch
abbrev pub seat_point : Seated → Watching → Running → TimedPoint SemaSeat
seat_point seated watch proc = run_point seated.seat watch.seat proc
