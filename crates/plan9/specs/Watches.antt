-- What clauses see of a clock, and of a seat at its timers.
use Rattle.std.specs.Prelude.{◌≡◌, ⊤, ℕ, List, Option, Some, None}
use Rattle.sync_base.specs.declared.fault.Fault.{Fault}
use Rattle.kernel_lock.specs.Seats.{number_of, Splits, KnowsAllGiven}
use Rattle.sleep_wakeup.specs.Kernel.{Running}
use Rattle.timer_list.specs.declared.timers.Timers.{Timers}
use Rattle.timer_list.specs.declared.timers.TimerSeat.{TimerSeat}
use Rattle.timer_list.specs.Seats.{AreNewTimers, IsTimerSeatOf}
use Rattle.timer_list.specs.Timing.{TimedPoint, timed_throughout}
use Rattle.waiting.specs.Runners.{Runs, run_point}
use Rattle.plan9.specs.Chains.{AreChained, MayHave, WhyNotMany}

-- a clock: its timers, and the first seat as long as nobody has it
pub record Clocked : Type 0 where
  pub timers : Timers
  pub spare : Option TimerSeat

-- a seat, with its timers
pub record Watching : Type 0 where
  pub timers : Timers
  pub seat : TimerSeat

-- nobody has the seat, or it is one of the timers' seats with its timer cancelled
abbrev pub IsSpareTimer : Timers → Option TimerSeat → Type 0
IsSpareTimer timers None = ⊤
IsSpareTimer timers (Some seat) = IsTimerSeatOf timers seat

-- timers for this many processes, and this is nobody's seat, or one of theirs that nobody has
pub record IsClock (timers : Timers) (seat : Option TimerSeat) (procs : ℕ) : Type 0 where
  pub procs_are : timers.procs ≡ procs
  pub spare : IsSpareTimer timers seat

-- a clock of new timers, whose first seat nobody has
abbrev pub IsNewClock : ℕ → Clocked → Type 0
IsNewClock procs clock =
    (seat : TimerSeat) × AreNewTimers procs clock.timers seat × (clock.spare ≡ Some seat)

-- the first seat, which nobody had
pub record IsFirstWatch (clock : Clocked) (watch : Watching) : Type 0 where
  pub timers_are : watch.timers ≡ clock.timers
  pub seat_is : Some watch.seat ≡ clock.spare

-- the same seat at the same timers
pub record IsSameWatch (old new : Watching) : Type 0 where
  pub timers_are : new.timers ≡ old.timers
  pub number_is : number_of new.seat.seat ≡ number_of old.seat.seat

-- a seat of the same timers that was given to no other
pub record IsFurtherWatch (old new child : Watching) : Type 0 where
  pub timers_are : child.timers ≡ old.timers
  pub given : Splits old.timers.lock old.seat.seat new.seat.seat child.seat.seat

-- all seats were given, as far as the seat can know
abbrev pub KnowsNoWatch : Watching → Watching → Type 0
KnowsNoWatch old new = KnowsAllGiven old.timers.lock old.seat.seat new.seat.seat

-- ---- many at once

-- a watch gives another
pub record GivesWatch (old new child : Watching) : Type 0 where
  pub same : IsSameWatch old new
  pub further : IsFurtherWatch old new child

-- so many watches: the first one, and each other given by the one before it
abbrev pub AreWatches : Clocked → ℕ → List Watching → Type 0
AreWatches clock = AreChained GivesWatch (IsFirstWatch clock)

-- one or more are asked for, and no more than the clock has
abbrev pub MayWatch : Clocked → ℕ → Type 0
MayWatch clock = MayHave clock.timers.procs

-- why there are no watches
abbrev pub WhyNoWatches : Clocked → ℕ → Fault → Type 0
WhyNoWatches clock =
    WhyNotMany GivesWatch (IsFirstWatch clock) KnowsNoWatch (clock.spare ≡ None)
    clock.timers.procs

-- ---- the state of a call with a watch

-- the state of a sleep of a process alone
abbrev pub watched_sleeper : Running → Watching → TimedPoint Unit
watched_sleeper proc watch = run_point tt watch.seat proc

-- ---- a call with a watch

-- it waits until this moment, at the timers of the watch, with its timer set before its sleeps for
-- its device and cancelled after them
abbrev pub until : Watching → ℕ → Runs TimerSeat
until watch moment = timed_throughout watch.timers moment
