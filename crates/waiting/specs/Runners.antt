-- How calls are run. Own: as long as it takes, or until a moment; what holds of the first runner
-- holds of any.
use Rattle.std.specs.Prelude.{◌≡◌, ⊤, Result, Ok, Err}
use Rattle.std.proofs.Common.{inl, inr}
use Rattle.histories.specs.History.{IsPast}
use Rattle.rendez_words.specs.Process.{Process}
use Rattle.sleep_wakeup.specs.Kernel.{Running}
use Rattle.sync_base.specs.declared.fault.Fault.{Fault}
use Rattle.sync_base.specs.declared.ids.RendezId.{RendezId}
use Rattle.waiting.specs.Waiting.{Promise, Point, Waited, point}

-- the state of a run: the call, and the timer that the runner is lent
pub record RunPoint (Timer Seat : Type 0) : Type 0 where
  pub at : Point Seat
  pub timer : Timer

abbrev pub run_point : {Timer Seat : Type 0} → Seat → Timer → Running → RunPoint Timer Seat
run_point seat timer proc = record { at = point seat proc; timer = timer }

-- what a runner does with any call: from which state to which state, by the answer
pub record Runs (Timer : Type 0) : Type 1 where
  pub ran : {Seat Out : Type 0} → Promise Seat Out → RendezId → RunPoint Timer Seat
      → Result Out Fault → RunPoint Timer Seat → Type 0

-- it waits as long as it takes
abbrev pub as_long_as_it_takes : Runs ⊤
as_long_as_it_takes =
    record { ran = λ promise rendez old answer new. Waited promise rendez old.at answer new.at }

-- ---- as a call that waits as long as it takes

-- the two answers are the same result, or neither is a result
abbrev pub ComesToSame : {Out : Type 0} → Result Out Fault → Result Out Fault → Type 0
ComesToSame (Ok one) (Ok other) = other ≡ one
ComesToSame (Err why) (Err other) = ⊤
ComesToSame one other = ⊥

module _ {Seat Out : Type 0} (promise : Promise Seat Out) (rendez : RendezId)
    (before : Point Seat) where
  -- where the process of a call was when its last request or its last sleep was over: it has put no
  -- notes back
  abbrev pub over_at : (answer : Result Out Fault) (after : Point Seat)
      → Waited promise rendez before answer after → Process
  over_at answer after (inl begun) = after.process
  over_at answer after (inr waits) = waits.waited.process

  -- A call without a deadline does to its seat what this call did, and comes to the same result or
  -- likewise to none: so the laws of a device's calls hold of it.
  pub record IsACall (answer : Result Out Fault) (after : Point Seat) : Type 0 where
    pub told : Result Out Fault
    pub process : Process
    pub waited : Waited promise rendez before told
        (record { seat = after.seat; process = process })
    pub same : ComesToSame told answer
    -- the steps of its requests and sleeps are the caller's own, which has gone on since
    pub own : IsPast
        (over_at told (record { seat = after.seat; process = process }) waited).trace
        after.process.trace
