-- Runs of calls that did what none may do, each against one row.
use Rattle.std.specs.Prelude.{⊤}
use Rattle.std.proofs.Common.{◌≡◌, ℕ, Result, Ok, Err, inl, inr, refl, arith}
use Rattle.histories.specs.History.{IsPast}
use Rattle.rendez_words.specs.Process.{Process}
use Rattle.sync_base.specs.declared.fault.Fault.{Fault}
use Rattle.sync_base.specs.declared.fault.Fault.TheVariants as fault
use Rattle.sync_base.specs.declared.ids.RendezId.{RendezId}
use Rattle.waiting.specs.Runners.{ComesToSame, IsACall, RunPoint, as_long_as_it_takes, over_at}
use Rattle.waiting.specs.Waiting.{BeginsToWait, Point, Promise, Waited, reply_of}

the_same_comes : ComesToSame {Out = ℕ} (Ok 7) (Ok 7)
    × ComesToSame {Out = ℕ} (Err fault.TimedOut) (Err fault.Worn)
the_same_comes = (refl, tt)

another_comes : ¬ ComesToSame {Out = ℕ} (Ok 7) (Ok 8)
another_comes same = omega (arith, same)

nothing_comes : ¬ ComesToSame {Out = ℕ} (Ok 7) (Err fault.TimedOut)
nothing_comes same = same

something_comes : ¬ ComesToSame {Out = ℕ} (Err fault.TimedOut) (Ok 7)
something_comes same = same

module _ {Seat Out : Type 0} (promise : Promise Seat Out) (rendez : RendezId) (before : Point Seat)
    (answer : Result Out Fault) (after : Point Seat) where
  -- what no call did is no call
  is_no_call : ((told : Result Out Fault) (process : Process)
      → ¬ Waited promise rendez before told (record { seat = after.seat; process = process }))
      → ¬ IsACall promise rendez before answer after
  is_no_call none is = none is.told is.process is.waited

  comes_to_another : ((told : Result Out Fault) → ¬ ComesToSame told answer)
      → ¬ IsACall promise rendez before answer after
  comes_to_another none is = none is.told is.same

  -- another process made the steps of its requests
  is_the_call_of_another : (is : IsACall promise rendez before answer after)
      → IsPast
      (over_at promise rendez before is.told (record { seat = after.seat; process = is.process })
      is.waited).trace after.process.trace
  is_the_call_of_another is = is.own

  -- one that is answered at once is over where it returns, and one that waits before notes are put
  -- back
  is_over_at_once : (begun : promise.begun before (reply_of answer) after)
      → over_at promise rendez before answer after (inl begun) ≡ after.process
  is_over_at_once begun = refl

  is_over_after_its_sleeps : (waits : BeginsToWait promise rendez before answer after)
      → over_at promise rendez before answer after (inr waits) ≡ waits.waited.process
  is_over_after_its_sleeps waits = refl

-- a run that waits as long as it takes is that wait, whatever timer it is lent
module _ {Seat Out : Type 0} (promise : Promise Seat Out) (rendez : RendezId)
    (old new : RunPoint ⊤ Seat) (answer : Result Out Fault) where
  runs_in_no_way : ¬ Waited promise rendez old.at answer new.at
      → ¬ as_long_as_it_takes.ran promise rendez old answer new
  runs_in_no_way none ran = none ran
