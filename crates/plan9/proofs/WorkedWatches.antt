-- What is no clock, no watch and no reason to refuse one: each against one row of what the calls of
-- a clock say. And where a call with a watch stands.
use Rattle.std.proofs.Common.{◌≡◌, ◌≢◌, ◌<◌, List, [], ◌∷◌, length, ap, arith, inl, inr}
use Rattle.std.proofs.Common.{None, Some, Result, refl, ℕ}
use Rattle.kernel_lock.specs.Seats.{number_of, account_of, given_of, limit_of, Splits}
use Rattle.sync_base.specs.declared.fault.Fault.{Fault}
use Rattle.sync_base.specs.declared.fault.Fault.TheVariants as fault
use Rattle.sync_base.specs.declared.ids.RendezId.{RendezId}
use Rattle.sleep_wakeup.specs.Kernel.{Running}
use Rattle.timer_list.specs.declared.timers.Timers.{Timers}
use Rattle.timer_list.specs.declared.timers.TimerSeat.{TimerSeat}
use Rattle.timer_list.specs.Seats.{IsTimerSeatOf}
use Rattle.timer_list.specs.Timing.{TimedPoint, TimedThroughout}
use Rattle.waiting.specs.Waiting.{Promise}
use Rattle.plan9.specs.Chains.{Chain, RunsOut}
use Rattle.plan9.specs.Watches.{Clocked, Watching, IsClock, IsSpareTimer, IsNewClock, IsFirstWatch}
use Rattle.plan9.specs.Watches.{IsSameWatch, IsFurtherWatch, KnowsNoWatch, GivesWatch}
use Rattle.plan9.specs.Watches.{AreWatches, MayWatch, WhyNoWatches, watched_sleeper, until}

module _ (timers : Timers) (seat : TimerSeat) where
  -- a seat is spare that is one of other timers, and timers are of fewer processes
  a_seat_of_other_timers : ¬ IsTimerSeatOf timers seat → ¬ IsSpareTimer timers (Some seat)
  a_seat_of_other_timers other spare = other spare

  timers_of_fewer : timers.procs ≢ 2 → ¬ IsClock timers None 2
  timers_of_fewer other clock = other clock.procs_are

  a_clock_with_a_seat_of_other_timers : ¬ IsTimerSeatOf timers seat
      → ¬ IsClock timers (Some seat) 2
  a_clock_with_a_seat_of_other_timers other clock = other clock.spare

module _ (clock : Clocked) (watch : Watching) where
  -- somebody has the first seat of a new clock
  first_seat_is_gone : clock.spare ≡ None → ¬ IsNewClock 2 clock
  first_seat_is_gone none (seat, timers, spare) = cc

  -- the first seat is one of other timers, or is had again
  first_at_other_timers : watch.timers ≢ clock.timers → ¬ IsFirstWatch clock watch
  first_at_other_timers other first = other first.timers_are

  first_where_somebody_was : clock.spare ≡ None → ¬ IsFirstWatch clock watch
  first_where_somebody_was none first = let seat = first.seat_is in cc

module _ (old new child : Watching) where
  -- a call goes to other timers, or with another seat
  call_at_other_timers : new.timers ≢ old.timers → ¬ IsSameWatch old new
  call_at_other_timers other same = other same.timers_are

  call_with_another_seat : number_of new.seat.seat ≢ number_of old.seat.seat
      → ¬ IsSameWatch old new
  call_with_another_seat other same = other same.number_is

  -- a further seat is one of other timers, one that was not split off, or one of which the first
  -- does not know
  further_at_other_timers : child.timers ≢ old.timers → ¬ IsFurtherWatch old new child
  further_at_other_timers other further = other further.timers_are

  further_and_not_split_off : ¬ Splits old.timers.lock old.seat.seat new.seat.seat child.seat.seat
      → ¬ IsFurtherWatch old new child
  further_and_not_split_off none further = none further.given

  further_after_the_first : length (account_of new.seat.seat).gave
      ≡ length (account_of old.seat.seat).gave
      → ¬ IsFurtherWatch old new child
  further_after_the_first same further =
      let gave = ap (λ account. length account.gave) further.given.account.parent_is in
      omega (arith, same, gave)

  -- all seats were given, and the one that asked does not know it
  nobody_knows : given_of new.seat.seat < limit_of old.timers.lock → ¬ KnowsNoWatch old new
  nobody_knows fewer knows =
      let given = ap (λ view. view.given) knows.same in omega (arith, fewer, given)

  -- a watch that gives another is another then, or gives none
  given_by_another_watch : ¬ IsSameWatch old new → ¬ GivesWatch old new child
  given_by_another_watch other gives = other gives.same

  given_and_not_further : ¬ IsFurtherWatch old new child → ¬ GivesWatch old new child
  given_and_not_further none gives = none gives.further

-- the timer of a call is that of its watch
sleeper_stands : (watch : Watching) (proc : Running) → watched_sleeper proc watch
    ≡ record { at = record { seat = tt; process = proc.process }; timer = watch.seat }
sleeper_stands watch proc = refl

-- ---- many at once

module _ (clock : Clocked) (watch : Watching) where
  -- as many as were asked for, the first one first, and each given by the one before it
  one_is_one : (count : ℕ) → AreWatches clock count (watch ∷ []) → 1 ≡ count
  one_is_one count are = are.count_is

  the_first_is_the_first : ((first : Watching) → ¬ IsFirstWatch clock first)
      → ¬ AreWatches clock 1 (watch ∷ [])
  the_first_is_the_first none are = none are.first are.first_is

  no_other_watch_was_given :
      ((givers : List Watching) (first last : Watching) → ¬ Chain GivesWatch givers first last)
      → ¬ AreWatches clock 1 (watch ∷ [])
  no_other_watch_was_given none are = none are.givers are.first are.last are.chain

  -- nobody may have none, or more than there are
  no_watch_is_no_watch : ¬ MayWatch clock 0
  no_watch_is_no_watch may = let one = may.one in omega (arith, one)

  three_of_two_watches : clock.timers.procs ≡ 2 → ¬ MayWatch clock 3
  three_of_two_watches two may = let within = may.within in omega (arith, two, within)

  -- so many are refused as too many though the first is there and none was refused; for want of
  -- memory though they are too many; and there is no other reason
  it_runs_out_though_all_are_there : ¬ RunsOut GivesWatch (IsFirstWatch clock) KnowsNoWatch 1
  it_runs_out_though_all_are_there out = let fewer = out.fewer in omega (arith, fewer)

  refused_though_all_are_there : MayWatch clock 1 → clock.spare ≢ None
      → ¬ WhyNoWatches clock 1 fault.NoProc
  refused_though_all_are_there may there (inl many) = many may
  refused_though_all_are_there may there (inr (again, inl none)) = there none
  refused_though_all_are_there may there (inr (again, inr out)) =
      it_runs_out_though_all_are_there out

  no_memory_excuses_the_count : ¬ MayWatch clock 3 → ¬ WhyNoWatches clock 3 fault.Memory
  no_memory_excuses_the_count many may = many may

  no_watches_for_a_bad_argument : ¬ WhyNoWatches clock 3 fault.BadArg
  no_watches_for_a_bad_argument why = why

-- ---- a call with a watch

module _ (watch : Watching) (moment : ℕ) where
  -- it did not wait until that moment at those timers, with its timer whenever it slept
  runs_in_no_way : {Seat Out : Type 0} (promise : Promise Seat Out) (rendez : RendezId)
      (old new : TimedPoint Seat) (answer : Result Out Fault)
      → ¬ TimedThroughout promise rendez watch.timers moment old answer new
      → ¬ (until watch moment).ran promise rendez old answer new
  runs_in_no_way promise rendez old new answer waited ran = waited ran
