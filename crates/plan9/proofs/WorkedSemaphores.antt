-- What is no semaphore, no seat at one and no reason to refuse one: each against one row of what
-- the calls of a semaphore say. And when a process may call.
use Rattle.std.proofs.Common.{◌≡◌, ◌≢◌, ◌<◌, ℕ, true, false, List, [], ◌∷◌, ◌++◌, length}
use Rattle.std.proofs.Common.{◌∙◌, ap, arith, inl, inr, refl, subst, sym, Some, None, Result, Ok}
use Rattle.std.proofs.Common.{Err}
use Rattle.std.specs.List.{AllByRecursion}
use Rattle.sync_base.specs.declared.fault.Fault.{Fault}
use Rattle.sync_base.specs.declared.fault.Fault.TheVariants as fault
use Rattle.kernel_lock.specs.Seats.{number_of, account_of, given_of, limit_of, Splits}
use Rattle.sleep_wakeup.specs.Kernel.{Running, Unused}
use Rattle.semaphore.specs.declared.acquiring.Semacquired.TheVariants as sema
use Rattle.semaphore.specs.declared.sema.Sema.{Sema}
use Rattle.semaphore.specs.declared.sema.SemaSeat.{SemaSeat}
use Rattle.semaphore.specs.Seats.{IsSemaSeatOf}
use Rattle.plan9.specs.Known.{IfKnown}
use Rattle.plan9.specs.Semaphores.{Seating, Seated, EndsBefore, IsSpareOf, IsNew, IsFirst}
use Rattle.plan9.specs.Semaphores.{IsFurther, IsSameSeat, KnowsNoSeat, GivesSeat, AreSeats, MaySeat}
use Rattle.plan9.specs.Semaphores.{WhyNoSeats, got, got_now, seat_point}
use Rattle.plan9.specs.Chains.{Chain, RunsOut}
use Rattle.plan9.specs.Watches.{Watching}
use Rattle.plan9.proofs.ChainLemmas.{all_in_chain}

-- ---- who may call

-- a call that answers a number, where it may be made, and does nothing where it may not
abbrev knows : Type 0 → Result ℕ Fault → Type 0 → Type 0 → Type 0
knows = IfKnown {A = ℕ}

module _ (May Nothing Called : Type 0) where
  -- a process that may call is refused as one of another kernel, or does something else
  refused_by_its_own_kernel : May → ¬ knows May (Err fault.NoRendez) Nothing Called
  refused_by_its_own_kernel may known = known.no_rendez.0 refl may

  no_call_of_who_may : May → ¬ Called → ¬ knows May (Ok 7) Nothing Called
  no_call_of_who_may may none known = none (known.called may)

  -- one of another kernel gets an answer, is refused for something else, or does something
  a_stranger_gets_an_answer : ¬ May → ¬ knows May (Ok 7) Nothing Called
  a_stranger_gets_an_answer stranger known = let no = known.no_rendez.1 stranger in cc

  a_stranger_is_told_of_memory : ¬ May → ¬ knows May (Err fault.Memory) Nothing Called
  a_stranger_is_told_of_memory stranger known = let no = known.no_rendez.1 stranger in cc

  a_stranger_does_something : ¬ May → ¬ Nothing → ¬ knows May (Err fault.NoRendez) Nothing Called
  a_stranger_does_something stranger something known = something (known.refused stranger)

-- ---- a semaphore, and its first seat

module _ (semaphore : Sema) (seat : SemaSeat) where
  -- a seat is spare that is one of another semaphore, and a row begins elsewhere or is shorter
  a_seat_of_another_semaphore : ¬ IsSemaSeatOf semaphore seat → ¬ IsSpareOf semaphore (Some seat)
  a_seat_of_another_semaphore other spare = other spare

  a_semaphore_of_another_row : semaphore.first ≡ 4 → semaphore.procs ≡ 2
      → ¬ EndsBefore semaphore 5
  a_semaphore_of_another_row first procs row = omega (arith, first, procs, row)

  a_semaphore_of_fewer : semaphore.first ≡ 3 → semaphore.procs ≡ 1 → ¬ EndsBefore semaphore 5
  a_semaphore_of_fewer first procs row = omega (arith, first, procs, row)

module _ (seating : Seating) (seated : Seated) where
  -- somebody has the first seat of a new semaphore
  first_seat_is_gone : (roster : Unused) → seating.spare ≡ None → ¬ IsNew roster 1 2 seating
  first_seat_is_gone roster none (seat, opened, spare) = cc

  -- the first seat is one of another semaphore, or of its own making
  first_elsewhere : seated.sema ≢ seating.sema → ¬ IsFirst seating seated
  first_elsewhere other first = other first.sema_is

  first_where_somebody_was : seating.spare ≡ None → ¬ IsFirst seating seated
  first_where_somebody_was none first = let seat = first.seat_is in cc

-- ---- a call, and another seat

module _ (old new child : Seated) where
  -- a call moves to another semaphore, or to another seat
  call_elsewhere : new.sema ≢ old.sema → ¬ IsSameSeat old new
  call_elsewhere other same = other same.sema_is

  call_with_another_seat : number_of new.seat.seat ≢ number_of old.seat.seat → ¬ IsSameSeat old new
  call_with_another_seat other same = other same.number_is

  -- a seat is of another semaphore, was not split off, or its parent does not know of it
  further_elsewhere : child.sema ≢ old.sema → ¬ IsFurther old new child
  further_elsewhere other further = other further.sema_is

  further_and_not_split_off : ¬ Splits old.sema.lock old.seat.seat new.seat.seat child.seat.seat
      → ¬ IsFurther old new child
  further_and_not_split_off none further = none further.given

  further_after_its_parent : length (account_of new.seat.seat).gave
      ≡ length (account_of old.seat.seat).gave
      → ¬ IsFurther old new child
  further_after_its_parent same further =
      let gave = ap (λ account. length account.gave) further.given.account.parent_is in
      omega (arith, same, gave)

  -- all seats were given, and the one that asked does not know it
  nobody_knows : given_of new.seat.seat < limit_of old.sema.lock → ¬ KnowsNoSeat old new
  nobody_knows fewer knows =
      let given = ap (λ view. view.given) knows.same in omega (arith, fewer, given)

  -- a seat that gives another is another then, or gives none
  given_by_another_seat : ¬ IsSameSeat old new → ¬ GivesSeat old new child
  given_by_another_seat other gives = other gives.same

  given_and_not_further : ¬ IsFurther old new child → ¬ GivesSeat old new child
  given_and_not_further none gives = none gives.further

-- the unit is told as it was got, or a refusal as it is
a_unit_is_got : got (Ok tt) ≡ Ok sema.Acquired
a_unit_is_got = refl

a_refusal_is_told : got (Err fault.Worn) ≡ Err fault.Worn
a_refusal_is_told = refl

a_unit_is_got_now : got_now true ≡ Ok sema.Acquired
a_unit_is_got_now = refl

no_unit_is_got_now : got_now false ≡ Ok sema.NotNow
no_unit_is_got_now = refl

-- the timer of a call is that of its watch, its seat that of who calls
seat_stands : (seated : Seated) (watch : Watching) (proc : Running) → seat_point seated watch proc
    ≡ record {
      at = record { seat = seated.seat; process = proc.process };
      timer = watch.seat;
    }
seat_stands seated watch proc = refl

-- ---- many at once

module _ (first last seat : Seated) where
  -- a seat is given to nobody, by a seat that gives none, or after the last one
  a_seat_for_nobody : last ≢ first → ¬ Chain GivesSeat [] first last
  a_seat_for_nobody other chain = other chain

  a_seat_that_was_not_given : ((next : Seated) → ¬ GivesSeat first seat next)
      → ¬ Chain GivesSeat (seat ∷ []) first last
  a_seat_that_was_not_given none (next, gives, rest) = none next gives

  a_seat_after_the_last : ((next : Seated) → GivesSeat first seat next → last ≢ next)
      → ¬ Chain GivesSeat (seat ∷ []) first last
  a_seat_after_the_last other (next, gives, rest) = other next gives rest

-- who was given before has the smaller number
numbers_rise : (first giver next other last : Seated) → GivesSeat first giver next
    → GivesSeat next other last
    → (account_of next.seat.seat).number < (account_of last.seat.seat).number
numbers_rise first giver next other last gives again =
    let given = gives.further.given.child_given in
    let later = again.further.given.later in
    omega (arith, given, later)

module _ (seating : Seating) (seated : Seated) where
  -- as many as were asked for, the first one first, and each given by the one before it
  one_is_one : (count : ℕ) → AreSeats seating count (seated ∷ []) → 1 ≡ count
  one_is_one count are = are.count_is

  the_first_is_the_first : ((first : Seated) → ¬ IsFirst seating first)
      → ¬ AreSeats seating 1 (seated ∷ [])
  the_first_is_the_first none are = none are.first are.first_is

  no_other_seat_was_given :
      ((givers : List Seated) (first last : Seated) → ¬ Chain GivesSeat givers first last)
      → ¬ AreSeats seating 1 (seated ∷ [])
  no_other_seat_was_given none are = none are.givers are.first are.last are.chain

  the_last_is_the_last : (are : AreSeats seating 1 (seated ∷ []))
      → seated ∷ [] ≡ are.givers ++ are.last ∷ []
  the_last_is_the_last are = are.seats_are

  -- each is at the semaphore
  each_is_at_the_semaphore : (count : ℕ) (seats : List Seated) → AreSeats seating count seats
      → AllByRecursion (λ seat. seat.sema ≡ seating.sema) seats
  each_is_at_the_semaphore count seats are =
      subst (λ its. AllByRecursion (λ seat. seat.sema ≡ seating.sema) its) (sym are.seats_are)
      (all_in_chain GivesSeat (λ seat. seat.sema ≡ seating.sema)
      (λ old new child gives at. (gives.same.sema_is ∙ at, gives.further.sema_is ∙ at))
      are.givers are.first are.last are.chain are.first_is.sema_is)

  -- nobody may have none, or more than there are
  no_seat_is_no_seat : ¬ MaySeat seating 0
  no_seat_is_no_seat may = let one = may.one in omega (arith, one)

  three_of_two_seats : seating.sema.procs ≡ 2 → ¬ MaySeat seating 3
  three_of_two_seats two may = let within = may.within in omega (arith, two, within)

-- ---- and why there are none

module _ (seating : Seating) where
  -- all are given though there are as many as were asked for, after no seats, or to no refusal
  it_runs_out_though_all_are_there : ¬ RunsOut GivesSeat (IsFirst seating) KnowsNoSeat 1
  it_runs_out_though_all_are_there out = let fewer = out.fewer in omega (arith, fewer)

  it_runs_out_of_no_first : ((first : Seated) → ¬ IsFirst seating first)
      → ¬ RunsOut GivesSeat (IsFirst seating) KnowsNoSeat 3
  it_runs_out_of_no_first none out = none out.first out.first_is

  it_runs_out_after_no_seats :
      ((givers : List Seated) (first before : Seated) → ¬ Chain GivesSeat givers first before)
      → ¬ RunsOut GivesSeat (IsFirst seating) KnowsNoSeat 3
  it_runs_out_after_no_seats none out = none out.givers out.first out.before out.chain

  it_runs_out_at_no_refusal : ((before after : Seated) → ¬ KnowsNoSeat before after)
      → ¬ RunsOut GivesSeat (IsFirst seating) KnowsNoSeat 3
  it_runs_out_at_no_refusal none out = none out.before out.after out.none

  -- so many are refused as too many though the first is there and none was refused; for want of
  -- memory though they are too many; and there is no other reason
  refused_though_all_are_there : MaySeat seating 1 → seating.spare ≢ None
      → ¬ WhyNoSeats seating 1 fault.NoProc
  refused_though_all_are_there may there (inl many) = many may
  refused_though_all_are_there may there (inr (again, inl none)) = there none
  refused_though_all_are_there may there (inr (again, inr out)) =
      it_runs_out_though_all_are_there out

  no_memory_excuses_the_count : ¬ MaySeat seating 3 → ¬ WhyNoSeats seating 3 fault.Memory
  no_memory_excuses_the_count many may = many may

  no_seats_for_a_bad_argument : ¬ WhyNoSeats seating 3 fault.BadArg
  no_seats_for_a_bad_argument why = why
