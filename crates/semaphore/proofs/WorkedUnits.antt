-- Runs of semaphores, computed from the definitions alone, and histories that are none.
use Rattle.std.proofs.Common.{◌≡◌, ◌⊎◌, ◌<◌, ◌≤◌, ◌+◌, ℕ, true, false, List, [], ◌∷◌, length}
use Rattle.std.proofs.Common.{Some, inl, inr, refl, arith}
use Rattle.histories.specs.History.{state_after, IsLegal}
use Rattle.semaphore.specs.declared.limits.TheConstants.{MAX_VALUE, LAST_GRANT}
use Rattle.semaphore.specs.declared.sema_object.Stage.TheVariants.{Idle, Waiting, Granted}
use Rattle.semaphore.specs.declared.sema_object.SemaCall.{SemaCall}
use Rattle.semaphore.specs.declared.sema_object.SemaCall.TheVariants.{Acquire, AcquireNow, Release}
use Rattle.semaphore.specs.declared.sema_object.SemaCall.TheVariants.{NextWake, Collect, Leave}
use Rattle.semaphore.specs.declared.sema_object.SemaReply.{SemaReply}
use Rattle.semaphore.specs.declared.sema_object.SemaReply.TheVariants as reply
use Rattle.semaphore.specs.Units.{SemaState, IsSound, opening, answer_to, after, passed, grants_of}
use Rattle.semaphore.specs.Units.{stage_of}
use Rattle.semaphore.specs.WaitQueue.{Queue, stands_in, with_seat, without, first_of, AreSeats}
use Rattle.semaphore.specs.SemaHistory.{SemaEntry, sema_meaning, released, taken, collected}
use Rattle.semaphore.specs.SemaHistory.{uncollected, last_named}
use Rattle.semaphore.specs.SemaLaws.{UnitsAddUp, NobodyWaitsForNothing, EachGrantIsNamed}
use Rattle.semaphore.proofs.Broken.{entry, loses_a_granted_unit, gives_a_unit_twice}
use Rattle.semaphore.proofs.Broken.{grants_out_of_order, passes_the_limit, adds_what_it_refused}

-- the limits
the_limits : (MAX_VALUE ≡ 2147483647) × (LAST_GRANT ≡ 18446744073709551614)
the_limits = (refl, refl)

-- what calls are answered, one after another
replies : SemaState → List SemaCall → List SemaReply
replies s [] = []
replies s (call ∷ calls) = answer_to s call ∷ replies (after s call) calls

units_are_taken_and_released : replies (opening 0 1 0) (AcquireNow 0 ∷ Release 3 ∷ Acquire 0 ∷
    Acquire 0 ∷ Acquire 0 ∷ AcquireNow 0 ∷ Release 2147483647 ∷ Release 1 ∷ Acquire 0 ∷ Release 1 ∷
    Release 0 ∷ []) ≡ reply.NotNow ∷ reply.Value 3 ∷ reply.Acquired ∷ reply.Acquired ∷
    reply.Acquired ∷ reply.NotNow ∷ reply.Value 2147483647 ∷ reply.BadArg ∷ reply.Acquired ∷
    reply.Value 2147483647 ∷ reply.Value 2147483647 ∷ []
unfolding replies passed
units_are_taken_and_released = refl

a_release_grants_units_in_the_order_of_arrival :
    replies (opening 0 3 0) (Acquire 0 ∷ Acquire 1 ∷ Release 3 ∷ NextWake ∷ NextWake ∷ NextWake ∷
    Collect 0 ∷ Leave 1 ∷ Acquire 2 ∷ AcquireNow 2 ∷ []) ≡ reply.Wait 0 ∷ reply.Wait 0 ∷
    reply.Value 3 ∷ reply.Wake 0 1 ∷ reply.Wake 1 1 ∷ reply.NoWake ∷ reply.Granted ∷ reply.Granted ∷
    reply.Acquired ∷ reply.NotNow ∷ []
unfolding replies passed
a_release_grants_units_in_the_order_of_arrival = refl

who_leaves_the_line_is_passed_over : replies (opening 0 3 0) (Acquire 2 ∷ Acquire 0 ∷ Acquire 2 ∷
    AcquireNow 0 ∷ Leave 2 ∷ Leave 2 ∷ Collect 0 ∷ Release 1 ∷ Collect 0 ∷ Acquire 3 ∷ Collect 3 ∷
    Leave 3 ∷ AcquireNow 3 ∷ []) ≡ reply.Wait 0 ∷ reply.Wait 0 ∷ reply.Busy ∷ reply.Busy ∷
    reply.Gone ∷ reply.Gone ∷ reply.Wait 0 ∷ reply.Value 1 ∷ reply.Granted ∷ reply.Busy ∷
    reply.Busy ∷ reply.Busy ∷ reply.Busy ∷ []
unfolding replies passed
who_leaves_the_line_is_passed_over = refl

-- seat 0 is granted a second unit before it is named, and stands once, with its latest count
a_seat_is_named_once : replies (opening 0 2 0) (Acquire 0 ∷ Acquire 1 ∷ Release 1 ∷ Collect 0 ∷
    Acquire 0 ∷ Release 2 ∷ NextWake ∷ NextWake ∷ NextWake ∷ []) ≡ reply.Wait 0 ∷ reply.Wait 0 ∷
    reply.Value 1 ∷ reply.Granted ∷ reply.Wait 1 ∷ reply.Value 2 ∷ reply.Wake 0 2 ∷ reply.Wake 1 1 ∷
    reply.NoWake ∷ []
unfolding replies passed
a_seat_is_named_once = refl

worn_grants : replies (opening 0 1 18446744073709551614) (Acquire 0 ∷ AcquireNow 0 ∷ Release 1 ∷
    Acquire 0 ∷ []) ≡ reply.Worn ∷ reply.NotNow ∷ reply.Value 1 ∷ reply.Acquired ∷ []
unfolding replies passed
worn_grants = refl

-- a history, newest first, and what it adds up to
day : List SemaEntry
day =
    entry 0 (Collect 0) reply.Granted
    ∷ entry 2 (Release 3) (reply.Value 3)
    ∷ entry 1 (Acquire 1) (reply.Wait 0)
    ∷ entry 0 (Acquire 0) (reply.Wait 0)
    ∷ []

the_day_adds_up : (released day ≡ 3) × (taken day ≡ 1) × (collected 0 day ≡ 1) ×
    (collected 1 day ≡ 0)
unfolding day
the_day_adds_up = (refl, refl, refl, refl)

the_day_leaves : state_after sema_meaning (opening 0 3 0) day ≡ record {
  value = 1;
  stages = Idle ∷
      Granted ∷ Idle ∷ [];
  grants = 1 ∷ 1 ∷ 0 ∷ [];
  waiters = [];
  unnamed = 0 ∷ 1 ∷ [];
}
unfolding day passed
the_day_leaves = refl

-- none of the histories that break a law is legal
no_unit_is_lost : IsLegal sema_meaning (opening 0 3 0) loses_a_granted_unit → ⊥
unfolding passed
no_unit_is_lost legal = let clash : reply.Gone ≡ reply.Granted = legal.0.reply in cc

no_unit_is_given_twice : IsLegal sema_meaning (opening 0 3 0) gives_a_unit_twice → ⊥
unfolding passed
no_unit_is_given_twice legal = let clash : reply.Acquired ≡ reply.NotNow = legal.0.reply in cc

nobody_is_passed_over : IsLegal sema_meaning (opening 0 3 0) grants_out_of_order → ⊥
unfolding passed
nobody_is_passed_over legal = let clash : reply.Granted ≡ reply.Wait 0 = legal.0.reply in cc

no_release_passes_the_limit : IsLegal sema_meaning (opening 0 3 0) passes_the_limit → ⊥
unfolding passed
no_release_passes_the_limit legal = let clash : reply.Value 2147483648 ≡ reply.BadArg =
    legal.0.reply in cc

no_refused_release_adds : IsLegal sema_meaning (opening 0 3 0) adds_what_it_refused → ⊥
unfolding passed
no_refused_release_adds legal = let clash : reply.Acquired ≡ reply.NotNow = legal.0.reply in cc

-- ---- a state that a semaphore can be in

module _ (s : SemaState) (sound : IsSound s) where
  a_sound_state_has_its_sizes : (s.value ≤ MAX_VALUE) × (length s.grants ≡ length s.stages)
      × AreSeats (length s.stages) s.waiters × AreSeats (length s.stages) s.unnamed
  a_sound_state_has_its_sizes = (sound.value, sound.counted, sound.waiters, sound.unnamed)

  who_stands_in_line_waits : (seat : ℕ)
      → (stands_in s.waiters seat ≡ true → stage_of s seat ≡ Waiting)
      × (stage_of s seat ≡ Waiting → stands_in s.waiters seat ≡ true)
      × (stands_in s.waiters seat ≡ true → grants_of s seat < LAST_GRANT)
      × (grants_of s seat ≤ LAST_GRANT)
  who_stands_in_line_waits seat =
      (sound.waits seat, sound.stands seat, sound.may_wait seat, sound.fits seat)

-- ---- what the laws forbid of three seats and one unit

module _ (past : List SemaEntry) (legal : IsLegal sema_meaning (opening 1 3 0) past) where
  abbrev left : SemaState
  left = state_after sema_meaning (opening 1 3 0) past

  units_are_neither_lost_nor_made : UnitsAddUp
      → left.value + taken past + uncollected left.stages ≡ 1 + released past
  units_are_neither_lost_nor_made law = law 1 3 0 past (omega arith) (omega arith) legal

  no_seat_waits_beside_a_unit : NobodyWaitsForNothing → left.value ≡ 1 → left.waiters ≡ []
  no_seat_waits_beside_a_unit law one = by (law 1 3 0 past (omega arith) (omega arith) legal)
    where
      by : (left.value ≡ 0) ⊎ (left.waiters ≡ []) → left.waiters ≡ []
      by (inl none) = absurd (omega (arith, one, none))
      by (inr none) = none

  seat_1_is_named_with_its_latest_count : EachGrantIsNamed → 1 < length left.stages
      → stands_in left.unnamed 1 ≡ false → grants_of left 1 ≡ last_named 0 1 past
  seat_1_is_named_with_its_latest_count law =
      law 1 3 0 past (omega arith) (omega arith) legal 1

-- ---- a line of waiters

-- of four seats the third came first, and then the second
line : Queue
line = record { seats = 4; order = 2 ∷ 1 ∷ [] }

who_comes_stands_last : with_seat 3 line.order ≡ 2 ∷ 1 ∷ 3 ∷ []
unfolding line
who_comes_stands_last = refl

who_comes_again_keeps_its_place : with_seat 2 line.order ≡ line.order
unfolding line
who_comes_again_keeps_its_place = refl

who_leaves_is_in_line_no_more : without 2 line.order ≡ 1 ∷ []
unfolding line
who_leaves_is_in_line_no_more = refl

who_came_first_is_first : first_of line.order ≡ Some 2
unfolding line
who_came_first_is_first = refl

-- and all of them are seats
the_line_is_of_seats : AreSeats line.seats line.order
unfolding line
the_line_is_of_seats = (omega arith, refl, (omega arith, refl, tt))
