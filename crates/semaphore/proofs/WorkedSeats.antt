-- What is no lock of a semaphore and no seat of one: each against one row.
use Rattle.std.proofs.Common.{◌≡◌, ◌≢◌, ◌<◌, ◌≤◌, ◌+◌, ◌^◌, ℕ, Bool, true, false, List}
use Rattle.std.proofs.Common.{[], ◌∷◌, length, refl, ap, sym, ◌∙◌, arith}
use Rattle.std.specs.Prelude.{count_by, slice_index_or}
use Rattle.rendez_words.specs.declared.words.Words.{Words}
use Rattle.rendez_words.specs.Words.{rendez_of}
use Rattle.kernel_lock.specs.declared.locked.Locked.{Locked}
use Rattle.kernel_lock.specs.Seats.{IsSeatOf, SeesHistory, shares_of, limit_of, opening_of}
use Rattle.semaphore.specs.declared.limits.TheConstants.{MAX_VALUE}
use Rattle.semaphore.specs.declared.sema.Sema.{Sema}
use Rattle.semaphore.specs.declared.sema.SemaSeat.{SemaSeat}
use Rattle.semaphore.specs.declared.sema_object.SemaCall.{SemaCall}
use Rattle.semaphore.specs.declared.sema_object.SemaCall.TheVariants.{Acquire, Collect, Leave}
use Rattle.semaphore.specs.declared.sema_object.SemaReply.{SemaReply}
use Rattle.semaphore.specs.declared.sema_object.SemaReply.TheVariants as reply
use Rattle.semaphore.specs.Definitions.{sema_definition}
use Rattle.semaphore.specs.Opening.{IsSemaLock}
use Rattle.semaphore.specs.WaitQueue.{IsRing, IsLinked, AreSeats, stands_in}
use Rattle.semaphore.specs.Seats.{IsSeatAt, OwnsRow, is_waiting, own_of}
use Rattle.semaphore.specs.SemaHistory.{SemaEntry, taken}
use Rattle.semaphore.specs.Units.{SemaState}
use Rattle.semaphore.proofs.Broken.{entry}

-- ---- locks

module _ (lock : Locked SemaState SemaCall SemaReply) where
  a_lock_with_other_seats : limit_of lock ≢ 3 → ¬ IsSemaLock lock 3
  a_lock_with_other_seats other of_it = other of_it.limit

  module _ (of_it : IsSemaLock lock 3) where
    its_value_fits : of_it.value ≤ MAX_VALUE
    its_value_fits = of_it.fits

    it_opens_with_its_value : (opening_of sema_definition lock).value ≡ of_it.value
    it_opens_with_its_value = ap (λ (state : SemaState). state.value) of_it.opening_is

-- ---- seats

module _ (sema : Sema) (waits : Bool) (seat : SemaSeat) where
  a_seat_of_no_semaphore : ¬ IsSemaLock sema.lock sema.procs → ¬ IsSeatAt sema waits seat
  a_seat_of_no_semaphore none at = none at.opened

  a_seat_of_another_lock : ¬ IsSeatOf sema.lock seat.seat → ¬ IsSeatAt sema waits seat
  a_seat_of_another_lock other at = other at.seat_is

  a_seat_that_saw_no_history : ¬ SeesHistory sema_definition sema.lock seat.seat
      → ¬ IsSeatAt sema waits seat
  a_seat_that_saw_no_history none at = none at.history

  a_seat_without_a_number : shares_of seat.seat ≡ [] → ¬ IsSeatAt sema waits seat
  a_seat_without_a_number none at =
      let one = ap (λ shares. length shares) (sym none ∙ at.shares_are) in omega (arith, one)

  who_made_no_call_waits_for_nothing : (at : IsSeatAt sema waits seat) → at.mine ≡ []
      → false ≡ waits
  who_made_no_call_waits_for_nothing at none = sym (ap is_waiting none) ∙ at.waits_is

  a_row_past_the_last_rendez : (words : Words) → rendez_of words < sema.first + sema.procs
      → ¬ OwnsRow sema words
  a_row_past_the_last_rendez words past row = omega (arith, past, row)

-- whether a seat waits, by its own calls
own_calls_tell : (is_waiting (entry 0 (Acquire 0) (reply.Wait 0) ∷ []) ≡ true)
    × (is_waiting (entry 0 (Collect 0) reply.Granted ∷ entry 0 (Acquire 0) (reply.Wait 0) ∷ []) ≡
    false)
    × (is_waiting (entry 0 (Leave 0) reply.Granted ∷ entry 0 (Acquire 0) (reply.Wait 0) ∷ []) ≡
    false)
    × (is_waiting (entry 0 (Leave 0) reply.Gone ∷ entry 0 (Acquire 0) (reply.Wait 0) ∷ []) ≡ false)
    × (is_waiting (entry 0 (Collect 0) (reply.Wait 0) ∷ entry 0 (Acquire 0) (reply.Wait 0) ∷ []) ≡
    true)
own_calls_tell = (refl, refl, refl, refl, refl)

-- a seat without a call was given nothing, and one with a call what that brought
the_units_of_a_seat : (taken (own_of {Entry = SemaEntry} []) ≡ 0)
    × (taken (own_of (record { number = 3; mine = entry 3 (Acquire 3) reply.Acquired ∷ [] } ∷ []))
    ≡ 1)
the_units_of_a_seat = (refl, refl)

-- ---- sizes

no_seat_stands_after_the_last : ¬ AreSeats 2 (2 ∷ [])
no_seat_stands_after_the_last are = let below = are.0 in omega (arith, below)

-- the links lead from after two seats in line to the first, the second, and back
two_seats_are_linked : IsLinked (1 ∷ 2 ∷ 0 ∷ []) (2 ∷ 0 ∷ 1 ∷ []) 2 (0 ∷ 1 ∷ []) 2
two_seats_are_linked = (refl, (refl, (refl, (refl, (refl, refl)))))

module _ (next prev : List ℕ) (stands : List Bool) (order : List ℕ)
    (ring : IsRing next prev stands 1 order) where
  a_ring_has_room_for_each : (length stands < 2 ^ 32) × (length next ≡ length stands + 1)
      × (length prev ≡ length stands + 1) × AreSeats (length stands) order
  a_ring_has_room_for_each = (ring.few, ring.next_size, ring.prev_size, ring.seats)

  a_ring_holds_who_stands : (length order ≡ 1) × (count_by (λ stand. stand) stands ≡ 1)
      × IsLinked next prev (length stands) order (length stands)
      × ((seat : ℕ) → seat < length stands
      → slice_index_or stands seat false ≡ stands_in order seat)
  a_ring_holds_who_stands = (ring.many, ring.counted, ring.linked, ring.told)
