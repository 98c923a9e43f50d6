-- Timers and when they expire.
use Rattle.std.proofs.Common.{◌≡◌, ◌⊎◌, inl, inr, ℕ, zero, suc, ◌+◌, ◌<◌, ◌≤◌, Bool, true, false}
use Rattle.std.proofs.Common.{if◌then◌else◌, List, [], ◌∷◌, Option, None, Some, length, map, get_or}
use Rattle.std.proofs.Common.{set, replicate, refl, sym, ap, ◌∙◌, subst, arith}
use Rattle.std.proofs.lemmas.Bool.Decides.{nat_tests}
use Rattle.std.proofs.lemmas.List.{set-get_or}
use Rattle.timer_list.specs.declared.due.Due.{Due}
use Rattle.timer_list.specs.declared.timer_object.Timer.{Timer}
use Rattle.timer_list.specs.declared.timer_object.Timer.TheVariants.{Unset, Set, Expired}
use Rattle.timer_list.specs.Due.{is_before, earlier_of, earliest}
use Rattle.timer_list.specs.declared.timer_object.TimerCall.TheVariants.{Expire}
use Rattle.timer_list.specs.declared.timer_object.TimerReply.{TimerReply}
use Rattle.timer_list.specs.declared.timer_object.TimerReply.TheVariants as reply
use Rattle.timer_list.specs.Timers.{due_of, dues_from, if_come, first_due, answer_to, after}
use Rattle.timer_list.specs.Timers.{timers_after, answer_first, after_first, answer_expired}
use Rattle.sync_base.specs.declared.ids.Pid.{Pid}

-- the earlier of two whose moment is come is the earlier of the two, if its moment is come
come_earlier : (now : ℕ) (a b : Option Due) → earlier_of (if_come now a) (if_come now b) ≡
    if_come now (earlier_of a b)
come_earlier now None b = refl
come_earlier now (Some a) None = grind (arith, nat_tests)
come_earlier now (Some a) (Some b) = grind (arith, nat_tests)

earliest_come : (now : ℕ) (dues : List (Option Due)) → earliest (map (if_come now) dues) ≡
    if_come now (earliest dues)
earliest_come now [] = refl
earliest_come now (due ∷ dues) =
    ap (earlier_of (if_come now due)) (earliest_come now dues) ∙
    come_earlier now due (earliest dues)

-- the first whose moment is come is the first of all, if its moment is come
pub first_of_all : (now : ℕ) (timers : List Timer) → first_due now timers ≡
    if_come now (earliest (dues_from 0 timers))
first_of_all now timers = earliest_come now (dues_from 0 timers)

-- there are as many moments as timers
pub length-dues_from : (seat : ℕ) (timers : List Timer) → length (dues_from seat timers) ≡
    length timers
length-dues_from seat [] = refl
length-dues_from seat (timer ∷ timers) = ap suc (length-dues_from (seat + 1) timers)

-- of timers that are all unset, none has a moment
pub dues_from-unset : (seat n : ℕ) → replicate n None ≡ dues_from seat (replicate n Unset)
dues_from-unset seat zero = refl
dues_from-unset seat (suc n) = ap (λ l. None ∷ l) (dues_from-unset (seat + 1) n)

get_or-dues_from : (seat : ℕ) (timers : List Timer) (i : ℕ) →
    get_or (dues_from seat timers) i None ≡ due_of (seat + i) (get_or timers i Unset)
get_or-dues_from seat [] i = refl
get_or-dues_from seat (timer ∷ timers) zero = ap (λ s. due_of s timer) (omega arith)
get_or-dues_from seat (timer ∷ timers) (suc i) =
    get_or-dues_from (seat + 1) timers i ∙ ap (λ s. due_of s (get_or timers i Unset)) (omega arith)

dues_from-set : (seat : ℕ) (timers : List Timer) (i : ℕ) (timer : Timer) →
    set (dues_from seat timers) i (due_of (seat + i) timer) ≡ dues_from seat (set timers i timer)
dues_from-set seat [] i timer = refl
dues_from-set seat (old ∷ timers) zero timer =
    ap (λ s. due_of s timer ∷ dues_from (seat + 1) timers) (omega arith)
dues_from-set seat (old ∷ timers) (suc i) timer =
    ap (λ l. due_of seat old ∷ l)
    (ap (λ s. set (dues_from (seat + 1) timers) i (due_of s timer)) (omega arith) ∙
    dues_from-set (seat + 1) timers i timer)

-- a timer is changed: so is when it expires, and nothing else
pub dues-set : (timers : List Timer) (i : ℕ) (timer : Timer) (dues : List (Option Due)) → dues ≡
    dues_from 0 timers → set dues i (due_of i timer) ≡ dues_from 0 (set timers i timer)
dues-set timers i timer dues are =
    ap (λ l. set l i (due_of i timer)) are
    ∙ (ap (λ s. set (dues_from 0 timers) i (due_of s timer)) (omega arith) ∙
    dues_from-set 0 timers i timer)

-- a timer that plays no part is changed for one that plays none
pub dues-same : (timers : List Timer) (i : ℕ) (timer : Timer) (dues : List (Option Due)) → dues ≡
    dues_from 0 timers → due_of i (get_or timers i Unset) ≡ due_of i timer → dues ≡
    dues_from 0 (set timers i timer)
dues-same timers i timer dues are same =
    are
    ∙ (sym (set-get_or (dues_from 0 timers) i None)
    ∙ (ap (set (dues_from 0 timers) i)
    (get_or-dues_from 0 timers i ∙
    (ap (λ s. due_of s (get_or timers i Unset)) (omega arith) ∙ same))
    ∙ dues-set timers i timer (dues_from 0 timers) refl))

-- where in a list of moments this one stands
pub record StandsAt (dues : List (Option Due)) (due : Due) : Type 0 where
  -- its place
  pub place : ℕ
  -- the place is in the list
  pub within : place < length dues
  -- and the moment stands there
  pub there : get_or dues place None ≡ Some due

earliest_stands : (dues : List (Option Due)) (due : Due) → earliest dues ≡ Some due →
    StandsAt dues due
earliest_stands [] due is = cc
earliest_stands (first ∷ dues) due is =
    stands (by first (earliest dues) is (earliest_stands dues due))
  where
    stands : (first ≡ Some due) ⊎ StandsAt dues due → StandsAt (first ∷ dues) due
    stands (inl here) = record { place = 0; within = omega arith; there = here }
    stands (inr found) =
        record {
          place = suc found.place;
          within = omega (arith, found.within);
          there = found.there;
        }

    by : (one rest : Option Due) → earlier_of one rest ≡ Some due →
        (rest ≡ Some due → StandsAt dues due) → (one ≡ Some due) ⊎ StandsAt dues due
    by None rest is later = inr (later is)
    by (Some a) None is later = inl is
    by (Some a) (Some b) is later = test (is_before b a) is
      where
        test : (t : Bool) → (if t then Some b else Some a) ≡ Some due →
            (Some a ≡ Some due) ⊎ StandsAt dues due
        test true is = inr (later is)
        test false is = inl is

-- a timer that expires at a known moment is set
pub record IsSet (timers : List Timer) (due : Due) : Type 0 where
  -- the seat is one of those that have timers
  pub within : due.seat < length timers
  -- the process that is told when it expires
  pub pid : Pid
  -- the seat's timer is set for that process, to that moment
  pub timer : get_or timers due.seat Unset ≡ Set pid due.deadline

set_of_due : (timers : List Timer) (place : ℕ) (due : Due) (timer : Timer) → timer ≡
    get_or timers place Unset → due_of place timer ≡ Some due → place < length timers →
    IsSet timers due
set_of_due timers place due (Set pid deadline) timer is within =
    let seat : place ≡ due.seat = ap seat_of is in
    let moment : deadline ≡ due.deadline = ap deadline_at is in
    record {
      within = subst (λ p. p < length timers) seat within;
      pid = pid;
      timer = ap (λ p. get_or timers p Unset) (sym seat) ∙ (sym timer ∙ ap (Set pid) moment);
    }
  where
    seat_of : Option Due → ℕ
    seat_of (Some d) = d.seat
    seat_of None = 0

    deadline_at : Option Due → ℕ
    deadline_at (Some d) = d.deadline
    deadline_at None = 0
set_of_due timers place due Unset timer is within = cc
set_of_due timers place due Expired timer is within = cc

-- the timer whose moment is the earliest of all is set, to that moment
pub earliest_is_set : (timers : List Timer) (due : Due) → earliest (dues_from 0 timers) ≡ Some due →
    IsSet timers due
earliest_is_set timers due is =
    let stands = earliest_stands (dues_from 0 timers) due is in
    let there : due_of stands.place (get_or timers stands.place Unset) ≡ Some due =
    ap (λ s. due_of s (get_or timers stands.place Unset)) (omega arith)
    ∙ (sym (get_or-dues_from 0 timers stands.place) ∙ stands.there) in
    set_of_due timers stands.place due (get_or timers stands.place Unset) refl there
    (subst (λ n. stands.place < n) (length-dues_from 0 timers) stands.within)

-- so is the first of the moments of these timers
pub due_is_set : (timers : List Timer) (dues : List (Option Due)) (due : Due) →
    dues ≡ dues_from 0 timers → Some due ≡ earliest dues → IsSet timers due
due_is_set timers dues due are is =
    earliest_is_set timers due (ap earliest (sym are) ∙ sym is)

-- what Expire answers and leaves
pub record Expires (timers : List Timer) (now : ℕ) (told : TimerReply) (left : List Timer) :
    Type 0 where
  -- the answer is the one of an Expire at this moment
  pub answer : told ≡ answer_to timers (Expire now)
  -- and so is what it leaves of the timers
  pub after : left ≡ after timers (Expire now)

-- where the earliest moment is not come, an Expire answers that none is due, and leaves the timers
pub expires_none : (timers : List Timer) (now : ℕ) (dues : List (Option Due))
    (first : Option Due) → dues ≡ dues_from 0 timers → first ≡ earliest dues →
    if_come now first ≡ None → Expires timers now reply.NoneDue timers
expires_none timers now dues first are is none =
    let due : first_due now timers ≡ None = first_of_all now timers ∙
    (ap (λ l. if_come now (earliest l)) (sym are) ∙ ap (if_come now) (sym is) ∙ none) in
    let answer : answer_to timers (Expire now) ≡ reply.NoneDue = ap (answer_first timers) due in
    record { answer = sym answer; after = sym (ap (timers_after timers (Expire now)) answer) }

-- where the earliest moment is come, an Expire names the process of that timer, and leaves it
-- expired
pub expires_one : (timers : List Timer) (now : ℕ) (dues : List (Option Due)) (due : Due)
    (pid : Pid) (deadline : ℕ) → dues ≡ dues_from 0 timers → Some due ≡ earliest dues →
    due.deadline ≤ now → get_or timers due.seat Unset ≡ Set pid deadline →
    Expires timers now (reply.Ended pid) (set timers due.seat Expired)
expires_one timers now dues due pid deadline are is come timer =
    let here : if_come now (Some due) ≡ Some due = grind (arith, nat_tests) in
    let first : first_due now timers ≡ Some due = first_of_all now timers ∙
    (ap (λ l. if_come now (earliest l)) (sym are) ∙ ap (if_come now) (sym is) ∙ here) in
    let answer : answer_to timers (Expire now) ≡ reply.Ended pid =
    ap (answer_first timers) first ∙ ap answer_expired timer in
    record {
      answer = sym answer;
      after = sym (ap (timers_after timers (Expire now)) answer ∙ ap (after_first timers) first);
    }
