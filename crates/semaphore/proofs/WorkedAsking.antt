-- What is no request of a seat, no answer to one, and no call of a semaphore: each against one row.
use Rattle.std.proofs.Common.{◌≡◌, ◌≢◌, ◌<◌, ◌+◌, ℕ, Bool, true, false, List, [], ◌∷◌, length}
use Rattle.std.proofs.Common.{Some, None, Result, Ok, Err, inl, inr, refl, sym, ap, ◌∙◌, ◌++◌}
use Rattle.std.proofs.Common.{arith, not}
use Rattle.std.proofs.lemmas.List.{length-append}
use Rattle.histories.specs.declared.account.Account.{Account}
use Rattle.kernel_lock.specs.Seats.{number_of, seen_of}
use Rattle.rendez_words.specs.Process.{Process}
use Rattle.rendez_words.specs.Steps.{raises}
use Rattle.sleep_wakeup.specs.Calls.{Ends}
use Rattle.sync_base.specs.declared.fault.Fault.{Fault}
use Rattle.sync_base.specs.declared.fault.Fault.TheVariants as fault
use Rattle.sync_base.specs.NoteSet.{holds}
use Rattle.semaphore.specs.declared.acquiring.Semacquired.TheVariants as got
use Rattle.semaphore.specs.declared.sema.Sema.{Sema}
use Rattle.semaphore.specs.declared.sema.SemaSeat.{SemaSeat}
use Rattle.semaphore.specs.declared.sema_asks.Grant.{Grant}
use Rattle.semaphore.specs.declared.sema_object.SemaCall.{SemaCall}
use Rattle.semaphore.specs.declared.sema_object.SemaCall.TheVariants.{Acquire, Release, NextWake}
use Rattle.semaphore.specs.declared.sema_object.SemaReply.{SemaReply}
use Rattle.semaphore.specs.declared.sema_object.SemaReply.TheVariants as told
use Rattle.timer_list.specs.declared.timers.Timers.{Timers}
use Rattle.semaphore.specs.Acquiring.{Begins, Collects, Leaves, Waits, AsksNow, Semacquires}
use Rattle.semaphore.specs.Acquiring.{acquiring}
use Rattle.semaphore.specs.Asking.{Asks, OnlyAsks, AsksRelease, Finds, FindsBoth, now_reply}
use Rattle.semaphore.specs.Asking.{wake_next, wake_reply, IsTold}
use Rattle.semaphore.specs.Releasing.{AsksNext, HasReleased, HasWoken, Releases, WakesNamed}
use Rattle.semaphore.specs.Releasing.{WakesOneMore}
use Rattle.semaphore.specs.Seats.{IsSeatAt, rendez_at, rendez_of_seat, units_given}
use Rattle.semaphore.specs.SemaHistory.{SemaEntry}
use Rattle.semaphore.specs.SemaLaws.{AlwaysHolds}
use Rattle.semaphore.specs.Units.{IsSound, is_idle, stage_of, answer_to}
use Rattle.semaphore.specs.Timing.{AcquiresBy}
use Rattle.timer_list.specs.Timing.{TimedPoint, TimedThroughout, timed_throughout}
use Rattle.semaphore.proofs.Broken.{entry}
use Rattle.waiting.specs.declared.call.Reply.TheVariants as reply
use Rattle.waiting.specs.Waiting.{Point, Waited}

-- ---- each request is one entry more

asking_adds : (sema : Sema) (waits : Bool) (call : SemaCall) (answer : SemaReply)
    (before after : SemaSeat) → Asks sema waits call answer before after
    → length (seen_of before.seat) < length (seen_of after.seat)
asking_adds sema waits call answer before after asks =
    let adds = asks.served.account in
    let new = ap (λ (a : Account SemaEntry). length a.seen) adds.new_is in
    let past = ap (λ (history : List SemaEntry). length history) adds.looked.history_is in
    let since = length-append adds.looked.since (seen_of before.seat) in
    omega (arith, new, past, since)

module _ (sema : Sema) (before after : Point SemaSeat)
    (same : length (seen_of after.seat.seat) ≡ length (seen_of before.seat.seat)) where
  nothing_was_asked : (waits : Bool) (call : SemaCall) (answer : SemaReply)
      → ¬ Asks sema waits call answer before.seat after.seat
  nothing_was_asked waits call answer asks =
      let more = asking_adds sema waits call answer before.seat after.seat asks in
      omega (arith, same, more)

  acquired_without_asking : ¬ Begins sema before (reply.Done tt) after
  acquired_without_asking begins = nothing_was_asked _ _ _ begins.asks

  waits_without_asking : (count : ℕ) → ¬ Begins sema before (reply.Wait count) after
  waits_without_asking count begins = nothing_was_asked _ _ _ begins.asks

  worn_without_asking : ¬ Begins sema before (reply.Refused fault.Worn) after
  worn_without_asking begins = nothing_was_asked _ _ _ begins.asks

  granted_without_asking : ¬ Collects sema before (reply.Done tt) after
  granted_without_asking collects = nothing_was_asked _ _ _ collects.asks

  waits_on_without_asking : (count : ℕ) → ¬ Collects sema before (reply.Wait count) after
  waits_on_without_asking count collects = nothing_was_asked _ _ _ collects.asks

  granted_late_without_leaving : ¬ Leaves sema before.seat (Some tt) after.seat
  granted_late_without_leaving leaves = nothing_was_asked _ _ _ leaves

  gone_without_leaving : ¬ Leaves sema before.seat None after.seat
  gone_without_leaving leaves = nothing_was_asked _ _ _ leaves

  not_now_without_asking : ¬ AsksNow sema before (Ok got.NotNow) after
  not_now_without_asking asks = nothing_was_asked _ _ _ asks.asks

  refused_without_asking : (count : ℕ) → ¬ Releases sema count before (Err fault.BadArg) after
  refused_without_asking count releases = nothing_was_asked _ _ _ releases.asks

-- ---- what a request leaves

module _ (sema : Sema) (before after : Point SemaSeat) where
  -- who is told to wait waits, and who has its unit waits no more
  told_to_wait_and_rests : (count : ℕ) → ¬ IsSeatAt sema true after.seat
      → ¬ Begins sema before (reply.Wait count) after
  told_to_wait_and_rests count rests begins = rests begins.asks.seat

  granted_and_waits : ¬ IsSeatAt sema false after.seat
      → ¬ Collects sema before (reply.Done tt) after
  granted_and_waits waits collects = waits collects.asks.seat

  asked_with_a_step : (waits : Bool) (call : SemaCall) (answer : SemaReply)
      → after.process ≢ before.process → ¬ OnlyAsks sema waits call answer before after
  asked_with_a_step waits call answer other asks = other asks.idle

  asked_as_another : (waits : Bool) (call : SemaCall) (answer : SemaReply)
      → number_of after.seat.seat ≢ number_of before.seat.seat
      → ¬ Asks sema waits call answer before.seat after.seat
  asked_as_another waits call answer other asks = other asks.number

  -- for what a request is refused
  no_call_wants_a_rendez : ¬ Begins sema before (reply.Refused fault.NoRendez) after
  no_call_wants_a_rendez begins = begins

  who_waits_is_not_worn_out : ¬ Collects sema before (reply.Refused fault.Worn) after
  who_waits_is_not_worn_out collects = collects

  -- ---- a semacquire

  a_wait_that_answers_not_now : ¬ Waits sema before (Ok got.NotNow) after
  a_wait_that_answers_not_now waits = waits

  -- it waits as a call of each device does, in its own Rendez
  acquired_without_a_wait :
      ¬ Waited (acquiring sema) (rendez_at sema before.seat) before (Ok tt) after
      → ¬ Waits sema before (Ok got.Acquired) after
  acquired_without_a_wait none waits = none waits

  refused_without_a_wait : (why : Fault)
      → ¬ Waited (acquiring sema) (rendez_at sema before.seat) before (Err why) after
      → ¬ Waits sema before (Err why) after
  refused_without_a_wait why none waits = none waits

  refused_though_it_does_not_wait : (why : Fault) → ¬ AsksNow sema before (Err why) after
  refused_though_it_does_not_wait why asks = asks

  acquired_without_a_unit : units_given after.seat ≡ units_given before.seat
      → ¬ Semacquires true sema before (Ok got.Acquired) after
  acquired_without_a_unit none acquires =
      let units = acquires.units in omega (arith, none, units)

  not_now_with_a_unit : units_given after.seat ≡ units_given before.seat + 1
      → ¬ Semacquires false sema before (Ok got.NotNow) after
  not_now_with_a_unit one acquires = let units = acquires.units in omega (arith, one, units)

  refused_with_a_unit : (why : Fault) → units_given after.seat ≡ units_given before.seat + 1
      → ¬ Semacquires true sema before (Err why) after
  refused_with_a_unit why one acquires =
      let units = acquires.units in omega (arith, one, units)

  a_wait_is_a_wait : (why : Fault) → Semacquires true sema before (Err why) after
      → Waits sema before (Err why) after
  a_wait_is_a_wait why acquires = acquires.takes

  -- ---- a semrelease

  released_for_no_reason : ¬ Releases sema 3 before (Err fault.Worn) after
  released_for_no_reason releases = releases

  -- nobody was named, and more happened
  wakes_nobody_and_goes_on : after ≢ before → ¬ WakesNamed sema [] before after
  wakes_nobody_and_goes_on other woken = other woken

  -- one more was named, and was not woken
  wakes_fewer_than_named : (grant : Grant) (others : List Grant)
      → ¬ WakesOneMore sema (WakesNamed sema others before) grant after
      → ¬ WakesNamed sema (grant ∷ others) before after
  wakes_fewer_than_named grant others no_more woken = no_more woken

  -- it does not ask until nobody is left to be woken
  asks_not_to_the_last : ((last : Point SemaSeat)
      → ¬ OnlyAsks sema false NextWake told.NoWake last after)
      → ¬ HasWoken sema before after
  asks_not_to_the_last none woken = none woken.last woken.none

  wakes_others_than_named : (woken : HasWoken sema before after)
      → ¬ ¬ WakesNamed sema woken.grants before woken.last
  wakes_others_than_named woken none = none woken.woken

  released_without_a_release : ¬ HasReleased sema 3 5 before after
      → ¬ Releases sema 3 before (Ok 5) after
  released_without_a_release none releases = none releases

  releases_nothing : ((first : Point SemaSeat)
      → ¬ OnlyAsks sema false (Release 3) (told.Value 5) before first)
      → ¬ HasReleased sema 3 5 before after
  releases_nothing none released = none released.first released.released

  releases_and_wakes_nobody : ((first : Point SemaSeat) → ¬ HasWoken sema first after)
      → ¬ HasReleased sema 3 5 before after
  releases_and_wakes_nobody none released = none released.first released.wakes

  releases_and_asks_whom_to_wake_later : ((first : SemaSeat) → ¬ AsksNext first after.seat)
      → ¬ HasReleased sema 3 5 before after
  releases_and_asks_whom_to_wake_later none released =
      none released.first.seat released.at_once

-- ---- whom to wake, asked in the hold of the release

module _ (before after : SemaSeat) (own : number_of before.seat ≡ 0)
    (released : seen_of before.seat ≡ entry 0 (Release 1) (told.Value 5) ∷ []) where
  asks_at_once : seen_of after.seat
      ≡ entry 0 NextWake told.NoWake ∷ entry 0 (Release 1) (told.Value 5) ∷ []
      → AsksNext before after
  asks_at_once seen =
      record {
        told = told.NoWake;
        next = record { since = []; new_is = rw (own, released) seen };
      }

  -- another seat's request came between the two
  asks_in_a_second_hold : seen_of after.seat
      ≡ entry 0 NextWake told.NoWake ∷ entry 1 (Acquire 1) told.Acquired
      ∷ entry 0 (Release 1) (told.Value 5) ∷ []
      → ¬ AsksNext before after
  asks_in_a_second_hold seen asks =
      by asks.told asks.next.since
      (sym seen ∙ rw (own, released) at asks.next.new_is)
    where
      by : (answer : SemaReply) (since : List SemaEntry)
          → entry 0 NextWake told.NoWake ∷ entry 1 (Acquire 1) told.Acquired
          ∷ entry 0 (Release 1) (told.Value 5) ∷ []
          ≡ since ++ (entry 0 NextWake answer ∷ entry 0 (Release 1) (told.Value 5) ∷ []) → ⊥
      by answer [] is = cc
      by answer (one ∷ []) is =
          let clash : entry 1 (Acquire 1) told.Acquired ≡ entry 0 NextWake answer = cc in
          let other : 1 ≡ 0 = ap (λ (e : SemaEntry). e.by) clash in omega (arith, other)
      by answer (one ∷ two ∷ since) is =
          let same = ap (λ (xs : List SemaEntry). length xs) is in
          let longer = length-append since
          (entry 0 NextWake answer ∷ entry 0 (Release 1) (told.Value 5) ∷ []) in
          omega (arith, same, longer)

abbrev steps_of : Process → ℕ
steps_of process = length process.trace

module _ (sema : Sema) (Before : Point SemaSeat → Type 0) (grant : Grant)
    (after : Point SemaSeat) (more : WakesOneMore sema Before grant after) where
  who_is_woken_was_named :
      Asks sema false NextWake (told.Wake grant.seat grant.grants) more.between.seat
      after.seat
  who_is_woken_was_named = more.named

  others_were_woken_before : Before more.between
  others_were_woken_before = more.others

  -- a seat that was named is not left asleep
  named_and_left_asleep : ¬ (after.process ≡ more.between.process)
  named_and_left_asleep same = by more.woken.woken.ends
    where
      none : steps_of after.process ≡ steps_of more.between.process
      none = ap steps_of same

      by : ¬ Ends (raises more.between.process (rendez_of_seat sema grant.seat) grant.grants)
          after.process
      by (inl nobody) = let steps = ap steps_of nobody in omega (arith, none, steps)
      by (inr (sleeper, marked)) = let steps = ap steps_of marked in omega (arith, none, steps)

-- ---- a release in one hold of the lock

-- a release that was taken is followed by a question, and one that was refused is not
refused_and_followed : (sema : Sema) (before after : SemaSeat)
    → AsksRelease sema 1 told.BadArg (Some told.NoWake) before after → ⊥
refused_and_followed sema before after none = none

taken_and_not_followed : (sema : Sema) (before after : SemaSeat)
    → AsksRelease sema 1 (told.Value 5) None before after → ⊥
taken_and_not_followed sema before after none = none

released_without_both : (sema : Sema) (before after : SemaSeat)
    → ¬ FindsBoth sema (Release 1) (told.Value 5) told.NoWake before after
    → ¬ AsksRelease sema 1 (told.Value 5) (Some told.NoWake) before after
released_without_both sema before after none both = none both

refused_without_asking_for_it : (sema : Sema) (before after : SemaSeat)
    → ¬ Finds sema (Release 1) told.BadArg before after
    → ¬ AsksRelease sema 1 told.BadArg None before after
refused_without_asking_for_it sema before after none asks = none asks

-- what was told is the answer of some state
told_what_no_state_answers : (sema : Sema) (call : SemaCall) (answer : SemaReply)
    (before after : SemaSeat)
    → ¬ IsTold sema.procs (number_of before.seat) false call answer
    → ¬ Finds sema call answer before after
told_what_no_state_answers sema call answer before after none finds = none finds.found

-- two requests are two entries more
both_add : (sema : Sema) (call : SemaCall) (first second : SemaReply) (before after : SemaSeat)
    → FindsBoth sema call first second before after
    → length (seen_of before.seat) + 1 < length (seen_of after.seat)
both_add sema call first second before after both =
    let one = asking_adds sema false call first before both.between both.found_first.asks in
    let two = asking_adds sema false NextWake second both.between after both.found_second.asks in
    omega (arith, one, two)

-- and nothing stands between them
both_are_next : (sema : Sema) (call : SemaCall) (first second : SemaReply)
    (before after : SemaSeat) → (both : FindsBoth sema call first second before after)
    → length (seen_of after.seat) ≡ length (seen_of both.between.seat) + 1
both_are_next sema call first second before after both =
    let one = ap (λ (seen : List SemaEntry). length seen) both.at_once in omega (arith, one)

-- ---- what a request finds

module _ (procs number : ℕ) (waits : Bool) where
  a_reply_answers_some_state : (call : SemaCall) (reply : SemaReply)
      (is : IsTold procs number waits call reply) → IsSound is.state
      × (length is.state.stages ≡ procs) × (number < procs)
      × (is_idle (stage_of is.state number) ≡ not waits) × (reply ≡ answer_to is.state call)
  a_reply_answers_some_state call reply is =
      (is.sound, is.size, is.within, is.idle, is.answer_is)

-- ---- typed answers

the_answers_are : (now_reply got.Acquired ≡ told.Acquired) × (now_reply got.NotNow ≡ told.NotNow)
    × (wake_next (told.Value 5) ≡ Some NextWake) × (wake_next told.BadArg ≡ None)
    × (wake_reply (Some (record { seat = 1; grants = 4 })) ≡ told.Wake 1 4)
    × (wake_reply None ≡ told.NoWake)
the_answers_are = (refl, refl, refl, refl, refl, refl)

-- ---- a tsemacquire

module _ (sema : Sema) (watch : Timers) (moment : ℕ) (before after : TimedPoint SemaSeat) where
  timed_without_a_unit : units_given after.at.seat ≡ units_given before.at.seat
      → ¬ AcquiresBy (timed_throughout watch moment) sema before (Ok tt) after
  timed_without_a_unit none acquires =
      let units = acquires.units in omega (arith, none, units)

  timed_out_with_a_unit : units_given after.at.seat ≡ units_given before.at.seat + 1
      → ¬ AcquiresBy (timed_throughout watch moment) sema before (Err fault.TimedOut) after
  timed_out_with_a_unit one acquires =
      let units = acquires.units in omega (arith, one, units)

  timed_without_a_wait : (answer : Result Unit Fault)
      → ¬ TimedThroughout (acquiring sema) (rendez_at sema before.at.seat) watch moment before
      answer after
      → ¬ AcquiresBy (timed_throughout watch moment) sema before answer after
  timed_without_a_wait answer none acquires = none acquires.takes

-- ---- a law of no state

what_never_holds_is_no_law : ¬ AlwaysHolds (λ value count past s. ⊥)
what_never_holds_is_no_law holds = holds 0 1 0 [] (omega arith) (omega arith) tt
