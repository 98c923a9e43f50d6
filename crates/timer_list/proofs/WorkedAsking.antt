-- What is no request of a seat, no answer to one, and no tick: each against one row.
use Rattle.std.proofs.Common.{◌≡◌, ◌≢◌, ◌⊎◌, ◌<◌, ℕ, Bool, true, false, List, [], ◌∷◌}
use Rattle.std.proofs.Common.{◌++◌, length, Some, None, inl, inr, refl, ap, subst, sym, arith, not}
use Rattle.std.proofs.lemmas.List.{length-append}
use Rattle.histories.specs.declared.account.Account.{Account}
use Rattle.kernel_lock.specs.Seats.{number_of, seen_of}
use Rattle.rendez_words.specs.Process.{Process}
use Rattle.sync_base.specs.declared.ids.Pid.{Pid}
use Rattle.sync_base.specs.declared.note.Note.TheVariants.{Alarm, Expired}
use Rattle.sync_base.specs.NoteSet.{holds, only}
use Rattle.timer_list.specs.declared.timer_object.TimerCall.{TimerCall}
use Rattle.timer_list.specs.declared.timer_object.TimerCall.TheVariants.{Add, Cancel, Expire}
use Rattle.timer_list.specs.declared.timer_object.TimerReply.{TimerReply}
use Rattle.timer_list.specs.declared.timer_object.TimerReply.TheVariants as timers
use Rattle.timer_list.specs.declared.timers.Timers.{Timers}
use Rattle.timer_list.specs.declared.timers.TimerSeat.{TimerSeat}
use Rattle.timer_list.specs.Asking.{AsksTimers, IsMarked, cancel_reply, expire_reply, IsTimed}
use Rattle.timer_list.specs.Seats.{IsSeatAtTimers, cancelled_at, set_at}
use Rattle.timer_list.specs.Ticking.{Expires, ExpiresOneMore, FindsNone, Tells, Ticks}
use Rattle.timer_list.specs.TimerHistory.{TimerEntry}
use Rattle.timer_list.specs.Timers.{may_add, timer_of}
use Rattle.timer_list.specs.Timers as timing
use Rattle.timer_list.specs.WakeLaws.{HasTaken, telling, IsToldSince, AreToldSince}
use Rattle.sleep_core.specs.declared.answer.Answer.TheVariants.{Notes}
use Rattle.sleep_core.specs.declared.event.Event.TheVariants.{Drain}
use Rattle.sleep_core.specs.History.{history_of}
use Rattle.sleep_core.specs.History.Effect.{Left, Drained}
use Rattle.sleep_core.specs.Promises.{pending}
use Rattle.sleep_core.specs.Runs.{Entry, own, kept}
use Rattle.waiting.specs.Waiting.{Point}

-- ---- what a seat notes of its process

module _ (process : Process) (before after : TimerSeat) (pid : Pid) (seat moment : ℕ) where
  sets_it_for_another_process : set_at after ≢ Some process
      → ¬ IsMarked (Add seat pid moment) process before after
  sets_it_for_another_process other marked = other marked.0

  cancels_as_it_sets : cancelled_at after ≢ cancelled_at before
      → ¬ IsMarked (Add seat pid moment) process before after
  cancels_as_it_sets other marked = other marked.1

  sets_as_it_cancels : set_at after ≢ set_at before
      → ¬ IsMarked (Cancel seat) process before after
  sets_as_it_cancels other marked = other marked.0

  cancels_it_for_another_process : cancelled_at after ≢ Some process
      → ¬ IsMarked (Cancel seat) process before after
  cancels_it_for_another_process other marked = other marked.1

  sets_as_it_ticks : set_at after ≢ set_at before
      → ¬ IsMarked (Expire moment) process before after
  sets_as_it_ticks other marked = other marked.0

  cancels_as_it_ticks : cancelled_at after ≢ cancelled_at before
      → ¬ IsMarked (Expire moment) process before after
  cancels_as_it_ticks other marked = other marked.1

-- ---- each request is one entry more

timing_adds : (timers : Timers) (set : Bool) (call : TimerCall) (answer : TimerReply)
    (before after : TimerSeat) → AsksTimers timers set call answer before after
    → length (seen_of before.seat) < length (seen_of after.seat)
timing_adds timers set call answer before after asks =
    let adds = asks.served.account in
    let new = ap (λ (a : Account TimerEntry). length a.seen) adds.new_is in
    let past = ap (λ (history : List TimerEntry). length history) adds.looked.history_is in
    let since = length-append adds.looked.since (seen_of before.seat) in
    omega (arith, new, past, since)

-- ---- what a request finds

module _ (procs number : ℕ) (set : Bool) where
  a_reply_answers_some_timers : (call : TimerCall) (reply : TimerReply)
      (is : IsTimed procs number set call reply) → (length is.state ≡ procs)
      × (number < procs) × (may_add (timer_of is.state number) ≡ not set)
      × (reply ≡ timing.answer_to is.state call)
  a_reply_answers_some_timers call reply is = (is.size, is.within, is.free, is.answer_is)

-- ---- typed answers

the_answers_are : (cancel_reply true ≡ timers.Expired) × (cancel_reply false ≡ timers.Removed)
    × (expire_reply (Some (record { 0 = 5 })) ≡ timers.Ended (record { 0 = 5 }))
    × (expire_reply None ≡ timers.NoneDue)
the_answers_are = (refl, refl, refl, refl)

-- ---- a tick

abbrev steps_of : Process → ℕ
steps_of process = length process.trace

module _ (watch : Timers) (kernel now : ℕ) (before after : Point TimerSeat) where
  counts_another : (ticks : Ticks watch kernel now 3 before after) → length ticks.ended ≡ 2 → ⊥
  counts_another ticks two = let three = ticks.count_is in omega (arith, two, three)

  counts_too_few : (ticks : Ticks watch kernel now 3 before after) → length ticks.ended ≡ 4 → ⊥
  counts_too_few ticks four = let three = ticks.count_is in omega (arith, four, three)

  -- more timers expire than there are
  expires_more_than_all : watch.procs ≡ 2 → ¬ Ticks watch kernel now 3 before after
  expires_more_than_all two ticks = let most = ticks.at_most in omega (arith, most, two)

  -- it told of timers that did not expire
  tells_of_others : (ticks : Ticks watch kernel now 3 before after)
      → ¬ ¬ Expires watch kernel now ticks.ended before ticks.last
  tells_of_others ticks none = none ticks.expires

  -- with no timer expired nothing happened, and with one more that one did
  expires_none_and_goes_on : after ≢ before → ¬ Expires watch kernel now [] before after
  expires_none_and_goes_on other none = other none

  expires_one_more : (pid : Pid) (others : List Pid)
      → ¬ ExpiresOneMore watch kernel now (Expires watch kernel now others before) pid after
      → ¬ Expires watch kernel now (pid ∷ others) before after
  expires_one_more pid others no_more more = no_more more

  -- it stops while a timer may be due
  stops_early : ¬ FindsNone watch now before after → watch.procs ≡ 3
      → (ticks : Ticks watch kernel now 2 before after) → ticks.last ≡ before → ⊥
  stops_early none three ticks same = by ticks.stops
    where
      by : ¬ (((2 < watch.procs) × FindsNone watch now ticks.last after)
          ⊎ ((2 ≡ watch.procs) × (after ≡ ticks.last)))
      by (inl found) = none (subst (λ p. FindsNone watch now p after) same found.1)
      by (inr many) = let two = many.0 in omega (arith, two, three)

  -- it asks once more though as many timers have expired as there are
  asks_once_more : watch.procs ≡ 2
      → (ticks : Ticks watch kernel now 2 before after) → after ≢ ticks.last → ⊥
  asks_once_more two ticks other = by ticks.stops
    where
      by : ¬ (((2 < watch.procs) × FindsNone watch now ticks.last after)
          ⊎ ((2 ≡ watch.procs) × (after ≡ ticks.last)))
      by (inl found) = let many = found.0 in omega (arith, many, two)
      by (inr all) = other all.1

  finds_none_without_asking :
      length (seen_of after.seat.seat) ≡ length (seen_of before.seat.seat)
      → ¬ FindsNone watch now before after
  finds_none_without_asking same found =
      let more = timing_adds _ _ _ _ _ _ found.asks in omega (arith, same, more)

  finds_none_with_a_step : after.process ≢ before.process
      → ¬ FindsNone watch now before after
  finds_none_with_a_step other found = other found.idle

  timed_as_another : (set : Bool) (call : TimerCall) (answer : TimerReply)
      → number_of after.seat.seat ≢ number_of before.seat.seat
      → ¬ AsksTimers watch set call answer before.seat after.seat
  timed_as_another set call answer other asks = other asks.number

  timed_and_not_set : (call : TimerCall) (answer : TimerReply)
      → ¬ IsSeatAtTimers watch true after.seat
      → ¬ AsksTimers watch true call answer before.seat after.seat
  timed_and_not_set call answer unset asks = unset asks.seat

module _ (before after : Process) where
  -- of six processes the fifth is told, and the sixth is of another kernel
  nobody_is_told : after ≡ before → ¬ Tells 6 (record { 0 = 5 }) before after
  nobody_is_told same tells =
      let told = ap steps_of (tells.told refl) in
      let none = ap steps_of same in
      omega (arith, told, none)

  another_kernel_is_told : after ≢ before → ¬ Tells 6 (record { 0 = 6 }) before after
  another_kernel_is_told other tells = other (tells.other refl)

module _ (watch : Timers) (kernel now : ℕ) (Before : Point TimerSeat → Type 0) (pid : Pid)
    (after : Point TimerSeat) (more : ExpiresOneMore watch kernel now Before pid after) where
  each_expires_at_the_moment :
      AsksTimers watch false (Expire now) (timers.Ended pid) more.between.seat after.seat
  each_expires_at_the_moment = more.ended

  others_expired_before : Before more.between
  others_expired_before = more.others

  its_process_is_told : Tells kernel pid more.between.process after.process
  its_process_is_told = more.tells

-- ---- a note that was taken

nobody_took_it : ¬ HasTaken [] 5
nobody_took_it taken = taken

another_note_was_taken : ¬ HasTaken (Drained 5 (only Alarm) ∷ []) 5
another_note_was_taken (inl it) = let clash : false ≡ true = it.1 in cc
another_note_was_taken (inr none) = none

another_took_its : ¬ HasTaken (Left 4 (Some (only Expired)) ∷ []) 5
another_took_its (inl it) = let four : 4 ≡ 5 = it.0 in omega (arith, four)
another_took_its (inr none) = none

another_took_its_without_a_sleep : ¬ HasTaken (Drained 6 (only Expired) ∷ []) 5
another_took_its_without_a_sleep (inl it) = let six : 6 ≡ 5 = it.0 in omega (arith, six)
another_took_its_without_a_sleep (inr none) = none

a_sleep_that_ends_well_takes_none : ¬ HasTaken (Left 5 None ∷ []) 5
a_sleep_that_ends_well_takes_none taken = taken

-- ---- a note that was told by this tick

module _ (at : Process) where
  -- process 0, which ticks, after these steps
  abbrev ticker : List Entry → Process
  ticker trace = record at { pid = 0; trace = trace }

  abbrev five : Pid
  five = record { 0 = 5 }

  -- it told process 5, which then took that note
  abbrev note : Entry
  note = telling (ticker []) five

  abbrev takes : Entry
  takes = record { maker = 5; event = Drain five; answer = Notes (only Expired) }

  it_is_pending : IsToldSince (note ∷ []) (ticker []) five
  it_is_pending =
      record { since = []; past = []; run_is = refl; next = refl; there = inl refl }

  it_was_taken_since : IsToldSince (takes ∷ note ∷ []) (ticker []) five
  it_was_taken_since =
      record {
        since = takes ∷ [];
        past = [];
        run_is = refl;
        next = refl;
        there = inr (inl (refl, refl));
      }

  it_came_again : IsToldSince (note ∷ takes ∷ note ∷ []) (ticker (note ∷ [])) five
  it_came_again =
      record { since = []; past = takes ∷ note ∷ []; run_is = refl; next = refl; there = inl refl }

  -- A second tick took its timer, and posted no note: that it took the note of the first is no
  -- excuse.
  it_took_one_before : HasTaken (history_of (takes ∷ note ∷ [])) 5
  it_took_one_before = inl (refl, refl)

  the_second_was_never_posted :
      ¬ IsToldSince (takes ∷ note ∷ []) (ticker (note ∷ [])) five
  the_second_was_never_posted is = by is.since is.past is.run_is is.next
    where
      by : (since past : List Entry) → takes ∷ note ∷ [] ≡ since ++ (note ∷ past)
          → kept (own 0 past) ≡ note ∷ [] → ⊥
      by [] past run next = let clash : takes ≡ note = cc in
          let five : 5 ≡ 0 = ap (λ (entry : Entry). entry.maker) clash in omega (arith, five)
      by (entry ∷ []) past run next =
          let none : [] ≡ past = cc in
          let clash : kept (own 0 []) ≡ note ∷ [] =
          subst (λ (past : List Entry). kept (own 0 past) ≡ note ∷ []) (sym none) next in cc
      by (entry ∷ other ∷ []) past run next = cc
      by (entry ∷ other ∷ third ∷ since) past run next = cc

  module _ (watch : Timers) (now : ℕ) (others : List Pid) (before after : Point TimerSeat) where
    a_tick_that_posts_none_tells_none :
        (expires : Expires watch 6 now (five ∷ others) before after)
        → expires.between.process ≡ ticker (note ∷ [])
        → ¬ AreToldSince (takes ∷ note ∷ []) watch 6 now (five ∷ others) before after expires
    a_tick_that_posts_none_tells_none expires second told =
        the_second_was_never_posted
        (subst (λ (teller : Process). IsToldSince (takes ∷ note ∷ []) teller five) second
        (told.0 refl))

    the_others_are_told_too : (run : List Entry) (pid : Pid)
        (expires : Expires watch 6 now (pid ∷ others) before after)
        → AreToldSince run watch 6 now (pid ∷ others) before after expires
        → AreToldSince run watch 6 now others before expires.between expires.others
    the_others_are_told_too run pid expires told = told.1

  told_and_neither_pending_nor_taken : (run : List Entry) (teller : Process) (pid : Pid)
      (is : IsToldSince run teller pid) → holds (pending (history_of run) pid.0) Expired ≡ false
      → HasTaken (history_of is.since) pid.0
  told_and_neither_pending_nor_taken run teller pid is none = by is.there
    where
      by : (holds (pending (history_of run) pid.0) Expired ≡ true)
          ⊎ HasTaken (history_of is.since) pid.0 → HasTaken (history_of is.since) pid.0
      by (inl there) = cc
      by (inr taken) = taken
