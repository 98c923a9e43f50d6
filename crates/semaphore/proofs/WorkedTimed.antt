-- Calls with a deadline that did what none may do: each list of actions against the order and the
-- counts that the parts of such a call have.
use Rattle.std.proofs.Common.{◌≡◌, ◌≢◌, ℕ, zero, suc, ◌+◌, Bool, true, false, List, [], ◌∷◌, ◌++◌}
use Rattle.std.proofs.Common.{length, Some, None, Result, Ok, Err, inl, inr, refl, sym, ap, ◌∙◌}
use Rattle.std.proofs.Common.{subst, arith}
use Rattle.std.specs.List.{AllByRecursion}
use Rattle.histories.specs.declared.account.Account.{Account}
use Rattle.kernel_lock.specs.Seats.{number_of, shares_of}
use Rattle.rendez_words.specs.Process.{Process}
use Rattle.rendez_words.specs.Steps.{posts, tests}
use Rattle.sleep_core.specs.declared.answer.Answer.TheVariants as answer
use Rattle.sleep_core.specs.declared.event.Event.{Event}
use Rattle.sleep_core.specs.declared.event.Event.TheVariants.{Post, Look, Withdraw, Drain}
use Rattle.sleep_core.specs.Runs.{Entry}
use Rattle.sleep_wakeup.specs.Calls.{IsOfWait, Sleeps}
use Rattle.sleep_wakeup.specs.Actions.{FailsAsleep}
use Rattle.sync_base.specs.declared.fault.Fault.{Fault}
use Rattle.sync_base.specs.declared.fault.Fault.TheVariants as fault
use Rattle.sync_base.specs.declared.ids.RendezId.{RendezId}
use Rattle.sync_base.specs.declared.note.NoteSet.{NoteSet}
use Rattle.sync_base.specs.NoteSet.{no_notes}
use Rattle.semaphore.specs.declared.sema.Sema.{Sema}
use Rattle.semaphore.specs.declared.sema.SemaSeat.{SemaSeat}
use Rattle.semaphore.specs.declared.sema_object.SemaCall.{SemaCall}
use Rattle.semaphore.specs.declared.sema_object.SemaCall.TheVariants.{Acquire}
use Rattle.semaphore.specs.declared.sema_object.SemaReply.{SemaReply}
use Rattle.timer_list.specs.declared.timer_object.TimerCall.{TimerCall}
use Rattle.timer_list.specs.declared.timer_object.TimerReply.{TimerReply}
use Rattle.timer_list.specs.declared.timers.Timers.{Timers}
use Rattle.timer_list.specs.declared.timers.TimerSeat.{TimerSeat}
use Rattle.semaphore.specs.Acquiring.{acquiring}
use Rattle.semaphore.specs.Asking.{Asks}
use Rattle.timer_list.specs.Asking.{AsksTimers}
use Rattle.semaphore.specs.Seats.{IsSeatAt, IsSemaSeatOf, own_of}
use Rattle.timer_list.specs.Seats.{IsSeatAtTimers, IsTimerSeatOf}
use Rattle.semaphore.specs.Seats.{rendez_at}
use Rattle.semaphore.specs.SemaHistory.{SemaEntry}
use Rattle.timer_list.specs.Ticking.{Ticks}
use Rattle.timer_list.specs.TimerHistory.{TimerEntry}
use Rattle.timer_list.specs.Timing.{Awaiting, Keeps, Looks, PutsBackAny, TimedPoint, TimedWait}
use Rattle.timer_list.specs.Timing.{notes_of}
use Rattle.semaphore.proofs.UnitLemmas.{own_more}
use Rattle.waiting.specs.declared.wait.WaitEnd.{WaitEnd}
use Rattle.waiting.specs.declared.wait.WaitEnd.TheVariants.{Answered, Stopped}
use Rattle.waiting.specs.Waiting.{Point, WaitPoint, Rounds, Ends}

-- ---- what is counted

-- the calls that a seat has made, and those of them that were its first request
abbrev own : SemaSeat → List SemaEntry
own seat = own_of (shares_of seat.seat)

abbrev is_first : SemaCall → ℕ
is_first (Acquire seat) = 1
is_first call = 0

abbrev firsts : List SemaEntry → ℕ
firsts [] = 0
firsts (entry ∷ past) = is_first entry.request + firsts past

-- the calls that a seat has made at its timers
abbrev timed : TimerSeat → ℕ
timed seat = length (own_of (shares_of seat.seat))

-- how often a process lay down to sleep, and how often it took its notes without a sleep
abbrev is_post : Event → ℕ
is_post (Post pid rendez threshold) = 1
is_post event = 0

abbrev is_drain : Event → ℕ
is_drain (Drain pid) = 1
is_drain event = 0

abbrev count_of : (Event → ℕ) → List Entry → ℕ
count_of is [] = 0
count_of is (entry ∷ past) = is entry.event + count_of is past

abbrev lay_down : Process → ℕ
lay_down process = count_of is_post process.trace

abbrev drained : Process → ℕ
drained process = count_of is_drain process.trace

-- ---- what its parts add

asked_more : (sema : Sema) (waits now_waits : Bool) (call : SemaCall) (told : SemaReply)
    (old new : SemaSeat) → IsSeatAt sema waits old → Asks sema now_waits call told old new
    → own new ≡ record { by = number_of old.seat; request = call; reply = told } ∷ own old
asked_more sema waits now_waits call told old new at asks =
    ap (λ (a : Account SemaEntry). own_of a.shares) asks.served.account.new_is
    ∙ own_more (record { by = number_of old.seat; request = call; reply = told })
    (shares_of old.seat) at.mine at.shares_are

timed_more : (timers : Timers) (set now_set : Bool) (call : TimerCall) (told : TimerReply)
    (old new : TimerSeat) → IsSeatAtTimers timers set old
    → AsksTimers timers now_set call told old new → timed new ≡ suc (timed old)
timed_more timers set now_set call told old new at asks =
    ap (λ (a : Account TimerEntry). length (own_of a.shares)) asks.served.account.new_is
    ∙ ap (λ (l : List TimerEntry). length l)
    (own_more (record { by = number_of old.seat; request = call; reply = told })
    (shares_of old.seat) at.mine at.shares_are)

none_in_a_wait : (event : Event) → IsOfWait event → (is_post event ≡ 0) × (is_drain event ≡ 0)
none_in_a_wait (Look pid) is = (refl, refl)
none_in_a_wait (Withdraw pid) is = (refl, refl)
none_in_a_wait other is = absurd is

-- steps that are none of these
adds_none : (is : Event → ℕ) → ((event : Event) → IsOfWait event → is event ≡ 0)
    → (waiting past : List Entry) → AllByRecursion (λ entry. IsOfWait entry.event) waiting
    → count_of is (waiting ++ past) ≡ count_of is past
adds_none is none [] past all = refl
adds_none is none (entry ∷ waiting) past all =
    let others = adds_none is none waiting past all.1 in
    let it = none entry.event all.0 in
    omega (arith, others, it)

-- it lay down so often, took no notes without a sleep, and asked so often
record Adds (times calls : ℕ) (old new : Point SemaSeat) : Type 0 where
  lies : lay_down new.process ≡ lay_down old.process + times
  drains : drained new.process ≡ drained old.process
  asks : length (own new.seat) ≡ length (own old.seat) + calls
  firsts : firsts (own new.seat) ≡ firsts (own old.seat)

-- one sleep
record SleepsOnce (before after : Process) : Type 0 where
  lies : lay_down after ≡ lay_down before + 1
  drains : drained after ≡ drained before

slept_once : (before : Process) (at : RendezId) (number : ℕ) (set : NoteSet) (after : Process)
    → Sleeps before at number set after → SleepsOnce before after
slept_once before at number set after slept =
    let leaves = slept.leaves in
    let past = (tests (posts before at number answer.Posted) slept.tested).trace in
    let lies = ap lay_down leaves.cleared in
    let drains = ap drained leaves.cleared in
    let no_post = adds_none is_post (λ event is. (none_in_a_wait event is).0) leaves.waiting past
    leaves.of_wait in
    let no_drain = adds_none is_drain (λ event is. (none_in_a_wait event is).1) leaves.waiting past
    leaves.of_wait in
    record { lies = omega (arith, lies, no_post); drains = omega (arith, drains, no_drain) }

failed_once : (before : Process) (at : RendezId) (number : ℕ) (after : Process) (why : Fault)
    → FailsAsleep before at number after why → SleepsOnce before after
failed_once before at number after (fault.Interrupted set) failed =
    slept_once before at number set after failed.0
failed_once before at number after fault.DoubleSleep failed =
    let lies = ap lay_down failed in
    let drains = ap drained failed in
    record { lies = omega (arith, lies); drains = omega (arith, drains) }
failed_once before at number after other failed = absurd failed

-- a sleep, and a request after it that is not a first one
adds_one : (by : ℕ) (call : SemaCall) (told : SemaReply) (old new : Point SemaSeat)
    → SleepsOnce old.process new.process → is_first call ≡ 0
    → own new.seat ≡ record { by = by; request = call; reply = told } ∷ own old.seat
    → Adds 1 1 old new
adds_one by call told old new slept later asked =
    let calls = ap (λ (l : List SemaEntry). length l) asked in
    let begins = ap firsts asked in
    record {
      lies = slept.lies;
      drains = slept.drains;
      asks = omega (arith, calls);
      firsts = omega (arith, begins, later);
    }

module _ (sema : Sema) (rendez : RendezId) where
  -- between any two requests stands one sleep
  rounds_add : (times : ℕ) (first now : WaitPoint SemaSeat) → IsSeatAt sema true first.at.seat
      → Rounds (acquiring sema) rendez times first now
      → IsSeatAt sema true now.at.seat × Adds times times first.at now.at
  rounds_add zero first now at same =
      rw same
      (at, record { lies = omega arith; drains = refl; asks = omega arith; firsts = refl })
  rounds_add (suc times) first now at more =
      let (waits, before) = rounds_add times first more.between at more.rounds in
      let slept = slept_once more.between.at.process rendez more.between.number no_notes
      more.last.woken more.last.slept in
      let only = more.last.asked in
      let one = adds_one _ _ _ more.between.at now.at
      (subst (SleepsOnce more.between.at.process) (sym only.idle) slept) refl
      (asked_more sema true true _ _ more.between.at.seat now.at.seat waits only.asks) in (
        only.asks.seat,
        record {
          lies = omega (arith, before.lies, one.lies);
          drains = omega (arith, before.drains, one.drains);
          asks = omega (arith, before.asks, one.asks);
          firsts = omega (arith, before.firsts, one.firsts);
        },
      )

  -- and one before the last
  end_adds : (last : WaitPoint SemaSeat) (ending : WaitEnd Unit) (after : Point SemaSeat)
      → IsSeatAt sema true last.at.seat
      → Ends (acquiring sema) rendez last ending after
      → Adds 1 1 last.at after
  end_adds last (Answered (Ok unit)) after at ends =
      let slept = slept_once last.at.process rendez last.number no_notes ends.woken ends.slept in
      let only = ends.asked in
      adds_one _ _ _ last.at after (subst (SleepsOnce last.at.process) (sym only.idle) slept) refl
      (asked_more sema true false _ _ last.at.seat after.seat at only.asks)
  end_adds last (Answered (Err why)) after at ends = absurd ends.asked
  end_adds last (Stopped why (Some unit)) after at ends =
      adds_one _ _ _ last.at after
      (failed_once last.at.process rendez last.number after.process why ends.failed) refl
      (asked_more sema true false _ _ last.at.seat after.seat at ends.left)
  end_adds last (Stopped why None) after at ends =
      adds_one _ _ _ last.at after
      (failed_once last.at.process rendez last.number after.process why ends.failed) refl
      (asked_more sema true false _ _ last.at.seat after.seat at ends.left)

-- it does not look for a tick that took no timer
not_looked : (rendez : RendezId) (times : ℕ) (first now : Awaiting)
    → Looks rendez false times first now → now ≡ first
not_looked rendez zero first now same = same
not_looked rendez (suc times) first now more = let bad = more.took in absurd (cc)

-- notes are put back in one step or none
puts_back_adds : (set : NoteSet) (before after : Process) → PutsBackAny set before after
    → (lay_down after ≡ lay_down before) × (drained after ≡ drained before)
puts_back_adds set before after (inl none) = (ap lay_down none.1, ap drained none.1)
puts_back_adds set before after (inr back) =
    let lies = ap lay_down back.1 in
    let drains = ap drained back.1 in
    (omega (arith, lies), omega (arith, drains))

keeps_adds : (ending : WaitEnd Unit) (expired : Bool) (others : NoteSet)
    (answer : Result Unit Fault) (before after : Process)
    → Keeps expired others ending answer before after
    → (lay_down after ≡ lay_down before) × (drained after ≡ drained before)
keeps_adds (Answered told) expired others answer before after kept =
    puts_back_adds others before after kept.1
keeps_adds (Stopped why (Some out)) expired others answer before after kept =
    puts_back_adds others before after kept.1
keeps_adds (Stopped (fault.Interrupted set) None) expired others answer before after kept =
    (ap lay_down kept.1, ap drained kept.1)
keeps_adds (Stopped why None) expired others answer before after kept =
    puts_back_adds others before after kept.1

-- ---- the call

module _ (sema : Sema) (timers : Timers) (moment : ℕ) (before after : TimedPoint SemaSeat)
    (told : Result Unit Fault) (rest : IsSemaSeatOf sema before.at.seat)
    (free : IsTimerSeatOf timers before.timer) where
  abbrev Timed : Type 0
  Timed =
      TimedWait (acquiring sema) (rendez_at sema before.at.seat) timers moment before told after

  -- such a call asks its timers twice: it sets its timer once, and cancels it once
  asks_its_timers_twice : Timed
      → timed after.timer ≡ timed before.timer + 2
  asks_its_timers_twice waits =
      let set = timed_more timers false true _ _ before.timer waits.set free waits.added in
      let gone = timed_more timers true false _ _ waits.set after.timer waits.added.seat
      waits.ended.cancelled in
      omega (arith, set, gone)

  -- a timer is set twice, so that the note of the other one may be left
  sets_two_timers : timed after.timer ≡ timed before.timer + 4
      → ¬ Timed
  sets_two_timers four waits =
      let two = asks_its_timers_twice waits in omega (arith, four, two)

  sets_no_timer : timed after.timer ≡ timed before.timer
      → ¬ Timed
  sets_no_timer none waits = let two = asks_its_timers_twice waits in omega (arith, none, two)

  module _ (waits : Timed)
      (not_expired : waits.ended.expired ≡ false) where
    -- without a tick: so many sleeps, with a request after each, and one before
    record HasSlept : Type 0 where
      times : ℕ
      lies : lay_down after.at.process ≡ lay_down before.at.process + times
      drains : drained after.at.process ≡ drained before.at.process
      asks : length (own after.at.seat) ≡ length (own before.at.seat) + 1 + times
      firsts : firsts (own after.at.seat) ≡ firsts (own before.at.seat) + 1

    has_slept : HasSlept
    has_slept =
        let begun = waits.begun in
        let asked = asked_more sema false true _ _ before.at.seat waits.first.at.seat rest
        begun.asks in
        let lies = ap lay_down begun.idle in
        let drains = ap drained begun.idle in
        let calls = ap (λ (l : List SemaEntry). length l) asked in
        let one = ap firsts asked in
        let slept = waits.slept in
        let (at, rounds) = rounds_add sema _ slept.times waits.first slept.last begun.asks.seat
        slept.rounds in
        let end = end_adds sema _ slept.last waits.ending _ at slept.ends in
        let begins : Awaiting =
        record { process = waits.process; notes = notes_of waits.ending } in
        let rendez = rendez_at sema before.at.seat in
        let looks = rw not_expired at waits.ended.awaits.looks in
        let none = not_looked rendez waits.ended.awaits.times begins waits.ended.awaited looks in
        let none_lies = ap (λ a. lay_down a.process) none in
        let none_drains = ap (λ a. drained a.process) none in
        let kept = keeps_adds waits.ending waits.ended.expired _ told _ after.at.process
        waits.ended.kept in
        record {
          times = slept.times + 1;
          lies = omega (arith, lies, rounds.lies, end.lies, none_lies, kept.0);
          drains = omega (arith, drains, rounds.drains, end.drains, none_drains, kept.1);
          asks = omega (arith, calls, rounds.asks, end.asks);
          firsts = omega (arith, one, rounds.firsts, end.firsts);
        }

    -- what was put back is taken again, or a note is taken before a sleep that so passes it
    takes_notes_without_a_sleep : drained after.at.process ≢ drained before.at.process → ⊥
    takes_notes_without_a_sleep other = other has_slept.drains

    -- it lies down again though notes ended its sleep, or its sleep was refused: twice after one
    -- request
    sleeps_on : lay_down after.at.process ≡ lay_down before.at.process + 2
        → length (own after.at.seat) ≡ length (own before.at.seat) + 2 → ⊥
    sleeps_on twice two =
        let slept = has_slept in omega (arith, twice, two, slept.lies, slept.asks)

    -- it leaves the line, and comes again after all others
    comes_again : firsts (own after.at.seat) ≡ firsts (own before.at.seat) + 2 → ⊥
    comes_again two = let slept = has_slept in omega (arith, two, slept.firsts)

-- a tick more than there are timers
ticks_too_often : (timers : Timers) (kernel now : ℕ) (before after : Point TimerSeat)
    → timers.procs ≡ 1 → ¬ Ticks timers kernel now 2 before after
ticks_too_often timers kernel now before after one ticks =
    let most = ticks.at_most in omega (arith, one, most)
