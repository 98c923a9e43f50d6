-- Calls with a deadline that did what none may do, each against one row.
use Rattle.std.proofs.Common.{◌≡◌, ◌≢◌, ℕ, Bool, true, false, Some, None, Result, Ok, Err, inl}
use Rattle.std.proofs.Common.{inr, refl, sym, ap, ◌∙◌, ◌<◌, arith, length, unwrap_or}
use Rattle.kernel_lock.specs.Seats.{number_of, opening_of, seen_of}
use Rattle.rendez_words.specs.Process.{Process, pid_in}
use Rattle.rendez_words.specs.Steps.{notes}
use Rattle.sync_base.specs.declared.fault.Fault.{Fault}
use Rattle.sync_base.specs.declared.fault.Fault.TheVariants as fault
use Rattle.sync_base.specs.declared.ids.RendezId.{RendezId}
use Rattle.sync_base.specs.declared.note.Note.TheVariants.{Alarm, Expired}
use Rattle.sync_base.specs.declared.note.NoteSet.{NoteSet}
use Rattle.sync_base.specs.NoteSet.{no_notes, joined, only, holds}
use Rattle.timer_list.specs.declared.limits.TheConstants.{LAST_THRESHOLD}
use Rattle.timer_list.specs.declared.timers.Timers.{Timers}
use Rattle.timer_list.specs.declared.timers.TimerSeat.{TimerSeat}
use Rattle.timer_list.specs.Definitions.{timer_definition}
use Rattle.timer_list.specs.Seats.{cancelled_at, set_at}
use Rattle.timer_list.specs.TimerHistory.{WasTaken}
use Rattle.timer_list.specs.Timing.{AwaitsTick, Awaiting, BegunAtOnce}
use Rattle.timer_list.specs.Timing.{IsEndedByNotes, Keeps, Looks, LooksForTick, PutsBackAny}
use Rattle.timer_list.specs.Timing.{Stood, StoodMeanwhile, TimedThroughout}
use Rattle.timer_list.specs.Timing.{TimedPoint, TimedCall, TimedWait, notes_in, notes_of}
use Rattle.timer_list.specs.Timing.{without_expired}
use Rattle.timer_list.specs.Sleeping.{sleeping}
use Rattle.waiting.specs.declared.call.Reply.TheVariants.{Done, Wait}
use Rattle.waiting.specs.declared.wait.WaitEnd.{WaitEnd}
use Rattle.waiting.specs.declared.wait.WaitEnd.TheVariants.{Answered, Stopped}
use Rattle.waiting.specs.Waiting.{Point, Promise, reply_of}

-- the steps of a process, counted
abbrev steps_of : Process → ℕ
steps_of process = length process.trace

-- no level but that of a hangup is above it
the_last_threshold_is : LAST_THRESHOLD ≡ 18446744073709551614
the_last_threshold_is = refl

-- ---- the note of a tick

the_notes_are : (notes_in (fault.Interrupted (only Alarm)) ≡ only Alarm)
    × (notes_in fault.DoubleSleep ≡ no_notes)
    × (notes_of {Out = Unit} (Stopped (fault.Interrupted (only Alarm)) None) ≡ only Alarm)
    × (notes_of {Out = Unit} (Answered (Ok tt)) ≡ no_notes)
    × (without_expired (only Expired) ≡ no_notes) × (without_expired (only Alarm) ≡ only Alarm)
the_notes_are = (refl, refl, refl, refl, refl, refl)

module _ (rendez : RendezId) (first last : Awaiting) where
  -- a tick took its timer, and it does not wait for the note of that tick
  leaves_a_note_behind : holds last.notes Expired ≡ false → ¬ AwaitsTick rendez true first last
  leaves_a_note_behind to_come awaits =
      let clash : false ≡ true = sym to_come ∙ awaits.came refl in cc

  -- it looks again, though the note of the tick has come
  looks_after_the_tick : (looks : Looks rendez true 1 first last)
      → holds first.notes Expired ≡ true → ⊥
  looks_after_the_tick looks came =
      let same = ap (λ (a : Awaiting). holds a.notes Expired) looks.looks in
      let clash : true ≡ false = sym came ∙ (sym same ∙ looks.to_come) in
      cc

  looks_for_no_tick : ¬ Looks rendez false 1 first last
  looks_for_no_tick looks = let clash : false ≡ true = looks.took in cc

  -- notes that come are kept with those that had come
  what_comes_is_kept : (looks : Looks rendez true 1 first last)
      → last.notes ≡ joined looks.between.notes looks.set
  what_comes_is_kept looks = looks.notes_are

  it_looks_in_its_rendez : (looks : Looks rendez true 1 first last)
      → LooksForTick rendez looks.between.process looks.set last.process
  it_looks_in_its_rendez looks = looks.looked

-- ---- the answer

-- of a call that comes to a unit
abbrev Kept : Bool → NoteSet → WaitEnd Unit → Result Unit Fault → Process → Process → Type 0
Kept = Keeps

abbrev Ended : Bool → NoteSet → Result Unit Fault → Type 0
Ended = IsEndedByNotes

module _ (before : Process) where
  drops_its_notes : ¬ Kept false (only Alarm) (Answered (Ok tt)) (Ok tt) before before
  drops_its_notes kept = by kept.1
    where
      by : ¬ PutsBackAny (only Alarm) before before
      by (inl none) = let clash : true ≡ false = ap (λ s. holds s Alarm) none.0 in cc
      by (inr back) = let steps = ap steps_of back.1 in omega (arith, steps)

  -- a call to which no notes came posts none
  posts_no_notes :
      ¬ Kept false no_notes (Answered (Ok tt)) (Ok tt) before
      (notes before (pid_in before) no_notes)
  posts_no_notes kept = by kept.1
    where
      by : ¬ PutsBackAny no_notes before (notes before (pid_in before) no_notes)
      by (inl none) = let steps = ap steps_of none.1 in omega (arith, steps)
      by (inr back) = back.0 refl

  answers_another_end : ¬ Kept false no_notes (Answered (Ok tt)) (Err fault.Worn) before before
  answers_another_end kept = let clash : Err fault.Worn ≡ Ok tt = kept.0 in cc

  late_and_refused :
      ¬ Kept false no_notes (Stopped fault.DoubleSleep (Some tt)) (Err fault.DoubleSleep)
      before before
  late_and_refused kept = let clash : Err fault.DoubleSleep ≡ Ok tt = kept.0 in cc

  refused_and_timed_out :
      ¬ Kept true no_notes (Stopped fault.DoubleSleep None) (Err fault.TimedOut) before before
  refused_and_timed_out kept =
      let clash : Err fault.TimedOut ≡ Err fault.DoubleSleep = kept.0 in cc

  interrupted_and_puts_back :
      ¬ Kept false (only Alarm) (Stopped (fault.Interrupted (only Alarm)) None)
      (Err (fault.Interrupted (only Alarm))) before
      (notes before (record { 0 = before.pid }) (only Alarm))
  interrupted_and_puts_back kept = let steps = ap steps_of kept.1 in omega (arith, steps)

times_out_without_a_tick : ¬ Ended false no_notes (Err fault.TimedOut)
times_out_without_a_tick ended = let clash : false ≡ true = ended.0 in cc

times_out_with_an_alarm : ¬ Ended true (only Alarm) (Err fault.TimedOut)
times_out_with_an_alarm ended =
    let clash : true ≡ false = ap (λ s. holds s Alarm) ended.1 in cc

a_tick_alone_interrupts : ¬ Ended true no_notes (Err (fault.Interrupted no_notes))
a_tick_alone_interrupts ended = ended.1 refl refl

answers_other_notes : ¬ Ended false (only Alarm) (Err (fault.Interrupted no_notes))
answers_other_notes ended =
    let clash : false ≡ true = ap (λ s. holds s Alarm) ended.0 in cc

notes_are_no_unit : (others : NoteSet) → ¬ Ended true others (Ok tt)
notes_are_no_unit others ended = ended

-- ---- the call

module _ {Seat : Type 0} (promise : Promise Seat Unit) (rendez : RendezId) (watch : Timers)
    (moment : ℕ) (before after : TimedPoint Seat) (answer : Result Unit Fault) where
  at_once_and_sets_its_timer : after.timer ≢ before.timer
      → ¬ BegunAtOnce promise rendez watch moment before answer after
  at_once_and_sets_its_timer other begun = other begun.timer

  at_once_without_asking : ¬ promise.begun before.at (reply_of answer) after.at
      → ¬ BegunAtOnce promise rendez watch moment before answer after
  at_once_without_asking none begun = none begun.begun

  neither_at_once_nor_timed : ¬ BegunAtOnce promise rendez watch moment before answer after
      → ¬ TimedWait promise rendez watch moment before answer after
      → ¬ TimedCall promise rendez watch moment before answer after
  neither_at_once_nor_timed begun waits (inl at_once) = begun at_once
  neither_at_once_nor_timed begun waits (inr waited) = waits waited

  -- a tick took its timer before the deadline
  times_out_too_early : (waits : TimedWait promise rendez watch moment before answer after)
      → waits.ended.expired ≡ true
      → ¬ WasTaken (opening_of timer_definition watch.lock) (number_of before.timer.seat)
      moment (seen_of after.timer.seat) → ⊥
  times_out_too_early waits is none = none (waits.taken is)

  -- it sleeps before its timer is set: the process has gone on since it began to wait
  sleeps_before_its_timer : (waits : TimedWait promise rendez watch moment before answer after)
      → set_at after.timer ≡ Some waits.process
      → steps_of waits.first.at.process < steps_of waits.process
      → ¬ StoodMeanwhile promise rendez watch moment before answer after (inr waits)
  sleeps_before_its_timer waits late fewer stood =
      let steps = ap (λ p. steps_of (unwrap_or p waits.process)) (sym late ∙ stood.set) in
      omega (arith, fewer, steps)

  -- it sleeps on once its timer is cancelled: the process has gone on since
  sleeps_without_its_timer : (waits : TimedWait promise rendez watch moment before answer after)
      (between : Process) → cancelled_at after.timer ≡ Some between
      → steps_of between < steps_of waits.process
      → ¬ StoodMeanwhile promise rendez watch moment before answer after (inr waits)
  sleeps_without_its_timer waits between early fewer stood =
      let steps = ap (λ p. steps_of (unwrap_or p between)) (sym early ∙ stood.cancelled) in
      omega (arith, fewer, steps)

  -- it is a call until that moment, and its timer stood meanwhile
  with_a_timer_and_no_call : ¬ TimedCall promise rendez watch moment before answer after
      → ¬ TimedThroughout promise rendez watch moment before answer after
  with_a_timer_and_no_call none through = none through.call

  its_timer_stood : (through : TimedThroughout promise rendez watch moment before answer after)
      → StoodMeanwhile promise rendez watch moment before answer after through.call
  its_timer_stood through = through.stood

  -- who is answered at once needs no timer
  at_once_without_a_timer : (begun : BegunAtOnce promise rendez watch moment before answer after)
      → TimedThroughout promise rendez watch moment before answer after
  at_once_without_a_timer begun = record { call = inl begun; stood = tt }

-- a timer that was never set, or is not cancelled, stood while nobody slept
never_set : (timer : TimerSeat) (there here : Process) → set_at timer ≡ None
    → ¬ Stood timer there here
never_set timer there here none stood =
    let clash : None ≡ Some there = sym none ∙ stood.set in cc

never_cancelled : (timer : TimerSeat) (there here : Process) → cancelled_at timer ≡ None
    → ¬ Stood timer there here
never_cancelled timer there here none stood =
    let clash : None ≡ Some here = sym none ∙ stood.cancelled in cc

-- ---- a sleep as a call

module _ (before after : Point Unit) where
  sleeps_with_another_threshold : ¬ (sleeping 4).begun before (Wait 3) after
  sleeps_with_another_threshold begun = omega (arith, begun.0)

  sleeps_with_a_threshold_above : ¬ (sleeping 4).begun before (Wait 5) after
  sleeps_with_a_threshold_above begun = omega (arith, begun.0)

  is_over_before_it_sleeps : ¬ (sleeping 4).begun before (Done tt) after
  is_over_before_it_sleeps begun = begun

  does_more_as_it_begins : after ≢ before → ¬ (sleeping 4).begun before (Wait 4) after
  does_more_as_it_begins other begun = other begun.1

  sleeps_once_more : ¬ (sleeping 4).asked before (Wait 4) after
  sleeps_once_more asked = asked

  does_more_as_it_ends : after ≢ before → ¬ (sleeping 4).asked before (Done tt) after
  does_more_as_it_ends other asked = other asked

comes_to_something_late : ¬ (sleeping 4).left tt (Some tt) tt
comes_to_something_late left = left

comes_to_nothing : (sleeping 4).left tt None tt
comes_to_nothing = tt
