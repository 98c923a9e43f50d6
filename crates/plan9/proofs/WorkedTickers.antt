-- What is no look, no tick and no end of a ticker: each against one row of what a ticker does. And
-- where each tick is of a time that counts.
use Rattle.std.proofs.Common.{◌≡◌, ◌≢◌, ◌+◌, ℕ, None, Some, refl, ap, arith, subst}
use Rattle.sync_base.specs.declared.note.NoteSet.{NoteSet}
use Rattle.sync_base.specs.NoteSet.{no_notes}
use Rattle.rendez_words.specs.Steps.{drains}
use Rattle.rendez_words.specs.Words.{procs_of}
use Rattle.sleep_wakeup.specs.Kernel.{Running}
use Rattle.timer_list.specs.Ticking.{Ticks}
use Rattle.waiting.specs.Waiting.{point}
use Rattle.pipe_dev.specs.Rounds.{Rounds}
use Rattle.std.specs.Borrow.{Bor}
use Rattle.plan9.specs.declared.ticker.Beat.{Beat}
use Rattle.plan9.specs.declared.ticker.RealTime.{RealTime}
use Rattle.plan9.specs.Tickers.{IsBeatOf, IsShownAt}
use Rattle.plan9.specs.Tickers.{IsBeat, Timed, Looks, TicksOnce, EndsTicking, TicksOn}
use Rattle.plan9.specs.Watches.{IsSameWatch}

module _ (old new : Running) (came : NoteSet) where
  a_look_at_another_kernel : new.words ≢ old.words → ¬ Looks old came new
  a_look_at_another_kernel other looks = other looks.words_are

  notes_that_were_not_taken : new.process ≢ drains old.process came → ¬ Looks old came new
  notes_that_were_not_taken other looks = other looks.took

module _ {Clock : Type 0} (old new : Beat Clock) where
  -- a beat stands still, or goes back, or says another moment than its own
  a_beat_that_stands_still : old.now ≡ 3 → ¬ IsBeat old 3 new
  a_beat_that_stands_still at beat =
      let more = beat.on (omega (arith, at)) in omega (arith, at, more)

  a_beat_that_goes_back : old.now ≡ 3 → ¬ IsBeat old 2 new
  a_beat_that_goes_back at beat =
      let more = beat.on (omega (arith, at)) in omega (arith, at, more)

  a_beat_that_says_another_moment : new.now ≡ 4 → ¬ IsBeat old 5 new
  a_beat_that_says_another_moment at beat =
      let is = ap (λ it. it.now) beat.beat_is in omega (arith, at, is)

  -- it begins anew, or shows its moments nowhere any more
  a_beat_that_begins_anew : new.began ≢ old.began → ¬ IsBeat old 5 new
  a_beat_that_begins_anew other beat = other (ap (λ it. it.began) beat.beat_is)

  a_beat_that_hides_its_moments : new.shown ≢ old.shown → ¬ IsBeat old 5 new
  a_beat_that_hides_its_moments other beat = other (ap (λ it. it.shown) beat.beat_is)

-- but at the last number it stands
a_beat_that_stands_at_the_end : {Clock : Type 0} (beat : Beat Clock)
    → beat.now ≡ 18446744073709551615 → IsBeat beat 18446744073709551615 beat
a_beat_that_stands_at_the_end beat at =
    record {
      on = λ more. omega (arith, at, more);
      beat_is = ap (λ now. record beat { now = now }) at;
    }

-- ---- a beat of real time

module _ {Clock : Type 0} (time : RealTime) (beat : Beat Clock) where
  -- it begins at another moment, has told one, or shows none
  a_beat_of_another_begin : beat.began ≢ time.began → ¬ IsBeatOf time beat
  a_beat_of_another_begin other is = other is.began_is

  a_beat_that_has_told : beat.now ≡ 3 → ¬ IsBeatOf time beat
  a_beat_that_has_told told is = let zero = is.from_zero in omega (arith, told, zero)

  a_beat_that_shows_nothing : beat.shown ≡ None → ¬ IsBeatOf time beat
  a_beat_that_shows_nothing none is =
      subst (λ shown. IsShownAt time.told shown) none is.shown

-- an atomic that is shown is the one that is meant
module _ (shown : Bor ℕ) where
  another_is_shown : shown.now ≢ 5 → ¬ IsShownAt 5 (Some shown)
  another_is_shown other is = other is

-- ---- of any time

module _ {TickSource : Type 0} (tells : TickSource → ℕ → TickSource → Type 0)
    (old new : Timed TickSource) where
  notes_end_it_before_a_tick : ((looked : Running) → ¬ Looks old.proc no_notes looked)
      → ¬ TicksOnce tells old new
  notes_end_it_before_a_tick pending ticks = pending ticks.looked ticks.none

  a_tick_at_no_moment_of_its_time : ((moment : ℕ) → ¬ tells old.time moment new.time)
      → ¬ TicksOnce tells old new
  a_tick_at_no_moment_of_its_time none ticks = none ticks.now ticks.told

  a_tick_with_another_watch : ¬ IsSameWatch old.watch new.watch
      → ¬ TicksOnce tells old new
  a_tick_with_another_watch other ticks = other ticks.same

  a_tick_is_at_its_kernel : (ticks : TicksOnce tells old new)
      → new.proc.words ≡ ticks.looked.words
  a_tick_is_at_its_kernel ticks = ticks.words_are

  a_tick_is_one_of_its_timers : (ticks : TicksOnce tells old new)
      → Ticks old.watch.timers (procs_of ticks.looked.words) ticks.now ticks.expired
      (point old.watch.seat ticks.looked) (point new.watch.seat new.proc)
  a_tick_is_one_of_its_timers ticks = ticks.called

module _ {TickSource : Type 0} (old new : Timed TickSource) (came : NoteSet) where
  no_notes_end_it_not : ¬ EndsTicking old no_notes new
  no_notes_end_it_not ends = ends.some refl

  a_tick_after_its_notes : new.watch ≢ old.watch → ¬ EndsTicking old came new
  a_tick_after_its_notes other ends = other ends.watch_is

  an_end_without_a_look : ¬ Looks old.proc came new.proc
      → ¬ EndsTicking old came new
  an_end_without_a_look other ends = other ends.looked

  a_moment_after_its_notes : new.time ≢ old.time → ¬ EndsTicking old came new
  a_moment_after_its_notes other ends = other ends.time_is

module _ {TickSource : Type 0} (tells : TickSource → ℕ → TickSource → Type 0)
    (old new : Timed TickSource)
    (came : NoteSet) where
  an_end_of_no_ticks :
      ((times : ℕ) (before : Timed TickSource) → ¬ Rounds (TicksOnce tells) times old before)
      → ¬ TicksOn tells old came new
  an_end_of_no_ticks none ticks = none ticks.times ticks.before ticks.ticked

  ticks_that_no_notes_end : ((before : Timed TickSource) → ¬ EndsTicking before came new)
      → ¬ TicksOn tells old came new
  ticks_that_no_notes_end none ticks = none ticks.before ticks.ended

-- ---- of a time that counts

-- it is a number, which each moment is one above
abbrev counts : ℕ → ℕ → ℕ → Type 0
counts old moment new = (moment ≡ old + 1) × (new ≡ old + 1)

module _ (old new : Timed ℕ) where
  the_first_tick_is_at_one : old.time ≡ 0 → (ticks : TicksOnce counts old new) → ticks.now ≡ 1
  the_first_tick_is_at_one start ticks = let told = ticks.told.0 in omega (arith, start, told)

  the_second_tick_is_at_two : old.time ≡ 0 → (ticks : Rounds (TicksOnce counts) 2 old new)
      → ticks.last.now ≡ 2
  the_second_tick_is_at_two start ticks =
      let begun = ap (λ it. it.time) ticks.rounds.rounds in
      let first = ticks.rounds.last.told.1 in
      let second = ticks.last.told.0 in
      omega (arith, start, begun, first, second)

  two_ticks_are_two_moments : Rounds (TicksOnce counts) 2 old new → new.time ≡ old.time + 2
  two_ticks_are_two_moments ticks =
      let begun = ap (λ it. it.time) ticks.rounds.rounds in
      let first = ticks.rounds.last.told.1 in
      let second = ticks.last.told.1 in
      omega (arith, begun, first, second)
