-- What a process does that ticks a clock. Own.
use Rattle.std.specs.Prelude.{◌≡◌, ◌≢◌, ◌<◌, ◌+◌, ◌^◌, ℕ, Option, Some, None}
use Rattle.std.specs.Borrow.{Bor}
use Rattle.sync_base.specs.declared.note.NoteSet.{NoteSet}
use Rattle.sync_base.specs.NoteSet.{no_notes}
use Rattle.rendez_words.specs.Steps.{drains}
use Rattle.rendez_words.specs.Words.{procs_of}
use Rattle.sleep_wakeup.specs.Kernel.{Running}
use Rattle.timer_list.specs.Ticking.{Ticks}
use Rattle.waiting.specs.Waiting.{point}
use Rattle.pipe_dev.specs.Rounds.{Rounds}
use Rattle.plan9.specs.declared.ticker.Beat.{Beat}
use Rattle.plan9.specs.declared.ticker.RealTime.{RealTime}
use Rattle.plan9.specs.Watches.{IsSameWatch, Watching}

-- it took the notes that were pending, and is otherwise as it was
pub record Looks (old : Running) (came : NoteSet) (new : Running) : Type 0 where
  pub words_are : new.words ≡ old.words
  pub took : new.process ≡ drains old.process came

-- a beat goes on, up to the last number, and returns where it is; where it began and where it
-- shows its moments stay
pub record IsBeat {Clock : Type 0} (old : Beat Clock) (moment : ℕ) (new : Beat Clock) :
    Type 0 where
  pub on : old.now + 1 < 2 ^ 64 → old.now < moment
  pub beat_is : new ≡ record old { now = moment }

-- moments are shown in an atomic, which is this one
abbrev pub IsShownAt : {Atomic : Type 0} → Atomic → Option (Bor Atomic) → Type 0
IsShownAt place None = ⊥
IsShownAt place (Some shown) = shown.now ≡ place

-- a beat that begins where this real time began, at the moment 0, and shows there the moments that
-- it gives
pub record IsBeatOf {Clock : Type 0} (time : RealTime) (beat : Beat Clock) : Type 0 where
  pub began_is : beat.began ≡ time.began
  pub from_zero : beat.now ≡ 0
  pub shown : IsShownAt time.told beat.shown

-- a watch, the process that ticks by it, and the time that it asks for its moments
pub record Timed (TickSource : Type 0) : Type 0 where
  pub watch : Watching
  pub proc : Running
  pub time : TickSource

abbrev pub timed : {TickSource : Type 0} → Watching → Running → TickSource → Timed TickSource
timed watch proc time = record { watch = watch; proc = proc; time = time }

-- these notes were pending, and it did nothing but take them
pub record EndsTicking {TickSource : Type 0} (old : Timed TickSource) (came : NoteSet)
    (new : Timed TickSource) :
    Type 0 where
  pub some : came ≢ no_notes
  pub watch_is : new.watch ≡ old.watch
  pub looked : Looks old.proc came new.proc
  pub time_is : new.time ≡ old.time

module _ {TickSource : Type 0} (tells : TickSource → ℕ → TickSource → Type 0) where
  -- no note was pending, and then it asked the time once, and ticked once at the moment that came
  pub record TicksOnce (old new : Timed TickSource) : Type 0 where
    pub looked : Running
    pub none : Looks old.proc no_notes looked
    pub now : ℕ
    pub told : tells old.time now new.time
    pub expired : ℕ
    pub same : IsSameWatch old.watch new.watch
    pub words_are : new.proc.words ≡ looked.words
    pub called : Ticks old.watch.timers (procs_of looked.words) now expired
        (point old.watch.seat looked) (point new.watch.seat new.proc)

  -- some ticks, and then notes
  pub record TicksOn (old : Timed TickSource) (came : NoteSet)
      (new : Timed TickSource) : Type 0 where
    pub times : ℕ
    pub before : Timed TickSource
    pub ticked : Rounds TicksOnce times old before
    pub ended : EndsTicking before came new
