-- What a call with a deadline does: the wait of all devices, and one timer, set and cancelled.
-- After tsemacquire in semacquire(2) and tsleep of the kernel. Own: the ticks, the wait for a note
-- `expired` where a tick took the timer, and which notes are put back. The steps of a process and
-- the requests at its timers are two histories: a timer's seat keeps where the process was when it
-- set the timer last and when it cancelled it last. So the timer is set before the sleeps for the
-- device and cancelled after them. The sleeps for the tick's note come after that.
use Rattle.std.specs.Prelude.{◌≡◌, ◌≢◌, ◌⊎◌, ⊤, ℕ, zero, suc, Bool, true, false, Some, None}
use Rattle.std.specs.Prelude.{Result, Ok, Err}
use Rattle.std.proofs.Common.{inl, inr}
use Rattle.kernel_lock.specs.Seats.{number_of, opening_of, seen_of}
use Rattle.rendez_words.specs.Process.{Process, pid_in}
use Rattle.rendez_words.specs.Steps.{posts, drains, notes}
use Rattle.sleep_core.specs.declared.answer.Answer.TheVariants as answer
use Rattle.sleep_wakeup.specs.Calls.{Sleeps}
use Rattle.sleep_wakeup.specs.Kernel.{Running}
use Rattle.sync_base.specs.declared.fault.Fault.{Fault}
use Rattle.sync_base.specs.declared.fault.Fault.TheVariants as fault
use Rattle.sync_base.specs.declared.ids.RendezId.{RendezId}
use Rattle.sync_base.specs.declared.note.Note.TheVariants.{Expired}
use Rattle.sync_base.specs.declared.note.NoteSet.{NoteSet}
use Rattle.sync_base.specs.NoteSet.{no_notes, joined, holds}
use Rattle.timer_list.specs.declared.limits.TheConstants.{LAST_THRESHOLD}
use Rattle.timer_list.specs.declared.timer_object.TimerCall.TheVariants.{Add, Cancel}
use Rattle.timer_list.specs.declared.timer_object.TimerReply.TheVariants as told
use Rattle.timer_list.specs.declared.timers.Timers.{Timers}
use Rattle.timer_list.specs.declared.timers.TimerSeat.{TimerSeat}
use Rattle.timer_list.specs.Asking.{AsksTimers, cancel_reply}
use Rattle.timer_list.specs.Definitions.{timer_definition}
use Rattle.timer_list.specs.Seats.{set_at, cancelled_at}
use Rattle.timer_list.specs.TimerHistory.{WasTaken}
use Rattle.waiting.specs.declared.call.Reply.TheVariants.{Wait}
use Rattle.waiting.specs.declared.wait.WaitEnd.{WaitEnd}
use Rattle.waiting.specs.declared.wait.WaitEnd.TheVariants.{Answered, Stopped}
use Rattle.waiting.specs.Runners.{RunPoint, Runs}
use Rattle.waiting.specs.Waiting.{Promise, WaitPoint, SleepsOn, reply_of}

-- ---- the note of a tick

-- the notes that ended a sleep
abbrev pub notes_in : Fault → NoteSet
notes_in (fault.Interrupted set) = set
notes_in other = no_notes

-- the notes that ended the sleeps of a call
abbrev pub notes_of : {Out : Type 0} → WaitEnd Out → NoteSet
notes_of (Answered answer) = no_notes
notes_of (Stopped why out) = notes_in why

-- these notes came: it slept with the last threshold, above which only a hangup's level is; or
-- another process sleeps there, and it took the notes without a sleep
abbrev pub LooksForTick : RendezId → Process → NoteSet → Process → Type 0
LooksForTick rendez before set after =
    Sleeps before rendez LAST_THRESHOLD set after
    ⊎ (after ≡ drains (posts before rendez LAST_THRESHOLD answer.DoubleSleep) set)

-- a process, and the notes that have come to its call
pub record Awaiting : Type 0 where
  pub process : Process
  pub notes : NoteSet

abbrev pub awaiting : Running → NoteSet → Awaiting
awaiting proc set = record { process = proc.process; notes = set }

-- it looked once more: a tick took its timer, and no note `expired` had come yet
pub record LooksAgain (rendez : RendezId) (expired : Bool) (Before : Awaiting → Type 0)
    (now : Awaiting) : Type 0 where
  pub between : Awaiting
  pub looks : Before between
  pub took : expired ≡ true
  pub to_come : holds between.notes Expired ≡ false
  pub set : NoteSet
  pub looked : LooksForTick rendez between.process set now.process
  pub notes_are : now.notes ≡ joined between.notes set

abbrev pub Looks : RendezId → Bool → ℕ → Awaiting → Awaiting → Type 0
Looks rendez expired zero first now = now ≡ first
Looks rendez expired (suc times) first now =
    LooksAgain rendez expired (Looks rendez expired times first) now

-- where a tick took its timer, it looked until a note `expired` had come
pub record AwaitsTick (rendez : RendezId) (expired : Bool) (first last : Awaiting) : Type 0 where
  pub times : ℕ
  pub looks : Looks rendez expired times first last
  pub came : expired ≡ true → holds last.notes Expired ≡ true

-- ---- the answer

-- all of these notes but the one that a tick posts
abbrev pub without_expired : NoteSet → NoteSet
without_expired set = record set { expired = false }

-- there are no notes and nothing is done, or they are pending again, all at once
abbrev pub PutsBackAny : NoteSet → Process → Process → Type 0
PutsBackAny set before after =
    ((set ≡ no_notes) × (after ≡ before))
    ⊎ ((set ≢ no_notes) × (after ≡ notes before (pid_in before) set))

module _ {Out : Type 0} (expired : Bool) (others : NoteSet) where
  -- notes ended it: it timed out where a tick took its timer and no other note came, and else these
  -- other notes are its answer
  abbrev pub IsEndedByNotes : Result Out Fault → Type 0
  IsEndedByNotes (Err fault.TimedOut) = (expired ≡ true) × (others ≡ no_notes)
  IsEndedByNotes (Err (fault.Interrupted set)) =
      (set ≡ others) × (expired ≡ true → set ≢ no_notes)
  IsEndedByNotes answer = ⊥

  -- its answer, and what becomes of the other notes that came: they are its answer, or else they
  -- are put back
  abbrev pub Keeps : WaitEnd Out → Result Out Fault → Process → Process → Type 0
  Keeps (Answered told) answer before after =
      (answer ≡ told) × PutsBackAny others before after
  Keeps (Stopped why (Some out)) answer before after =
      (answer ≡ Ok out) × PutsBackAny others before after
  Keeps (Stopped (fault.Interrupted set) None) answer before after =
      IsEndedByNotes answer × (after ≡ before)
  Keeps (Stopped why None) answer before after =
      (answer ≡ Err why) × PutsBackAny others before after

-- ---- the call

-- the timer of the seat was set last when its process was there, and cancelled last when it was
-- here
pub record Stood (timer : TimerSeat) (there here : Process) : Type 0 where
  pub set : set_at timer ≡ Some there
  pub cancelled : cancelled_at timer ≡ Some here

-- the state of a call with a deadline: its seats, and the steps of its process
abbrev pub TimedPoint : Type 0 → Type 0
TimedPoint Seat = RunPoint TimerSeat Seat

-- A call cancelled its timer. After its sleeps it waited for a note `expired` where a tick had
-- taken the timer, and kept what came.
pub record TimedEnd {Out : Type 0} (rendez : RendezId) (timers : Timers) (set : TimerSeat)
    (ending : WaitEnd Out) (slept : Process) (answer : Result Out Fault) (timer : TimerSeat)
    (after : Process) : Type 0 where
  -- whether a tick had taken its timer
  pub expired : Bool
  pub cancelled : AsksTimers timers false (Cancel (number_of set.seat)) (cancel_reply expired)
      set timer
  -- the process when that note had come
  pub awaited : Awaiting
  pub awaits : AwaitsTick rendez expired (record { process = slept; notes = notes_of ending })
      awaited
  pub kept : Keeps expired (without_expired awaited.notes) ending answer awaited.process after

module _ {Seat Out : Type 0} (promise : Promise Seat Out) (rendez : RendezId) (timers : Timers)
    (moment : ℕ) where
  -- it was answered at once, and set no timer
  pub record BegunAtOnce (before : TimedPoint Seat) (answer : Result Out Fault)
      (after : TimedPoint Seat) : Type 0 where
    pub begun : promise.begun before.at (reply_of answer) after.at
    pub timer : after.timer ≡ before.timer

  -- It had to wait: it set its timer, once; it slept; and it ended like this.
  pub record TimedWait (before : TimedPoint Seat) (answer : Result Out Fault)
      (after : TimedPoint Seat) : Type 0 where
    pub first : WaitPoint Seat
    pub set : TimerSeat
    pub ending : WaitEnd Out
    pub process : Process
    pub begun : promise.begun before.at (Wait first.number) first.at
    pub added : AsksTimers timers true
        (Add (number_of before.timer.seat) (pid_in before.at.process) moment) told.Added
        before.timer set
    pub slept : SleepsOn promise rendez first ending
        (record { seat = after.at.seat; process = process })
    pub ended : TimedEnd rendez timers set ending process answer after.timer after.at.process
    -- where a tick took its timer, the tick came at its deadline or later
    pub taken : ended.expired ≡ true
        → WasTaken (opening_of timer_definition timers.lock) (number_of before.timer.seat)
        moment (seen_of after.timer.seat)

  -- A call until this moment: it asked, and was answered at once, or had to wait, and waited with a
  -- timer.
  abbrev pub TimedCall : TimedPoint Seat → Result Out Fault → TimedPoint Seat → Type 0
  TimedCall before answer after =
      BegunAtOnce before answer after ⊎ TimedWait before answer after

  -- where it waited for its device, its timer was set last before the first sleep for that, and
  -- cancelled last after the last such sleep
  abbrev pub StoodMeanwhile : (before : TimedPoint Seat) (answer : Result Out Fault)
      (after : TimedPoint Seat) → TimedCall before answer after → Type 0
  StoodMeanwhile before answer after (inl at_once) = ⊤
  StoodMeanwhile before answer after (inr waits) =
      Stood after.timer waits.first.at.process waits.process

  -- A call until this moment, with its timer set before its sleeps for its device and cancelled
  -- after them. A tick may take the timer in between.
  pub record TimedThroughout (before : TimedPoint Seat) (answer : Result Out Fault)
      (after : TimedPoint Seat) : Type 0 where
    pub call : TimedCall before answer after
    pub stood : StoodMeanwhile before answer after call

-- it waits until this moment at these timers, with its timer set before its sleeps for its device
-- and cancelled after them
abbrev pub timed_throughout : Timers → ℕ → Runs TimerSeat
timed_throughout timers moment =
    record { ran = λ promise rendez. TimedThroughout promise rendez timers moment }
