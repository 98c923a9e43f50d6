-- What a seat asks of its timers, one request at a time, and what the typed answers stand for.
use Rattle.std.specs.Prelude.{◌≡◌, ℕ, ◌<◌, Bool, true, false, List, length, not, Option, Some, None}
use Rattle.kernel_lock.specs.Calls.{Serves}
use Rattle.kernel_lock.specs.Seats.{number_of, view_of}
use Rattle.rendez_words.specs.Process.{Process}
use Rattle.sync_base.specs.declared.ids.Pid.{Pid}
use Rattle.timer_list.specs.declared.timer_object.Timer.{Timer}
use Rattle.timer_list.specs.declared.timer_object.TimerCall.{TimerCall}
use Rattle.timer_list.specs.declared.timer_object.TimerCall.TheVariants.{Add, Expire, Cancel}
use Rattle.timer_list.specs.declared.timer_object.TimerReply.{TimerReply}
use Rattle.timer_list.specs.declared.timer_object.TimerReply.TheVariants as told
use Rattle.timer_list.specs.declared.timers.Timers.{Timers}
use Rattle.timer_list.specs.declared.timers.TimerSeat.{TimerSeat}
use Rattle.timer_list.specs.Seats.{IsSeatAtTimers, set_at, cancelled_at}
use Rattle.timer_list.specs.Timers.{may_add, timer_of}
use Rattle.timer_list.specs.Timers as timing

module _ (timers : Timers) (set : Bool) (call : TimerCall) (answer : TimerReply) where
  -- The seat asked this under its own number and got this answer, both in one legal history; and
  -- `set` says whether its timer is set now, or expired and not cancelled.
  pub record AsksTimers (before after : TimerSeat) : Type 0 where
    pub served : Serves (record { by = number_of before.seat; request = call; reply = answer })
        (view_of before.seat) (view_of after.seat)
    pub seat : IsSeatAtTimers timers set after
    pub number : number_of after.seat ≡ number_of before.seat

-- The seat was asked for this process, and notes where the process was then: as its timer was set
-- last, and as that was cancelled last.
abbrev pub IsMarked : TimerCall → Process → TimerSeat → TimerSeat → Type 0
IsMarked (Add seat pid deadline) process before after =
    (set_at after ≡ Some process) × (cancelled_at after ≡ cancelled_at before)
IsMarked (Cancel seat) process before after =
    (set_at after ≡ set_at before) × (cancelled_at after ≡ Some process)
IsMarked (Expire now) process before after =
    (set_at after ≡ set_at before) × (cancelled_at after ≡ cancelled_at before)

-- ---- answers

-- whether the timer had expired
abbrev pub cancel_reply : Bool → TimerReply
cancel_reply true = told.Expired
cancel_reply false = told.Removed

-- the process of a timer that expired now, where a timer did
abbrev pub expire_reply : Option Pid → TimerReply
expire_reply (Some pid) = told.Ended pid
expire_reply None = told.NoneDue

-- What a request of a seat finds: a state that the timers can be in, in which the seat's timer is
-- as its own calls say, and from which this answer follows.
pub record IsTimed (procs number : ℕ) (set : Bool) (call : TimerCall) (answer : TimerReply) :
    Type 0 where
  pub state : List Timer
  pub size : length state ≡ procs
  pub within : number < procs
  pub free : may_add (timer_of state number) ≡ not set
  pub answer_is : answer ≡ timing.answer_to state call
