-- What tick promises. Own: tsemacquire in semacquire(2) has a clock of its own.
use Rattle.std.specs.Prelude.{◌≡◌, ◌⊎◌, ◌≤◌, ◌<◌, ℕ, nat_lt, IsTrue, false, List, [], ◌∷◌, length}
use Rattle.rendez_words.specs.Process.{Process}
use Rattle.rendez_words.specs.Steps.{notes}
use Rattle.sync_base.specs.declared.ids.Pid.{Pid}
use Rattle.sync_base.specs.declared.note.Note.TheVariants.{Expired}
use Rattle.sync_base.specs.NoteSet.{only}
use Rattle.timer_list.specs.declared.timer_object.TimerCall.TheVariants.{Expire}
use Rattle.timer_list.specs.declared.timer_object.TimerReply.TheVariants as told
use Rattle.timer_list.specs.declared.timers.Timers.{Timers}
use Rattle.timer_list.specs.declared.timers.TimerSeat.{TimerSeat}
use Rattle.timer_list.specs.Asking.{AsksTimers}
use Rattle.waiting.specs.Waiting.{Point}

-- the process of an expired timer is posted the note of a tick, where its kernel has that process
pub record Tells (kernel : ℕ) (pid : Pid) (before after : Process) : Type 0 where
  pub told : IsTrue (nat_lt pid.0 kernel) → after ≡ notes before pid (only Expired)
  pub other : nat_lt pid.0 kernel ≡ false → after ≡ before

-- the answer was that no timer is due
pub record FindsNone (timers : Timers) (now : ℕ) (before after : Point TimerSeat) : Type 0 where
  pub asks : AsksTimers timers false (Expire now) told.NoneDue before.seat after.seat
  pub idle : after.process ≡ before.process

module _ (timers : Timers) (kernel now : ℕ) where
  -- one more timer expired at this moment, and right after that the note was posted to its process
  pub record ExpiresOneMore (Before : Point TimerSeat → Type 0) (pid : Pid)
      (after : Point TimerSeat) : Type 0 where
    pub between : Point TimerSeat
    pub others : Before between
    pub ended : AsksTimers timers false (Expire now) (told.Ended pid) between.seat after.seat
    pub tells : Tells kernel pid between.process after.process

  -- the timers of these processes expired, the newest first
  abbrev pub Expires : List Pid → Point TimerSeat → Point TimerSeat → Type 0
  Expires [] before after = after ≡ before
  Expires (pid ∷ others) before after = ExpiresOneMore (Expires others before) pid after

  -- A tick at this moment, in a kernel of `kernel` processes: `count` timers expired, until no
  -- timer was due or as many had expired as there are.
  pub record Ticks (count : ℕ) (before after : Point TimerSeat) : Type 0 where
    pub ended : List Pid
    pub last : Point TimerSeat
    pub expires : Expires ended before last
    pub count_is : count ≡ length ended
    pub at_most : count ≤ timers.procs
    pub stops : ((count < timers.procs) × FindsNone timers now last after)
        ⊎ ((count ≡ timers.procs) × (after ≡ last))
