-- What holds of timers after every legal history, said of the definitions alone.
use Rattle.std.specs.Prelude.{◌≡◌, ℕ, ◌<◌, List, ◌∷◌, ◌++◌, length}
use Rattle.histories.specs.History.{state_after, IsLegal}
use Rattle.sync_base.specs.declared.ids.Pid.{Pid}
use Rattle.timer_list.specs.declared.timer_object.Timer.{Timer}
use Rattle.timer_list.specs.declared.timer_object.TimerCall.TheVariants.{Add, Cancel}
use Rattle.timer_list.specs.declared.timer_object.TimerReply.TheVariants as told
use Rattle.timer_list.specs.TimerHistory.{TimerEntry, timer_meaning, AreByOthersThan, WasTaken}

-- the seat set its timer, others called, and the seat got the answer that it had expired
pub record IsTaken (opening : List Timer) (seat deadline : ℕ) (pid : Pid)
    (since past : List TimerEntry) (added cancelled : TimerEntry) : Type 0 where
  pub legal : IsLegal timer_meaning opening (cancelled ∷ (since ++ (added ∷ past)))
  pub within : seat < length (state_after timer_meaning opening past)
  pub added_is : added.request ≡ Add seat pid deadline
  pub added_told : added.reply ≡ told.Added
  pub cancelled_is : cancelled.request ≡ Cancel seat
  pub cancelled_told : cancelled.reply ≡ told.Expired
  pub others : AreByOthersThan seat since

-- an Expire at its deadline or later took it, and no other timer was to expire before it
abbrev pub ExpiredWasTaken : Type 0
ExpiredWasTaken =
    (opening : List Timer) (seat deadline : ℕ) (pid : Pid) (since past : List TimerEntry)
    (added cancelled : TimerEntry) →
    IsTaken opening seat deadline pid since past added cancelled →
    WasTaken opening seat deadline (cancelled ∷ (since ++ (added ∷ past)))
