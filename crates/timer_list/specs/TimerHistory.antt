-- The history of timers: its calls with their replies, newest first.
use Rattle.std.specs.Prelude.{◌≡◌, ◌≢◌, ℕ, ◌≤◌, List, [], ◌∷◌, ◌++◌, Some, Bool, true, false}
use Rattle.std.specs.List.{AllByRecursion}
use Rattle.histories.specs.History.{Meaning, state_after}
use Rattle.kernel_lock.specs.declared.view.Operation.{Operation}
use Rattle.kernel_lock.specs.Definition.{meaning_of}
use Rattle.sync_base.specs.declared.ids.Pid.{Pid}
use Rattle.timer_list.specs.declared.timer_object.Timer.{Timer}
use Rattle.timer_list.specs.declared.timer_object.TimerCall.{TimerCall}
use Rattle.timer_list.specs.declared.timer_object.TimerCall.TheVariants.{Add, Expire, Cancel}
use Rattle.timer_list.specs.declared.timer_object.TimerReply.{TimerReply}
use Rattle.timer_list.specs.declared.timer_object.TimerReply.TheVariants as told
use Rattle.timer_list.specs.Definitions.{timer_definition}
use Rattle.timer_list.specs.Timers.{first_due}

-- one call: the number of the seat that made it, and its answer
abbrev pub TimerEntry : Type 0
TimerEntry = Operation TimerCall TimerReply

abbrev pub timer_meaning : Meaning (List Timer) TimerEntry
timer_meaning = meaning_of timer_definition

-- whether the seat has a timer that was not cancelled, after a call of it that got this answer
abbrev pub sets_after : TimerCall → TimerReply → Bool → Bool
sets_after (Add seat pid deadline) told.Added before = true
sets_after (Cancel seat) told.Removed before = false
sets_after (Cancel seat) told.Expired before = false
sets_after call reply before = before

-- whether the seat that made these calls has a timer that was not cancelled
abbrev pub has_timer : List TimerEntry → Bool
has_timer [] = false
has_timer (entry ∷ past) = sets_after entry.request entry.reply (has_timer past)

-- the entries are by other seats
abbrev pub AreByOthersThan : ℕ → List TimerEntry → Type 0
AreByOthersThan seat entries = AllByRecursion (λ entry. entry.by ≢ seat) entries

-- A tick took the timer that the seat has just cancelled: since the seat set it to this deadline,
-- an Expire at the deadline or later found it the first timer that was due.
pub record WasTaken (opening : List Timer) (seat deadline : ℕ) (history : List TimerEntry) :
    Type 0 where
  pub cancelled : TimerEntry
  pub later : List TimerEntry
  pub expired : TimerEntry
  pub earlier : List TimerEntry
  pub added : TimerEntry
  pub past : List TimerEntry
  pub history_is : history ≡ cancelled ∷ (later ++ (expired ∷ (earlier ++ (added ∷ past))))
  -- this call's timer
  pub pid : Pid
  pub added_is : added.request ≡ Add seat pid deadline
  pub cancelled_is : cancelled.request ≡ Cancel seat
  pub later_others : AreByOthersThan seat later
  pub earlier_others : AreByOthersThan seat earlier
  -- the tick that took it
  pub now : ℕ
  pub expired_is : expired.request ≡ Expire now
  pub due : deadline ≤ now
  pub took : first_due now (state_after timer_meaning opening (earlier ++ (added ∷ past)))
      ≡ Some (record { deadline = deadline; seat = seat })
