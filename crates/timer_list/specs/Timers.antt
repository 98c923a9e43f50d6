-- Timers, one for each seat. After tsemacquire in semacquire(2), which waits no longer than its
-- milliseconds. Own: a tick says which moment it is, and the order of timers at one moment.
use Rattle.std.specs.Prelude.{ℕ, ◌+◌, ◌-◌, ◌^◌, min, nat_lt, nat_le, Bool, true, false}
use Rattle.std.specs.Prelude.{if◌then◌else◌, List, [], ◌∷◌, length, map, slice_set, slice_index_or}
use Rattle.std.specs.Prelude.{Option, None, Some}
use Rattle.sync_base.specs.declared.fault.Fault.{Fault}
use Rattle.sync_base.specs.declared.fault.Fault.TheVariants as fault
use Rattle.timer_list.specs.declared.due.Due.{Due}
use Rattle.timer_list.specs.declared.timer_object.Timer.{Timer}
use Rattle.timer_list.specs.declared.timer_object.Timer.TheVariants.{Unset, Set, Expired}
use Rattle.timer_list.specs.declared.timer_object.TimerCall.{TimerCall}
use Rattle.timer_list.specs.declared.timer_object.TimerCall.TheVariants.{Add, Expire, Cancel}
use Rattle.timer_list.specs.declared.timer_object.TimerReply.{TimerReply}
use Rattle.timer_list.specs.declared.timer_object.TimerReply.TheVariants as reply
use Rattle.timer_list.specs.Due.{earliest}
use Rattle.sleep_core.specs.Limits.{IsProcCount}

-- the timer of this seat
abbrev pub timer_of : List Timer → ℕ → Timer
timer_of timers seat = slice_index_or timers seat Unset

-- when the timer of this seat expires
abbrev pub due_of : ℕ → Timer → Option Due
due_of seat (Set pid deadline) = Some (record { deadline = deadline; seat = seat })
due_of seat Unset = None
due_of seat Expired = None

-- when each timer expires, for the seats from this seat on
abbrev pub dues_from : ℕ → List Timer → List (Option Due)
dues_from seat [] = []
dues_from seat (timer ∷ timers) = due_of seat timer ∷ dues_from (seat + 1) timers

-- the timer, if its moment has come
abbrev pub if_come : ℕ → Option Due → Option Due
if_come now (Some due) = if nat_le due.deadline now then Some due else None
if_come now None = None

-- the timer that expires first, of those whose moment has come
abbrev pub first_due : ℕ → List Timer → Option Due
first_due now timers = earliest (map (if_come now) (dues_from 0 timers))

-- whether the seat may have a new timer: the last one was cancelled
abbrev pub may_add : Timer → Bool
may_add Unset = true
may_add (Set pid deadline) = false
may_add Expired = false

abbrev pub is_seat : List Timer → ℕ → Bool
is_seat timers seat = nat_lt seat (length timers)

-- the answer where this timer expired: its process
abbrev pub answer_expired : Timer → TimerReply
answer_expired (Set pid deadline) = reply.Ended pid
answer_expired Unset = reply.NoneDue
answer_expired Expired = reply.NoneDue

-- the answer where this timer is cancelled
abbrev pub answer_cancelled : Timer → TimerReply
answer_cancelled (Set pid deadline) = reply.Removed
answer_cancelled Expired = reply.Expired
answer_cancelled Unset = reply.Absent

abbrev pub answer_first : List Timer → Option Due → TimerReply
answer_first timers (Some due) = answer_expired (timer_of timers due.seat)
answer_first timers None = reply.NoneDue

abbrev pub answer_to : List Timer → TimerCall → TimerReply
answer_to timers (Add seat pid deadline) =
    if is_seat timers seat
    then (if may_add (timer_of timers seat) then reply.Added else reply.Busy)
    else reply.Busy
answer_to timers (Expire now) = answer_first timers (first_due now timers)
answer_to timers (Cancel seat) =
    if is_seat timers seat then answer_cancelled (timer_of timers seat) else reply.Busy

abbrev pub after_first : List Timer → Option Due → List Timer
after_first timers (Some due) = slice_set timers due.seat Expired
after_first timers None = timers

-- the timers after a call that got this answer: all else stays
abbrev pub timers_after : List Timer → TimerCall → TimerReply → List Timer
timers_after timers (Add seat pid deadline) reply.Added = slice_set timers seat (Set pid deadline)
timers_after timers (Expire now) (reply.Ended pid) = after_first timers (first_due now timers)
timers_after timers (Cancel seat) reply.Removed = slice_set timers seat Unset
timers_after timers (Cancel seat) reply.Expired = slice_set timers seat Unset
timers_after timers call other = timers

-- the timers after a call
abbrev pub after : List Timer → TimerCall → List Timer
after timers call = timers_after timers call (answer_to timers call)

-- the seat that a call names
abbrev pub seat_named : TimerCall → Option ℕ
seat_named (Add seat pid deadline) = Some seat
seat_named (Expire now) = None
seat_named (Cancel seat) = Some seat

-- Own: the moment `ms` milliseconds after `now`, and at most the last moment.
abbrev pub deadline_of : ℕ → ℕ → ℕ
deadline_of now ms = min (now + ms) (2 ^ 64 - 1)

-- Own: why there are no timers for this many processes.
abbrev pub WhyNoTimers : ℕ → Fault → Type 0
WhyNoTimers procs fault.NoProc = ¬ IsProcCount procs
WhyNoTimers procs fault.Memory = IsProcCount procs
WhyNoTimers procs other = ⊥
