-- The units of a semaphore. After semacquire(2): a unit is taken where the value is positive, and
-- otherwise the caller waits; a release adds to the value. Own: a release grants units to the
-- waiters, in the order in which they came; it answers the sum; and the value has an upper limit.
use Rattle.std.specs.Prelude.{◌≡◌, ℕ, ◌+◌, ◌-◌, ◌<◌, ◌≤◌, ◌==◌, nat_lt, Bool, true, false}
use Rattle.std.specs.Prelude.{if◌then◌else◌, List, [], ◌∷◌, ◌++◌, length, take, drop, fold}
use Rattle.std.specs.Prelude.{replicate, slice_set, slice_index, slice_index_or, Option, None, Some}
use Rattle.semaphore.specs.declared.limits.TheConstants.{MAX_VALUE, LAST_GRANT}
use Rattle.semaphore.specs.declared.sema_object.Stage.{Stage}
use Rattle.semaphore.specs.declared.sema_object.Stage.TheVariants.{Idle, Waiting, Granted}
use Rattle.semaphore.specs.declared.sema_object.SemaCall.{SemaCall}
use Rattle.semaphore.specs.declared.sema_object.SemaCall.TheVariants.{Acquire, AcquireNow, Release}
use Rattle.semaphore.specs.declared.sema_object.SemaCall.TheVariants.{NextWake, Collect, Leave}
use Rattle.semaphore.specs.declared.sema_object.SemaReply.{SemaReply}
use Rattle.semaphore.specs.declared.sema_object.SemaReply.TheVariants as reply
use Rattle.sleep_core.specs.Limits.{IsProcCount}
use Rattle.semaphore.specs.WaitQueue.{stands_in, without, with_seat, AreSeats}

pub record SemaState : Type 0 where
  pub value : ℕ  -- the units that nobody has
  pub stages : List Stage  -- of each seat, how its last Acquire stands
  pub grants : List ℕ  -- of each seat, how many units it was granted while it waited
  pub waiters : List ℕ  -- the seats that wait, the first to come first
  pub unnamed : List ℕ  -- the seats granted a unit and not named since, the first granted first

-- a new semaphore; each seat's grants are counted from here
abbrev pub opening : ℕ → ℕ → ℕ → SemaState
opening value procs count =
    record {
      value = value;
      stages = replicate procs Idle;
      grants = replicate procs count;
      waiters = [];
      unnamed = [];
    }

abbrev pub is_seat : SemaState → ℕ → Bool
is_seat s seat = nat_lt seat (length s.stages)

abbrev pub stage_of : SemaState → ℕ → Stage
stage_of s seat = slice_index_or s.stages seat Idle

abbrev pub grants_of : SemaState → ℕ → ℕ
grants_of s seat = slice_index s.grants seat

-- a waiter is granted a unit, and waits no longer
abbrev pub granted : SemaState → ℕ → SemaState
granted s seat =
    record {
      value = s.value - 1;
      stages = slice_set s.stages seat Granted;
      grants = slice_set s.grants seat (grants_of s seat + 1);
      waiters = without seat s.waiters;
      unnamed = with_seat seat s.unnamed;
    }

-- Own: as many waiters as there are units are granted one each, first come, first served.
unfoldable pub passed : SemaState → SemaState
passed s = fold granted s (take s.value s.waiters)

-- the last wait of the seat is over, if it began one
abbrev pub is_idle : Stage → Bool
is_idle Idle = true
is_idle Waiting = false
is_idle Granted = false

abbrev pub may_acquire : SemaState → ℕ → Bool
may_acquire s seat = if is_seat s seat then is_idle (stage_of s seat) else false

-- the answer to a call that waits where there is no unit: Worn where the seat's count of grants is
-- the last
abbrev pub answer_acquire : SemaState → ℕ → SemaReply
answer_acquire s seat =
    if nat_lt 0 s.value then reply.Acquired
    else (if grants_of s seat == LAST_GRANT then reply.Worn else reply.Wait (grants_of s seat))

-- Own: a release answers the sum, before units pass to the waiters.
abbrev pub answer_release : SemaState → ℕ → SemaReply
answer_release s count =
    if nat_lt MAX_VALUE (s.value + count) then reply.BadArg else reply.Value (s.value + count)

abbrev pub answer_next : SemaState → List ℕ → SemaReply
answer_next s [] = reply.NoWake
answer_next s (seat ∷ rest) = reply.Wake seat (grants_of s seat)

abbrev pub answer_collect : SemaState → ℕ → Stage → SemaReply
answer_collect s seat Granted = reply.Granted
answer_collect s seat Waiting = reply.Wait (grants_of s seat)
answer_collect s seat Idle = reply.Wait (grants_of s seat)

abbrev pub answer_leave : Stage → SemaReply
answer_leave Granted = reply.Granted
answer_leave Waiting = reply.Gone
answer_leave Idle = reply.Gone

abbrev pub answer_to : SemaState → SemaCall → SemaReply
answer_to s (Acquire seat) = if may_acquire s seat then answer_acquire s seat else reply.Busy
answer_to s (AcquireNow seat) =
    if may_acquire s seat
    then (if nat_lt 0 s.value then reply.Acquired else reply.NotNow)
    else reply.Busy
answer_to s (Release count) = answer_release s count
answer_to s NextWake = answer_next s s.unnamed
answer_to s (Collect seat) =
    if is_seat s seat then answer_collect s seat (stage_of s seat) else reply.Busy
answer_to s (Leave seat) = if is_seat s seat then answer_leave (stage_of s seat) else reply.Busy

-- the semaphore after a call that got this answer: all else stays
abbrev pub sema_after : SemaState → SemaCall → SemaReply → SemaState
sema_after s (Acquire seat) reply.Acquired = record s { value = s.value - 1 }
sema_after s (Acquire seat) (reply.Wait count) =
    record s { stages = slice_set s.stages seat Waiting; waiters = s.waiters ++ seat ∷ [] }
sema_after s (AcquireNow seat) reply.Acquired = record s { value = s.value - 1 }
sema_after s (Release count) (reply.Value sum) = passed (record s { value = sum })
sema_after s NextWake (reply.Wake seat count) = record s { unnamed = drop 1 s.unnamed }
sema_after s (Collect seat) reply.Granted = record s { stages = slice_set s.stages seat Idle }
sema_after s (Leave seat) reply.Granted = record s { stages = slice_set s.stages seat Idle }
sema_after s (Leave seat) reply.Gone =
    record s { stages = slice_set s.stages seat Idle; waiters = without seat s.waiters }
sema_after s call other = s

-- the semaphore after a call
abbrev pub after : SemaState → SemaCall → SemaState
after s call = sema_after s call (answer_to s call)

-- the seat that a call names
abbrev pub seat_named : SemaCall → Option ℕ
seat_named (Acquire seat) = Some seat
seat_named (AcquireNow seat) = Some seat
seat_named (Collect seat) = Some seat
seat_named (Leave seat) = Some seat
seat_named (Release count) = None
seat_named NextWake = None

-- a state that a semaphore can be in, also between two grants of one release
pub record IsSound (s : SemaState) : Type 0 where
  pub value : s.value ≤ MAX_VALUE
  pub counted : length s.grants ≡ length s.stages
  pub waiters : AreSeats (length s.stages) s.waiters
  pub unnamed : AreSeats (length s.stages) s.unnamed
  pub waits : (seat : ℕ) → stands_in s.waiters seat ≡ true → stage_of s seat ≡ Waiting
  pub stands : (seat : ℕ) → stage_of s seat ≡ Waiting → stands_in s.waiters seat ≡ true
  pub may_wait : (seat : ℕ) → stands_in s.waiters seat ≡ true → grants_of s seat < LAST_GRANT
  pub fits : (seat : ℕ) → grants_of s seat ≤ LAST_GRANT

-- a semaphore may have this value and serve this many processes
pub record IsSemaRange (value procs : ℕ) : Type 0 where
  pub fits : value ≤ MAX_VALUE
  pub count : IsProcCount procs
