-- The wait of one call, after sleep and wakeup of the paper of 1991. It asks its device. Where it
-- has to wait with a number, it sleeps on its own Rendez with that number, and asks again. Own:
-- where the sleep fails it leaves, and returns the result that it had come to by then.
use Rattle.std.specs.Prelude.{◌≡◌, ◌⊎◌, ◌<◌, ⊤, ℕ, zero, suc, Option, Some, None, Result, Ok, Err}
use Rattle.sync_base.specs.declared.fault.Fault.{Fault}
use Rattle.sync_base.specs.declared.ids.RendezId.{RendezId}
use Rattle.sync_base.specs.declared.limits.TheConstants.{TOP_LEVEL}
use Rattle.rendez_words.specs.Process.{Process}
use Rattle.sleep_wakeup.specs.Actions.{SleepsWell, FailsAsleep, PutsBack}
use Rattle.sleep_wakeup.specs.Kernel.{Running}
use Rattle.waiting.specs.declared.call.Reply.{Reply}
use Rattle.waiting.specs.declared.call.Reply.TheVariants.{Done, Wait, Refused}
use Rattle.waiting.specs.declared.wait.WaitEnd.{WaitEnd}
use Rattle.waiting.specs.declared.wait.WaitEnd.TheVariants.{Answered, Stopped}

-- the state of a call: its seat, and the steps of its process
pub record Point (Seat : Type 0) : Type 0 where
  pub seat : Seat
  pub process : Process

abbrev pub point : {Seat : Type 0} → Seat → Running → Point Seat
point seat proc = record { seat = seat; process = proc.process }

-- What a device promises of a call's requests: from which state to which state each leads, by its
-- answer.
pub record Promise (Seat Out : Type 0) : Type 1 where
  -- the first request
  pub begun : Point Seat → Reply Out → Point Seat → Type 0
  -- the request after a sleep that ended well
  pub asked : Point Seat → Reply Out → Point Seat → Type 0
  -- the request after a sleep that failed, at which the process does nothing
  pub left : Seat → Option Out → Seat → Type 0

-- ---- what each answer leaves

-- a call that has to wait is waiting, and any other call is done
abbrev pub StandsSo : {Seat Out : Type 0} → (Seat → Type 0) → (Seat → Type 0) → Reply Out → Seat
    → Type 0
StandsSo Rests Waits (Done out) seat = Rests seat
StandsSo Rests Waits (Wait number) seat = Waits seat
StandsSo Rests Waits (Refused why) seat = Rests seat

-- a level above the number is left, with which the sleeper can be woken
abbrev pub IsLow : {Out : Type 0} → Reply Out → Type 0
IsLow (Done out) = ⊤
IsLow (Wait number) = number < TOP_LEVEL
IsLow (Refused why) = ⊤

-- ---- the wait

-- the state of a call that got this number last
pub record WaitPoint (Seat : Type 0) : Type 0 where
  pub at : Point Seat
  pub number : ℕ

abbrev pub told : {Seat : Type 0} → Seat → Running → ℕ → WaitPoint Seat
told seat proc number = record { at = point seat proc; number = number }

-- the answer to a request that is the call's
abbrev pub reply_of : {Out : Type 0} → Result Out Fault → Reply Out
reply_of (Ok out) = Done out
reply_of (Err why) = Refused why

-- the answer of a call whose sleeps ended like this
abbrev pub answer_of : {Out : Type 0} → WaitEnd Out → Result Out Fault
answer_of (Answered answer) = answer
answer_of (Stopped why (Some out)) = Ok out
answer_of (Stopped why None) = Err why

-- the notes that its last sleep took are pending again if and only if the call had come to a result
-- by then
abbrev pub Returns : {Out : Type 0} → WaitEnd Out → Process → Process → Type 0
Returns (Answered answer) before after = after ≡ before
Returns (Stopped why (Some out)) before after = PutsBack why before after
Returns (Stopped why None) before after = after ≡ before

module _ {Seat Out : Type 0} (promise : Promise Seat Out) (rendez : RendezId) where
  -- it slept on its Rendez with the number that it got last, the sleep ended well, and then it
  -- asked, and got this answer
  pub record SleepsThenAsks (old : WaitPoint Seat) (reply : Reply Out) (after : Point Seat)
      : Type 0 where
    pub woken : Process
    pub slept : SleepsWell old.at.process rendez old.number woken
    pub asked : promise.asked (record { seat = old.at.seat; process = woken }) reply after

  -- it slept like that, the sleep failed with this fault, and then it left, and got this answer
  pub record SleepsThenLeaves (old : WaitPoint Seat) (why : Fault) (reply : Option Out)
      (after : Point Seat) : Type 0 where
    pub failed : FailsAsleep old.at.process rendez old.number after.process why
    pub left : promise.left old.at.seat reply after.seat

  -- one more round, after which it has to wait on
  pub record OneMore (Before : WaitPoint Seat → Type 0) (now : WaitPoint Seat) : Type 0 where
    pub between : WaitPoint Seat
    pub rounds : Before between
    pub last : SleepsThenAsks between (Wait now.number) now.at

  -- this many rounds
  abbrev pub Rounds : ℕ → WaitPoint Seat → WaitPoint Seat → Type 0
  Rounds zero first now = now ≡ first
  Rounds (suc times) first now = OneMore (Rounds times first) now

  -- how the last round ends: its request was answered, or its sleep failed
  abbrev pub Ends : WaitPoint Seat → WaitEnd Out → Point Seat → Type 0
  Ends last (Answered answer) after = SleepsThenAsks last (reply_of answer) after
  Ends last (Stopped why reply) after = SleepsThenLeaves last why reply after

  -- The sleeps of a call that has to wait: between any two of its requests it slept once, with the
  -- number that it got last, and the sleep ended well.
  pub record SleepsOn (first : WaitPoint Seat) (ending : WaitEnd Out) (after : Point Seat)
      : Type 0 where
    pub times : ℕ
    pub last : WaitPoint Seat
    pub rounds : Rounds times first last
    pub ends : Ends last ending after

  -- the wait of a call that has to wait
  pub record WaitsOn (first : WaitPoint Seat) (answer : Result Out Fault) (after : Point Seat)
      : Type 0 where
    pub ending : WaitEnd Out
    pub process : Process
    pub slept : SleepsOn first ending (record { seat = after.seat; process = process })
    pub returned : Returns ending process after.process
    pub answer_is : answer ≡ answer_of ending

  -- the answer to its first request was to wait, and it waited
  pub record BeginsToWait (before : Point Seat) (answer : Result Out Fault) (after : Point Seat)
      : Type 0 where
    pub first : WaitPoint Seat
    pub begun : promise.begun before (Wait first.number) first.at
    pub waited : WaitsOn first answer after

  -- A call: it asked, and was answered at once, or had to wait, and waited.
  abbrev pub Waited : Point Seat → Result Out Fault → Point Seat → Type 0
  Waited before answer after =
      promise.begun before (reply_of answer) after ⊎ BeginsToWait before answer after
