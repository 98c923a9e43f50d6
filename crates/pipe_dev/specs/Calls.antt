-- What reads and writes have in common: what a call does where its sleep fails, its effect by its
-- answer, and the same for a call that a runner ran.
use Rattle.std.specs.Prelude.{◌≡◌, ⊤, Option, Some, None, Result, Err}
use Rattle.histories.specs.History.{IsPast}
use Rattle.sync_base.specs.declared.fault.Fault.{Fault}
use Rattle.sync_base.specs.declared.fault.Fault.TheVariants as fault
use Rattle.rendez_words.specs.Process.{Process}
use Rattle.waiting.specs.declared.call.Reply.{Reply}
use Rattle.waiting.specs.Runners.{ComesToSame}
use Rattle.waiting.specs.Waiting.{Promise, Point}

-- where a sleep of a call failed it asks nothing more, and has no result
abbrev pub GivesUp : {Seat Out : Type 0} → Seat → Option Out → Seat → Type 0
GivesUp old (Some out) new = ⊥
GivesUp old None new = new ≡ old

-- a call that waits, by what each of its requests does
abbrev pub waits_by : {Seat Out : Type 0} → (Point Seat → Reply Out → Point Seat → Type 0)
    → Promise Seat Out
waits_by Asks = record { begun = Asks; asked = Asks; left = GivesUp }

-- an answer that comes only from a request or a sleep
abbrev pub IsAsked : {Out : Type 0} → Result Out Fault → Type 0
IsAsked (Err fault.TooBig) = ⊥
IsAsked (Err fault.BadCount) = ⊥
IsAsked (Err fault.NoRendez) = ⊥
IsAsked (Err fault.Memory) = ⊥
IsAsked answer = ⊤

-- A run did to its direction what such a call that waits as long as it takes does; and both come to
-- the same result, or neither comes to one.
pub record RunsAs {Seat Out : Type 0} (Does : Result Out Fault → Point Seat → Type 0)
    (answer : Result Out Fault) (new : Point Seat) : Type 0 where
  pub told : Result Out Fault
  pub process : Process
  pub did : Does told (record { seat = new.seat; process = process })
  pub same : ComesToSame told answer
  -- its steps are the caller's own, which has gone on since
  pub own : IsPast process.trace new.process.trace
