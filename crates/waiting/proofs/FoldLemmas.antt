-- What holds at the end of each wait of a device, read off what its requests do to a seat.
use Rattle.std.proofs.Common.{ℕ, zero, suc, Some, None, Result, Ok, Err, sym, subst}
use Rattle.sync_base.specs.declared.fault.Fault.{Fault}
use Rattle.sync_base.specs.declared.ids.RendezId.{RendezId}
use Rattle.waiting.specs.declared.call.Reply.TheVariants.{Wait}
use Rattle.waiting.specs.Waiting.{Promise, Point, WaitPoint, Rounds, Ends, SleepsOn, WaitsOn}
use Rattle.waiting.specs.Waiting.{reply_of, answer_of}
use Rattle.waiting.specs.declared.wait.WaitEnd.{WaitEnd}
use Rattle.waiting.specs.declared.wait.WaitEnd.TheVariants.{Answered, Stopped}

-- while it waits the one holds of a seat, and at the end the other, of the answer too
module _ {Seat Out : Type 0} (promise : Promise Seat Out) (rendez : RendezId)
    (On : Seat → Type 0) (Over : Result Out Fault → Seat → Type 0)
    (goes_on : (old new : Point Seat) (number : ℕ) → On old.seat
    → promise.asked old (Wait number) new → On new.seat)
    (told : (old new : Point Seat) (answer : Result Out Fault) → On old.seat
    → promise.asked old (reply_of answer) new → Over answer new.seat)
    (late : (old new : Seat) (out : Out) → On old → promise.left old (Some out) new
    → Over (Ok out) new)
    (gone : (old new : Seat) (why : Fault) → On old → promise.left old None new
    → Over (Err why) new) where
  rounds_on : (times : ℕ) (first now : WaitPoint Seat) → On first.at.seat
      → Rounds promise rendez times first now → On now.at.seat
  rounds_on zero first now on rounds = subst (λ (t : WaitPoint Seat). On t.at.seat) (sym rounds) on
  rounds_on (suc times) first now on more =
      goes_on (record { seat = more.between.at.seat; process = more.last.woken }) now.at now.number
      (rounds_on times first more.between on more.rounds) more.last.asked

  ends : (last : WaitPoint Seat) (end : WaitEnd Out) (after : Point Seat) → On last.at.seat
      → Ends promise rendez last end after → Over (answer_of end) after.seat
  ends last (Answered answer) after on asked =
      told (record { seat = last.at.seat; process = asked.woken }) after answer on asked.asked
  ends last (Stopped why (Some out)) after on left =
      late last.at.seat after.seat out on left.left
  ends last (Stopped why None) after on left = gone last.at.seat after.seat why on left.left

  -- sleeps that began with the one end with the other
  pub sleeps_end : (first : WaitPoint Seat) (ending : WaitEnd Out) (after : Point Seat)
      → On first.at.seat → SleepsOn promise rendez first ending after
      → Over (answer_of ending) after.seat
  sleeps_end first ending after on slept =
      ends slept.last ending after (rounds_on slept.times first slept.last on slept.rounds)
      slept.ends

  -- and so does a wait
  pub wait_ends : (first : WaitPoint Seat) (answer : Result Out Fault) (after : Point Seat)
      → On first.at.seat → WaitsOn promise rendez first answer after → Over answer after.seat
  wait_ends first answer after on waited =
      subst (λ a. Over a after.seat) (sym waited.answer_is)
      (sleeps_end first waited.ending
      (record { seat = after.seat; process = waited.process }) on waited.slept)
