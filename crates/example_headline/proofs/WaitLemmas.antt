-- What holds of a call that waits and at its end, of its seat and of its process, where a sleep
-- that fails is answered as such.
use Rattle.std.proofs.Common.{◌≡◌, ℕ, zero, suc, Some, None, Result, Err, sym, subst}
use Rattle.sync_base.specs.declared.fault.Fault.{Fault}
use Rattle.sync_base.specs.declared.ids.RendezId.{RendezId}
use Rattle.rendez_words.specs.Process.{Process}
use Rattle.waiting.specs.declared.call.Reply.TheVariants.{Wait}
use Rattle.waiting.specs.declared.wait.WaitEnd.{WaitEnd}
use Rattle.waiting.specs.declared.wait.WaitEnd.TheVariants.{Answered, Stopped}
use Rattle.waiting.specs.Waiting.{Promise, Point, WaitPoint, Rounds, Ends, Returns, WaitsOn}
use Rattle.waiting.specs.Waiting.{SleepsThenAsks, SleepsThenLeaves, reply_of, answer_of}

module _ {Seat Out : Type 0} (promise : Promise Seat Out) (rendez : RendezId)
    (On : WaitPoint Seat → Type 0) (Over : Result Out Fault → Point Seat → Type 0)
    (goes_on : (old : WaitPoint Seat) (number : ℕ) (new : Point Seat) → On old
    → SleepsThenAsks promise rendez old (Wait number) new
    → On (record { at = new; number = number }))
    (told : (old : WaitPoint Seat) (answer : Result Out Fault) (new : Point Seat) → On old
    → SleepsThenAsks promise rendez old (reply_of answer) new → Over answer new)
    (failed : (old : WaitPoint Seat) (why : Fault) (new : Point Seat) → On old
    → SleepsThenLeaves promise rendez old why None new → Over (Err why) new)
    (never : (old new : Seat) (out : Out) → ¬ promise.left old (Some out) new) where
  rounds_on : (times : ℕ) (first now : WaitPoint Seat) → On first
      → Rounds promise rendez times first now → On now
  rounds_on zero first now on same = subst On (sym same) on
  rounds_on (suc times) first now on more =
      goes_on more.between now.number now.at (rounds_on times first more.between on more.rounds)
      more.last

  -- so of a whole wait
  pub wait_over : (first : WaitPoint Seat) (answer : Result Out Fault) (after : Point Seat)
      → On first → WaitsOn promise rendez first answer after → Over answer after
  wait_over first answer after on waited =
      by waited.ending waited.slept.ends waited.returned waited.answer_is
    where
      last : WaitPoint Seat
      last = waited.slept.last

      last_on : On last
      last_on = rounds_on waited.slept.times first last on waited.slept.rounds

      at : Process → Point Seat
      at process = record { seat = after.seat; process = process }

      by : (ending : WaitEnd Out) → Ends promise rendez last ending (at waited.process)
          → Returns ending waited.process after.process → answer ≡ answer_of ending
          → Over answer after
      by (Answered its) asked same is =
          subst (λ (a : Result Out Fault). Over a after) (sym is)
          (subst (λ (p : Process). Over its (at p)) (sym same)
          (told last its (at waited.process) last_on asked))
      by (Stopped why (Some out)) left back is =
          absurd (never last.at.seat after.seat out left.left)
      by (Stopped why None) left same is =
          subst (λ (a : Result Out Fault). Over a after) (sym is)
          (subst (λ (p : Process). Over (Err why) (at p)) (sym same)
          (failed last why (at waited.process) last_on left))
