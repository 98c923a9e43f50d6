-- What a wait comes to, by what a call asks.
use Rattle.std.proofs.Common.{◌≡◌, inl, inr, sym, subst, ℕ, Some, None, Result, Ok, Err}
use Rattle.rendez_words.specs.Process.{Process}
use Rattle.sleep_wakeup.specs.Actions.{FailsAsleep}
use Rattle.sync_base.specs.declared.fault.Fault.{Fault}
use Rattle.sync_base.specs.declared.fault.Fault.TheVariants as fault
use Rattle.sync_base.specs.declared.ids.RendezId.{RendezId}
use Rattle.waiting.specs.declared.call.Reply.{Reply}
use Rattle.waiting.specs.declared.call.Reply.TheVariants.{Done, Wait, Refused}
use Rattle.waiting.specs.declared.wait.WaitEnd.{WaitEnd}
use Rattle.waiting.specs.declared.wait.WaitEnd.TheVariants.{Answered, Stopped}
use Rattle.waiting.specs.Runners.{over_at}
use Rattle.waiting.specs.Waiting.{Point, WaitPoint, Ends, Waited, reply_of, answer_of}
use Rattle.waiting.proofs.FoldLemmas.{wait_ends}
use Rattle.pipe_dev.specs.Calls.{IsAsked, waits_by}

-- what holds while a call waits and at its end
module _ {Seat Out : Type 0} (Asks : Point Seat → Reply Out → Point Seat → Type 0)
    (rendez : RendezId) (On : Seat → Type 0) (Over : Result Out Fault → Seat → Type 0)
    (goes_on : (old new : Point Seat) (number : ℕ) → On old.seat → Asks old (Wait number) new
    → On new.seat)
    (told : (old new : Point Seat) (answer : Result Out Fault) → On old.seat
    → Asks old (reply_of answer) new → Over answer new.seat)
    (gone : (seat : Seat) (why : Fault) → On seat → Over (Err why) seat) where
  -- so of a whole call
  pub waited_ends : (old : Point Seat) (answer : Result Out Fault) (new : Point Seat)
      → On old.seat → Waited (waits_by Asks) rendez old answer new → Over answer new.seat
  waited_ends old answer new on (inl begun) = told old new answer on begun
  waited_ends old answer new on (inr waits) =
      wait_ends (waits_by Asks) rendez On Over goes_on told (λ old new out on gives. absurd gives)
      (λ old new why on same. subst (Over (Err why)) (sym same) (gone old why on)) waits.first
      answer new (goes_on old waits.first.at waits.first.number on waits.begun) waits.waited

-- a sleep fails for other reasons than what comes before the first request
fails_late : (Out : Type 0) (before after : Process) (rendez : RendezId) (number : ℕ) (why : Fault)
    → FailsAsleep before rendez number after why → IsAsked {Out = Out} (Err why)
fails_late Out before after rendez number (fault.Interrupted notes) fails = tt
fails_late Out before after rendez number fault.DoubleSleep fails = tt
fails_late Out before after rendez number other fails = absurd fails

-- where no request is refused for that
module _ {Seat Out : Type 0} (Asks : Point Seat → Reply Out → Point Seat → Type 0)
    (rendez : RendezId)
    (refuses : (old new : Point Seat) (why : Fault) → Asks old (Refused why) new
    → IsAsked {Out = Out} (Err why)) where
  ended_for : (answer : Result Out Fault) (last : WaitPoint Seat) (end : WaitEnd Out)
      (after : Point Seat) → answer ≡ answer_of end → Ends (waits_by Asks) rendez last end after
      → IsAsked answer
  ended_for answer last (Answered (Ok out)) after is ends =
      subst (λ (a : Result Out Fault). IsAsked a) (sym is) tt
  ended_for answer last (Answered (Err why)) after is ends =
      subst (λ (a : Result Out Fault). IsAsked a) (sym is)
      (refuses (record { seat = last.at.seat; process = ends.woken }) after why ends.asked)
  ended_for answer last (Stopped why (Some out)) after is ends = absurd ends.left
  ended_for answer last (Stopped why None) after is ends =
      subst (λ (a : Result Out Fault). IsAsked a) (sym is)
      (fails_late Out last.at.process after.process rendez last.number why ends.failed)

  -- a call answers nothing that comes before its first request
  pub is_asked : (old : Point Seat) (answer : Result Out Fault) (new : Point Seat)
      → Waited (waits_by Asks) rendez old answer new → IsAsked answer
  is_asked old (Ok out) new waited = tt
  is_asked old (Err why) new (inl begun) = refuses old new why begun
  is_asked old (Err why) new (inr waits) =
      ended_for (Err why) waits.waited.slept.last waits.waited.ending
      (record { seat = new.seat; process = waits.waited.process }) waits.waited.answer_is
      waits.waited.slept.ends

-- What was answered was told by the last request.
pub record LastTold {Seat Out : Type 0} (Asks : Point Seat → Reply Out → Point Seat → Type 0)
    (Of : Process → Type 0) (out : Out) (seat : Seat) : Type 0 where
  -- where it stood before that request
  pub before : Point Seat
  -- its process, as that request left it
  pub process : Process
  -- what that request asked and was told
  pub asked : Asks before (Done out) (record { seat = seat; process = process })
  -- what is known of the process then
  pub of : Of process

-- so of a whole call, of whose process this is known where its wait was over
pub told_last : {Seat Out : Type 0} (Asks : Point Seat → Reply Out → Point Seat → Type 0)
    (rendez : RendezId) (Of : Process → Type 0) (old : Point Seat) (out : Out) (new : Point Seat)
    (waited : Waited (waits_by Asks) rendez old (Ok out) new)
    → Of (over_at (waits_by Asks) rendez old (Ok out) new waited) → LastTold Asks Of out new.seat
told_last Asks rendez Of old out new (inl begun) of =
    record { before = old; process = new.process; asked = begun; of = of }
told_last {Seat} {Out} Asks rendez Of old out new (inr waits) of =
    by waits.waited.ending waits.waited.answer_is waits.waited.slept.ends
  where
    by : (ending : WaitEnd Out) → Ok out ≡ answer_of ending
        → Ends (waits_by Asks) rendez waits.waited.slept.last ending
        (record { seat = new.seat; process = waits.waited.process })
        → LastTold Asks Of out new.seat
    by (Answered (Ok other)) is ends =
        let same : other ≡ out = cc in
        let woken : Point Seat =
        record { seat = waits.waited.slept.last.at.seat; process = ends.woken } in
        record {
          before = woken;
          process = waits.waited.process;
          asked = subst
              (λ (o : Out). Asks woken (Done o)
              (record { seat = new.seat; process = waits.waited.process })) same ends.asked;
          of = of;
        }
    by (Answered (Err why)) is ends = absurd cc
    by (Stopped why (Some late)) is ends = absurd ends.left
    by (Stopped why None) is ends = absurd cc
