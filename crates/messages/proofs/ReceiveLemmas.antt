-- What holds when the call of a receive is over: its seat, and who is still to be woken.
use Rattle.std.proofs.Common.{◌≡◌, inl, inr, ℕ, true, Option, Result, Ok, Err}
use Rattle.std.proofs.Common.{IfSome, refl, sym, ◌∙◌, subst}
use Rattle.std.specs.Prelude.{⊤}
use Rattle.kernel_lock.specs.Seats.{number_of}
use Rattle.sync_base.specs.declared.fault.Fault.{Fault}
use Rattle.sync_base.specs.declared.fault.Fault.TheVariants as fault
use Rattle.sync_base.specs.declared.ids.RendezId.{RendezId}
use Rattle.waiting.specs.declared.call.Reply.TheVariants.{Refused}
use Rattle.waiting.specs.Runners.{ComesToSame, IsACall}
use Rattle.waiting.specs.Waiting.{Point, Waited, reply_of}
use Rattle.waiting.proofs.FoldLemmas.{wait_ends}
use Rattle.messages.specs.declared.answers.Received.{Received}
use Rattle.messages.specs.declared.answers.Received.TheVariants as received
use Rattle.messages.specs.declared.channel.Channel.{Channel}
use Rattle.messages.specs.declared.message_object.MessageReply.TheVariants as reply
use Rattle.messages.specs.declared.message_object.Wake.{Wake}
use Rattle.messages.specs.declared.receiving.Got.{Got}
use Rattle.messages.specs.Asking.{HandleSeat}
use Rattle.messages.specs.Receiving.{IsAnswered, IsLeftWith, Takes, receiving}
use Rattle.messages.specs.Waking.{IsOfRow}
use Rattle.messages.proofs.SendLemmas.{named_there}

module _ {T : Type 0} (channel : Channel T) (place : ℕ) (number : ℕ) where
  abbrev HasNumber : HandleSeat T → Type 0
  HasNumber seat = number_of seat ≡ number

  -- whoever is still to be woken is at one of the places
  abbrev pub IsThere : Result (Got T) Fault → Type 0
  IsThere (Ok got) = IfSome got.wake (IsOfRow channel)
  IsThere (Err why) = ⊤

  -- what holds of the seat and the answer in the end
  pub record IsOver (answer : Result (Got T) Fault) (seat : HandleSeat T) : Type 0 where
    -- it has the number that it had
    pub number_is : number_of seat ≡ number
    -- who is to be woken is at a place
    pub there : IsThere answer

  refused : (old new : Point (HandleSeat T)) (why : Fault) → HasNumber old.seat
      → Takes channel place old (Refused why) new → IsOver (Err why) new.seat
  refused old new fault.Worn has takes =
      record { number_is = takes.asks.number ∙ has; there = tt }
  refused old new fault.Hungup has takes = absurd takes
  refused old new fault.Memory has takes = absurd takes
  refused old new (fault.Interrupted set) has takes = absurd takes
  refused old new fault.TooBig has takes = absurd takes
  refused old new fault.DoubleSleep has takes = absurd takes
  refused old new fault.BadArg has takes = absurd takes
  refused old new fault.BadLevel has takes = absurd takes
  refused old new fault.BadCount has takes = absurd takes
  refused old new fault.BadSize has takes = absurd takes
  refused old new fault.NoProc has takes = absurd takes
  refused old new fault.NoRendez has takes = absurd takes
  refused old new fault.BadFlags has takes = absurd takes
  refused old new (fault.Script line) has takes = absurd takes
  refused old new fault.TimedOut has takes = absurd takes
  refused old new fault.Device has takes = absurd takes

  same_number : (old new : Point (HandleSeat T)) (outcome : Received T)
      → IsAnswered channel place true old outcome new → number_of new.seat ≡ number_of old.seat
  same_number old new (received.Value value) given = given.asks.number
  same_number old new received.End takes = takes.asks.number

  answered : (old new : Point (HandleSeat T)) (answer : Result (Got T) Fault) → HasNumber old.seat
      → Takes channel place old (reply_of answer) new → IsOver answer new.seat
  answered old new (Ok got) has takes =
      record {
        number_is = same_number old new got.received takes.0 ∙ has;
        there = subst (λ (wake : Option Wake). IfSome wake (IsOfRow channel)) (sym takes.1) tt;
      }
  answered old new (Err why) has takes = refused old new why has takes

  left_with : (old new : HandleSeat T) (outcome : Received T) (wake : Option Wake) → HasNumber old
      → IsLeftWith channel place old outcome wake new
      → (number_of new ≡ number) × IfSome wake (IsOfRow channel)
  left_with old new (received.Value value) wake has left =
      (left.number ∙ has, named_there channel _ (reply.Value value wake) old new left)
  left_with old new received.End wake has left = (
    left.0.number ∙ has,
    subst (λ (w : Option Wake). IfSome w (IsOfRow channel)) (sym left.1) tt,
  )

  waited_over : (rendez : RendezId) (before after : Point (HandleSeat T))
      (told : Result (Got T) Fault) → HasNumber before.seat
      → Waited (receiving channel place) rendez before told after → IsOver told after.seat
  waited_over rendez before after told has (inl begun) = answered before after told has begun
  waited_over rendez before after told has (inr waits) =
      wait_ends (receiving channel place) rendez HasNumber IsOver
      (λ old new grants on takes. takes.asks.number ∙ on)
      (λ old new answer on takes. answered old new answer on takes)
      (λ old new got on left.
      let is = left_with old new got.received got.wake on left in
      record { number_is = is.0; there = is.1 })
      (λ old new why on left. record { number_is = left.number ∙ on; there = tt })
      waits.first told after (waits.begun.asks.number ∙ has) waits.waited

module _ {T : Type 0} (channel : Channel T) (place : ℕ) where
  same_over : (number : ℕ) (told answer : Result (Got T) Fault) (seat : HandleSeat T)
      → ComesToSame told answer → IsOver channel place number told seat
      → IsOver channel place number answer seat
  same_over number (Ok one) (Ok other) seat same over =
      subst (λ got. IsOver channel place number (Ok got) seat) (sym same) over
  same_over number (Err why) (Err other) seat same over =
      record { number_is = over.number_is; there = tt }
  same_over number (Ok one) (Err other) seat same over = absurd same
  same_over number (Err why) (Ok other) seat same over = absurd same

  -- and so it is by whatever runner
  pub is_over : (rendez : RendezId) (before after : Point (HandleSeat T))
      (answer : Result (Got T) Fault) → IsACall (receiving channel place) rendez before answer after
      → IsOver channel place (number_of before.seat) answer after.seat
  is_over rendez before after answer call =
      same_over (number_of before.seat) call.told answer after.seat call.same
      (waited_over channel place (number_of before.seat) rendez before
      (record { seat = after.seat; process = call.process }) call.told refl call.waited)
