-- Where the value of a send is when its call is over: in the queue, or with the caller.
use Rattle.std.proofs.Common.{◌≡◌, inl, inr, ℕ, true, Option, None, Some, Result, Ok, Err}
use Rattle.std.specs.Prelude.{⊤}
use Rattle.std.proofs.Common.{IfSome, refl, sym, ◌∙◌, subst}
use Rattle.kernel_lock.specs.Seats.{number_of}
use Rattle.sync_base.specs.declared.fault.Fault.{Fault}
use Rattle.sync_base.specs.declared.fault.Fault.TheVariants as fault
use Rattle.sync_base.specs.declared.ids.RendezId.{RendezId}
use Rattle.waiting.specs.declared.call.Reply.TheVariants.{Wait, Refused}
use Rattle.waiting.specs.Runners.{ComesToSame, IsACall}
use Rattle.waiting.specs.Waiting.{Point, Waited, reply_of}
use Rattle.waiting.proofs.FoldLemmas.{wait_ends}
use Rattle.messages.specs.declared.channel.Channel.{Channel}
use Rattle.messages.specs.declared.message_object.Wake.{Wake}
use Rattle.messages.specs.declared.messages.Sending.{Sending}
use Rattle.messages.specs.declared.message_object.MessageCall.{MessageCall}
use Rattle.messages.specs.declared.message_object.MessageCall.TheVariants.{Put}
use Rattle.messages.specs.declared.message_object.MessageReply.{MessageReply}
use Rattle.messages.specs.declared.message_object.MessageReply.TheVariants as reply
use Rattle.messages.specs.Asking.{HandleSeat, Asks, IsTold}
use Rattle.messages.specs.History.{named_by}
use Rattle.messages.specs.Sending.{AsksWith, Puts, LeavesLine, sending}
use Rattle.messages.specs.Waking.{IsOfRow}
use Rattle.messages.proofs.AskLemmas.{named_is_there, told_in}

-- what a request was answered, some sound queue answers
pub told_of : {T : Type 0} (channel : Channel T) (call : MessageCall T) (told : MessageReply T)
    (before after : HandleSeat T) → Asks channel call told before after
    → IsTold channel.handles call told
told_of channel call told before after asks =
    told_in channel call told before after asks.seat.opened asks.seat.history asks.applied

-- whom its answer names is at one of the places
pub named_there : {T : Type 0} (channel : Channel T) (call : MessageCall T)
    (told : MessageReply T) (before after : HandleSeat T) → Asks channel call told before after
    → IfSome (named_by told) (IsOfRow channel)
named_there channel call told before after asks =
    named_is_there channel.handles call told (told_of channel call told before after asks)

some_is : {X : Type 0} (a b : X) → Some a ≡ Some b → a ≡ b
some_is a b is = cc

-- the value that a call takes out of its state is the one that it sends
pub value_taken : {X : Type 0} (taken : X) (held : Option X) (value : X) → Some taken ≡ held
    → held ≡ Some value → taken ≡ value
value_taken taken held value is has = some_is taken value (is ∙ has)

-- a put of the value that is to be sent, which came back
pub put_of : {T : Type 0} (channel : Channel T) (place number : ℕ) (value given back : T)
    (told : T → MessageReply T) (before after : HandleSeat T) → number ≡ number_of before
    → given ≡ value → back ≡ given
    → Asks channel (Put number place given true) (told back) before after
    → Asks channel (Put (number_of before) place value true) (told value) before after
put_of channel place number value given back told before after is same came asks =
    subst (λ n. Asks channel (Put n place value true) (told value) before after) is
    (subst (λ v. Asks channel (Put number place v true) (told v) before after) same
    (subst (λ b. Asks channel (Put number place given true) (told b) before after) came asks))

module _ {T : Type 0} (channel : Channel T) (place : ℕ) (value : T) (number : ℕ) where
  -- while it waits the call has this value, which the queue gave back, and its seat
  record HasIt (state : Sending T) : Type 0 where
    -- it has the value that it sends
    pub value_is : state.value ≡ Some value
    -- and the number that it had
    pub number_is : number_of state.seat ≡ number

  -- in the end the queue has the value, or the caller
  abbrev pub left_of : Result (Option Wake) Fault → Option T
  left_of (Ok wake) = None
  left_of (Err why) = Some value

  -- whoever is still to be woken is at one of the places
  abbrev pub IsThere : Result (Option Wake) Fault → Type 0
  IsThere (Ok wake) = IfSome wake (IsOfRow channel)
  IsThere (Err why) = ⊤

  -- what holds of the seat, the value and the answer in the end
  pub record IsOver (answer : Result (Option Wake) Fault) (state : Sending T) : Type 0 where
    -- the value is where the answer says
    pub value_is : state.value ≡ left_of answer
    -- the seat has the number that it had
    pub number_is : number_of state.seat ≡ number
    -- who is to be woken is at a place
    pub there : IsThere answer

  -- a request that left this value
  over_by : (call : MessageCall T) (told : MessageReply T) (left : Option T)
      (answer : Result (Option Wake) Fault) (old new : Sending T) → HasIt old
      → AsksWith channel place value call told left old new → left ≡ left_of answer → IsThere answer
      → IsOver answer new
  over_by call told left answer old new has asks same there =
      record {
        value_is = asks.left_is ∙ same;
        number_is = asks.asks.number ∙ has.number_is;
        there = there;
      }

  refused : (old new : Point (Sending T)) (why : Fault) → HasIt old.seat
      → Puts channel place value old (Refused why) new → IsOver (Err why) new.seat
  refused old new fault.Hungup has puts = over_by _ _ _ _ _ _ has puts.asks refl tt
  refused old new fault.Worn has puts = over_by _ _ _ _ _ _ has puts.asks refl tt
  refused old new fault.Memory has puts = absurd puts
  refused old new (fault.Interrupted set) has puts = absurd puts
  refused old new fault.TooBig has puts = absurd puts
  refused old new fault.DoubleSleep has puts = absurd puts
  refused old new fault.BadArg has puts = absurd puts
  refused old new fault.BadLevel has puts = absurd puts
  refused old new fault.BadCount has puts = absurd puts
  refused old new fault.BadSize has puts = absurd puts
  refused old new fault.NoProc has puts = absurd puts
  refused old new fault.NoRendez has puts = absurd puts
  refused old new fault.BadFlags has puts = absurd puts
  refused old new (fault.Script line) has puts = absurd puts
  refused old new fault.TimedOut has puts = absurd puts
  refused old new fault.Device has puts = absurd puts

  answered : (old new : Point (Sending T)) (answer : Result (Option Wake) Fault) → HasIt old.seat
      → Puts channel place value old (reply_of answer) new → IsOver answer new.seat
  answered old new (Ok None) has puts = over_by _ _ _ (Ok None) _ _ has puts.asks refl tt
  answered old new (Ok (Some wake)) has puts = absurd puts
  answered old new (Err why) has puts = refused old new why has puts

  goes_on : (old new : Point (Sending T)) (grants : ℕ) → HasIt old.seat
      → Puts channel place value old (Wait grants) new → HasIt new.seat
  goes_on old new grants has puts =
      record {
        value_is = puts.asks.left_is;
        number_is = puts.asks.asks.number ∙ has.number_is;
      }

  late : (old new : Sending T) (wake : Option Wake) → HasIt old
      → LeavesLine channel place value old (Some wake) new → IsOver (Ok wake) new
  late old new wake has left =
      over_by _ _ _ (Ok wake) _ _ has left refl
      (named_there channel _ (reply.Accepted wake) _ _ left.asks)

  gone : (old new : Sending T) (why : Fault) → HasIt old
      → LeavesLine channel place value old None new → IsOver (Err why) new
  gone old new why has left = over_by _ _ _ (Err why) _ _ has left refl tt

  waited_over : (rendez : RendezId) (before after : Point (Sending T))
      (told : Result (Option Wake) Fault) → HasIt before.seat
      → Waited (sending channel place value) rendez before told after → IsOver told after.seat
  waited_over rendez before after told has (inl begun) = answered before after told has begun
  waited_over rendez before after told has (inr waits) =
      wait_ends (sending channel place value) rendez HasIt IsOver goes_on
      (λ old new answer on puts. answered old new answer on puts) late gone
      waits.first told after (goes_on before waits.first.at waits.first.number has waits.begun)
      waits.waited

-- what it came to, by whatever runner
module _ {T : Type 0} (channel : Channel T) (place : ℕ) (value : T) where
  -- the same, by the number that the seat had at first
  abbrev pub IsOverFrom : Sending T → Result (Option Wake) Fault → Sending T → Type 0
  IsOverFrom before answer after = IsOver channel place value (number_of before.seat) answer after

  same_over : (before : Sending T) (told answer : Result (Option Wake) Fault) (state : Sending T)
      → ComesToSame told answer → IsOverFrom before told state → IsOverFrom before answer state
  same_over before (Ok one) (Ok other) state same over =
      subst (λ wake. IsOverFrom before (Ok wake) state) (sym same) over
  same_over before (Err why) (Err other) state same over =
      record { value_is = over.value_is; number_is = over.number_is; there = tt }
  same_over before (Ok one) (Err other) state same over = absurd same
  same_over before (Err why) (Ok other) state same over = absurd same

  -- and so it is by whatever runner
  pub is_over : (rendez : RendezId) (before after : Point (Sending T))
      (answer : Result (Option Wake) Fault) → before.seat.value ≡ Some value
      → IsACall (sending channel place value) rendez before answer after
      → IsOverFrom before.seat answer after.seat
  is_over rendez before after answer has call =
      same_over before.seat call.told answer after.seat call.same
      (waited_over channel place value (number_of before.seat.seat) rendez before
      (record { seat = after.seat; process = call.process }) call.told
      (record { value_is = has; number_is = refl }) call.waited)
