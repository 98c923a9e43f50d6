-- What a receive promises. After recv and nbrecv in thread(2). Own: the end.
use Rattle.std.specs.Prelude.{◌≡◌, ℕ, Bool, true, false, Option, Some, None, Result, Ok, Err}
use Rattle.kernel_lock.specs.Seats.{number_of}
use Rattle.rendez_words.specs.Process.{Process}
use Rattle.sync_base.specs.declared.fault.Fault.{Fault}
use Rattle.sync_base.specs.declared.fault.Fault.TheVariants as fault
use Rattle.waiting.specs.declared.call.Reply.{Reply}
use Rattle.waiting.specs.declared.call.Reply.TheVariants.{Done, Wait, Refused}
use Rattle.waiting.specs.Runners.{IsACall, RunPoint, Runs, as_long_as_it_takes}
use Rattle.waiting.specs.Waiting.{Point, Promise}
use Rattle.messages.specs.declared.answers.Received.{Received}
use Rattle.messages.specs.declared.answers.Received.TheVariants as received
use Rattle.messages.specs.declared.answers.TryReceived.{TryReceived}
use Rattle.messages.specs.declared.answers.TryReceived.TheVariants as tried
use Rattle.messages.specs.declared.channel.Channel.{Channel}
use Rattle.messages.specs.declared.message_object.MessageCall.TheVariants.{Take, LeaveReceiver}
use Rattle.messages.specs.declared.message_object.MessageReply.{MessageReply}
use Rattle.messages.specs.declared.message_object.MessageReply.TheVariants as reply
use Rattle.messages.specs.declared.message_object.Wake.{Wake}
use Rattle.messages.specs.declared.receiving.Got.{Got}
use Rattle.messages.specs.Asking.{HandleSeat, Asks}
use Rattle.messages.specs.Handles.{rendez_of_place}
use Rattle.messages.specs.Waking.{WakesNext}

-- a receive at this place
module _ {T : Type 0} (channel : Channel T) (place : ℕ) where
  -- ---- the requests of a receive

  -- a take was answered so, and the process did nothing
  pub record OnlyTakes (wait : Bool) (told : MessageReply T)
      (before after : Point (HandleSeat T)) : Type 0 where
    pub asks : Asks channel (Take (number_of before.seat) place wait) told before.seat after.seat
    pub idle : after.process ≡ before.process

  -- it took this value out, and woke the sender that was granted its room
  pub record IsGiven (wait : Bool) (value : T) (before after : Point (HandleSeat T)) : Type 0 where
    pub wake : Option Wake
    pub asks : Asks channel (Take (number_of before.seat) place wait) (reply.Value value wake)
        before.seat after.seat
    pub woken : WakesNext channel wake before.process after.process

  abbrev pub IsAnswered : Bool → Point (HandleSeat T) → Received T → Point (HandleSeat T) → Type 0
  IsAnswered wait before (received.Value value) after = IsGiven wait value before after
  IsAnswered wait before received.End after = OnlyTakes wait reply.End before after

  -- a take, at first and after each sleep
  abbrev pub Takes : Point (HandleSeat T) → Reply (Got T) → Point (HandleSeat T) → Type 0
  Takes before (Done got) after =
      IsAnswered true before got.received after × (got.wake ≡ None)
  Takes before (Wait grants) after = OnlyTakes true (reply.Wait grants) before after
  Takes before (Refused fault.Worn) after = OnlyTakes true reply.WornOut before after
  Takes before (Refused why) after = ⊥

  -- where a sleep failed it leaves the line with the value that it was granted by then, and
  -- somebody to wake
  abbrev pub IsLeftWith : HandleSeat T → Received T → Option Wake → HandleSeat T → Type 0
  IsLeftWith before (received.Value value) wake after =
      Asks channel (LeaveReceiver (number_of before) place) (reply.Value value wake) before after
  IsLeftWith before received.End wake after =
      Asks channel (LeaveReceiver (number_of before) place) reply.End before after × (wake ≡ None)

  -- or without one
  abbrev pub LeavesLine : HandleSeat T → Option (Got T) → HandleSeat T → Type 0
  LeavesLine before (Some got) after = IsLeftWith before got.received got.wake after
  LeavesLine before None after =
      Asks channel (LeaveReceiver (number_of before) place) reply.Empty before after

  -- a call that receives, as its wait asks the queue
  abbrev pub receiving : Promise (HandleSeat T) (Got T)
  receiving = record { begun = Takes; asked = Takes; left = LeavesLine }

  -- ---- a receive

  -- it answers what it received, and whoever is still to be woken was woken
  abbrev pub IsSettled : Result (Received T) Fault → Result (Got T) Fault
      → Process → Process → Type 0
  IsSettled (Ok outcome) (Ok got) before after =
      (got.received ≡ outcome) × WakesNext channel got.wake before after
  IsSettled (Err why) (Err fault) before after = (fault ≡ why) × (after ≡ before)
  IsSettled answer other before after = ⊥

  -- a receive by a runner: it ran, whatever the runner is it was a call that receives, and it was
  -- settled
  pub record ReceivesBy {Timer : Type 0} (runs : Runs Timer)
      (before : RunPoint Timer (HandleSeat T)) (answer : Result (Received T) Fault)
      (after : RunPoint Timer (HandleSeat T)) : Type 0 where
    pub told : Result (Got T) Fault
    pub between : RunPoint Timer (HandleSeat T)
    pub ran : runs.ran receiving (rendez_of_place channel place) before told between
    pub is_call : IsACall receiving (rendez_of_place channel place) before.at told between.at
    pub seat_is : after.at.seat ≡ between.at.seat
    pub timer_is : after.timer ≡ between.timer
    pub settled : IsSettled answer told between.at.process after.at.process

  -- a receive that waits as long as it takes
  abbrev pub Receives :
      Point (HandleSeat T) → Result (Received T) Fault → Point (HandleSeat T) → Type 0
  Receives before answer after =
      ReceivesBy as_long_as_it_takes (record { at = before; timer = tt }) answer
      (record { at = after; timer = tt })

  -- a receive that does not wait
  abbrev pub TriesToReceive : Point (HandleSeat T) → TryReceived T → Point (HandleSeat T) → Type 0
  TriesToReceive before (tried.Value value) after = IsGiven false value before after
  TriesToReceive before tried.End after = OnlyTakes false reply.End before after
  TriesToReceive before tried.NotNow after = OnlyTakes false reply.Empty before after
