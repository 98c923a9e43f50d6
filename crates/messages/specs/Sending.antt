-- What a send promises. After send and nbsend in thread(2). Own: the end, and the order of the
-- refusals.
use Rattle.std.specs.Prelude.{◌≡◌, ⊤, ℕ, true, false, Option, Some, None, Result, Ok, Err}
use Rattle.kernel_lock.specs.Seats.{number_of}
use Rattle.rendez_words.specs.Process.{Process}
use Rattle.sync_base.specs.declared.fault.Fault.{Fault}
use Rattle.sync_base.specs.declared.fault.Fault.TheVariants as fault
use Rattle.waiting.specs.declared.call.Reply.{Reply}
use Rattle.waiting.specs.declared.call.Reply.TheVariants.{Done, Wait, Refused}
use Rattle.waiting.specs.Runners.{IsACall, RunPoint, Runs, as_long_as_it_takes}
use Rattle.waiting.specs.Waiting.{Point, Promise}
use Rattle.messages.specs.declared.answers.TrySent.{TrySent}
use Rattle.messages.specs.declared.answers.TrySent.TheVariants as sent
use Rattle.messages.specs.declared.answers.Unsent.{Unsent}
use Rattle.messages.specs.declared.channel.Channel.{Channel}
use Rattle.messages.specs.declared.message_object.MessageCall.{MessageCall}
use Rattle.messages.specs.declared.message_object.MessageCall.TheVariants.{Put, LeaveSender}
use Rattle.messages.specs.declared.message_object.MessageReply.{MessageReply}
use Rattle.messages.specs.declared.message_object.MessageReply.TheVariants as reply
use Rattle.messages.specs.declared.message_object.Wake.{Wake}
use Rattle.messages.specs.declared.messages.Sending.{Sending}
use Rattle.messages.specs.Asking.{HandleSeat, IsHandleSeatOf, Asks}
use Rattle.messages.specs.Handles.{rendez_of_place}
use Rattle.messages.specs.Waking.{WakesNext}

module _ {T : Type 0} (channel : Channel T) where
  -- after a send the seat is the queue's
  abbrev pub IsSent : Sending T → Type 0
  IsSent state = IsHandleSeatOf channel state.seat

  -- a send of this value from this place
  module _ (place : ℕ) (value : T) where
    -- who is to send has the value
    pub record IsSending (state : Sending T) : Type 0 where
      pub seat : IsHandleSeatOf channel state.seat
      pub value_is : state.value ≡ Some value

    -- ---- the requests of a send

    -- it asked this, was answered so, and has this left to send
    pub record AsksWith (call : MessageCall T) (told : MessageReply T) (left : Option T)
        (before after : Sending T) : Type 0 where
      pub asks : Asks channel call told before.seat after.seat
      pub left_is : after.value ≡ left

    -- a put was answered so, and the process did nothing
    pub record OnlyPuts (told : MessageReply T) (left : Option T) (before after : Point (Sending T))
        : Type 0 where
      pub asks : AsksWith (Put (number_of before.seat.seat) place value true) told left
          before.seat after.seat
      pub idle : after.process ≡ before.process

    -- the value was accepted, and the receiver that was granted one was woken
    pub record IsAccepted (before after : Point (Sending T)) : Type 0 where
      pub wake : Option Wake
      pub asks : AsksWith (Put (number_of before.seat.seat) place value true) (reply.Accepted wake)
          None
          before.seat after.seat
      pub woken : WakesNext channel wake before.process after.process

    -- a put, at first and after each sleep
    abbrev pub Puts : Point (Sending T) → Reply (Option Wake) → Point (Sending T) → Type 0
    Puts before (Done None) after = IsAccepted before after
    Puts before (Done (Some wake)) after = ⊥
    Puts before (Wait grants) after =
        OnlyPuts (reply.Full value grants) (Some value) before after
    Puts before (Refused fault.Hungup) after =
        OnlyPuts (reply.Hungup value) (Some value) before after
    Puts before (Refused fault.Worn) after = OnlyPuts (reply.Worn value) (Some value) before after
    Puts before (Refused why) after = ⊥

    -- Where a sleep failed it leaves the line: with the value accepted, since it was granted room
    -- by then, and somebody to wake; or with the value.
    abbrev pub LeavesLine : Sending T → Option (Option Wake) → Sending T → Type 0
    LeavesLine before (Some wake) after =
        AsksWith (LeaveSender (number_of before.seat) place value) (reply.Accepted wake) None before
        after
    LeavesLine before None after =
        AsksWith (LeaveSender (number_of before.seat) place value) (reply.NotNow value) (Some value)
        before after

    -- a call that sends the value, as its wait asks the queue
    abbrev pub sending : Promise (Sending T) (Option Wake)
    sending = record { begun = Puts; asked = Puts; left = LeavesLine }

    -- ---- a send

    -- where it was accepted, whoever is still to be woken was woken
    abbrev pub IsSettled : Result Unit Fault → Result (Option Wake) Fault
        → Process → Process → Type 0
    IsSettled (Ok unit) (Ok wake) before after = WakesNext channel wake before after
    IsSettled (Err why) (Err fault) before after = (fault ≡ why) × (after ≡ before)
    IsSettled answer other before after = ⊥

    -- a send by a runner: it ran, whatever the runner is it was a call that sends, and it was
    -- settled
    pub record SendsBy {Timer : Type 0} (runs : Runs Timer)
        (before : RunPoint Timer (HandleSeat T)) (answer : Result Unit Fault)
        (after : RunPoint Timer (HandleSeat T)) : Type 0 where
      pub first : Sending T
      pub first_is : first ≡ record { seat = before.at.seat; value = Some value }
      pub told : Result (Option Wake) Fault
      pub between : RunPoint Timer (Sending T)
      pub ran : runs.ran sending (rendez_of_place channel place)
          (record {
            at = record { seat = first; process = before.at.process };
            timer = before.timer;
          }) told between
      pub is_call : IsACall sending (rendez_of_place channel place)
          (record { seat = first; process = before.at.process }) told between.at
      pub seat_is : after.at.seat ≡ between.at.seat.seat
      pub timer_is : after.timer ≡ between.timer
      pub settled : IsSettled answer told between.at.process after.at.process

    -- a send that waits as long as it takes
    abbrev pub Sends : Point (HandleSeat T) → Result Unit Fault → Point (HandleSeat T) → Type 0
    Sends before answer after =
        SendsBy as_long_as_it_takes (record { at = before; timer = tt }) answer
        (record { at = after; timer = tt })

    -- ---- a send that does not wait

    -- it was answered so, and the process did nothing
    pub record OnlyTries (told : MessageReply T) (before after : Point (HandleSeat T)) : Type 0
      where
        pub asks : Asks channel (Put (number_of before.seat) place value false) told before.seat
            after.seat
        pub idle : after.process ≡ before.process

    pub record IsAcceptedNow (before after : Point (HandleSeat T)) : Type 0 where
      pub wake : Option Wake
      pub asks : Asks channel (Put (number_of before.seat) place value false) (reply.Accepted wake)
          before.seat after.seat
      pub woken : WakesNext channel wake before.process after.process

    abbrev pub TriesToSend :
        Point (HandleSeat T) → TrySent T → Point (HandleSeat T) → Type 0
    TriesToSend before sent.Sent after = IsAcceptedNow before after
    TriesToSend before (sent.Full back) after = OnlyTries (reply.NotNow value) before after
    TriesToSend before (sent.Over back) after = OnlyTries (reply.Hungup value) before after
    TriesToSend before (sent.NoRendez back) after = ⊥

module _ {A T : Type 0} where
  -- the answer without the value
  abbrev pub fault_of : Result A (Unsent T) → Result A Fault
  fault_of (Ok out) = Ok out
  fault_of (Err unsent) = Err unsent.fault

module _ {T : Type 0} where
  -- a value that was not sent comes back
  abbrev pub GivesBackTried : T → TrySent T → Type 0
  GivesBackTried value sent.Sent = ⊤
  GivesBackTried value (sent.Full back) = back ≡ value
  GivesBackTried value (sent.Over back) = back ≡ value
  GivesBackTried value (sent.NoRendez back) = back ≡ value

  -- whether the process may not send
  abbrev pub may_of : TrySent T → Result Unit Fault
  may_of (sent.NoRendez back) = Err fault.NoRendez
  may_of sent.Sent = Ok tt
  may_of (sent.Full back) = Ok tt
  may_of (sent.Over back) = Ok tt
