-- What a hangup promises, and a close. Own. The first hangup, or the last close of a side, wakes
-- whoever waits at any place, with a number above each that was told to who waits.
use Rattle.std.specs.Prelude.{◌≡◌, ◌⊎◌, ℕ}
use Rattle.kernel_lock.specs.Seats.{number_of}
use Rattle.rendez_words.specs.Process.{Process}
use Rattle.waiting.specs.Waiting.{Point}
use Rattle.messages.specs.declared.channel.Channel.{Channel}
use Rattle.messages.specs.declared.message_object.MessageCall.{MessageCall}
use Rattle.messages.specs.declared.message_object.MessageCall.TheVariants.{Close, Hang}
use Rattle.messages.specs.declared.message_object.MessageReply.{MessageReply}
use Rattle.messages.specs.declared.message_object.MessageReply.TheVariants as reply
use Rattle.messages.specs.declared.message_object.Side.{Side}
use Rattle.messages.specs.Asking.{HandleSeat, Asks}
use Rattle.messages.specs.Waking.{WakesAll}

module _ {T : Type 0} (channel : Channel T) (call : MessageCall T) where
  -- it ended the queue: whoever waits was woken
  pub record EndsQueue (before after : Point (HandleSeat T)) : Type 0 where
    pub number : ℕ
    pub asks : Asks channel call (reply.Hung number) before.seat after.seat
    pub woken : WakesAll channel channel.handles number before.process after.process

  -- it was answered so, and nothing else was done
  pub record OnlyAsks (told : MessageReply T) (before after : Point (HandleSeat T)) : Type 0 where
    pub asks : Asks channel call told before.seat after.seat
    pub idle : after.process ≡ before.process

module _ {T : Type 0} (channel : Channel T) where
  -- the first hangup wakes all, and a later one finds the queue hung up
  abbrev pub HangsUp : Point (HandleSeat T) → Point (HandleSeat T) → Type 0
  HangsUp before after =
      EndsQueue channel Hang before after ⊎ OnlyAsks channel Hang reply.HungBefore before after

  -- the seat closes on this side, once: as the last one it hangs the queue up
  abbrev pub ClosesSeat : Side → Point (HandleSeat T) → Point (HandleSeat T) → Type 0
  ClosesSeat side before after =
      EndsQueue channel (Close side (number_of before.seat)) before after
      ⊎ (OnlyAsks channel (Close side (number_of before.seat)) reply.HungBefore before after
      ⊎ OnlyAsks channel (Close side (number_of before.seat)) reply.Closed before after)

  -- the handle with this seat closes, and is gone
  abbrev pub Closes : Side → Point (HandleSeat T) → Process → Type 0
  Closes side before after =
      (seat : HandleSeat T) × ClosesSeat side before (record { seat = seat; process = after })
