-- What clauses see of a queue of values and of the handles by which processes send and receive.
use Rattle.std.specs.Prelude.{◌≡◌, ◌≤◌, ◌+◌, ◌⊎◌, ⊤, ℕ, Option, Some, None}
use Rattle.kernel_lock.specs.Seats.{Splits, KnowsAllGiven, number_of}
use Rattle.rendez_words.specs.declared.words.Words.{Words}
use Rattle.rendez_words.specs.Words.{rendez_of}
use Rattle.sync_base.specs.declared.ids.RendezId.{RendezId}
use Rattle.messages.specs.declared.channel.Channel.{Channel}
use Rattle.messages.specs.declared.message_object.MessageCall.TheVariants.{Open}
use Rattle.messages.specs.declared.message_object.MessageReply.TheVariants as reply
use Rattle.messages.specs.declared.message_object.Side.{Side}
use Rattle.messages.specs.declared.message_object.Side.TheVariants.{Senders, Receivers}
use Rattle.messages.specs.Asking.{Asks, HandleSeat, IsHandleSeatOf}

-- a queue, and the seat and the place of a handle at it
pub record Handle (T : Type 0) : Type 0 where
  pub channel : Channel T
  pub seat : HandleSeat T
  pub place : ℕ

-- a queue, and its first seat as long as nobody has it
pub record Holding (T : Type 0) : Type 0 where
  pub channel : Channel T
  pub spare : Option (HandleSeat T)

module _ {T : Type 0} where
  -- the Rendez of the queue are among these words
  abbrev pub OwnsRow : Channel T → Words → Type 0
  OwnsRow channel words = channel.first + channel.handles ≤ rendez_of words

  -- the Rendez of the handle at this place
  abbrev pub rendez_of_place : Channel T → ℕ → RendezId
  rendez_of_place channel place = record { 0 = channel.first + place }

  -- nobody has the seat, or it is the queue's
  abbrev pub IsSpareOf : Channel T → Option (HandleSeat T) → Type 0
  IsSpareOf channel None = ⊤
  IsSpareOf channel (Some seat) = IsHandleSeatOf channel seat

  -- ---- who has a handle

  -- the same handle at the same queue
  pub record IsSame (old new : Handle T) : Type 0 where
    pub channel_is : new.channel ≡ old.channel
    pub number : number_of new.seat ≡ number_of old.seat
    pub place_is : new.place ≡ old.place

  -- the seat was opened on this side, at this place
  abbrev pub IsOpened : Channel T → Side → HandleSeat T → ℕ → HandleSeat T → Type 0
  IsOpened channel side before place after =
      Asks channel (Open side (number_of before)) (reply.Opened place) before after

  -- the seat was not, for want of a place
  abbrev pub IsNotOpened : Channel T → Side → HandleSeat T → Type 0
  IsNotOpened channel side before =
      (after : HandleSeat T)
      × Asks channel (Open side (number_of before)) reply.NoPlace before after

  -- a seat that was given to no other was opened on this side
  pub record IsGiven (channel : Channel T) (side : Side) (old new : HandleSeat T)
      (seat : HandleSeat T) (place : ℕ) : Type 0 where
    pub first : HandleSeat T
    pub given : Splits channel.lock old new first
    pub opened : IsOpened channel side first place seat

  -- a handle of the same queue that was given to no other
  pub record IsFurther (side : Side) (old new child : Handle T) : Type 0 where
    pub channel_is : child.channel ≡ old.channel
    pub given : IsGiven old.channel side old.seat new.seat child.seat child.place

  -- why there is no further handle: all places are taken, or all seats were given
  abbrev pub WhyNotGiven : Channel T → Side → HandleSeat T → HandleSeat T → Type 0
  WhyNotGiven channel side old new =
      KnowsAllGiven channel.lock old new
      ⊎ ((first : HandleSeat T) × Splits channel.lock old new first
      × IsNotOpened channel side first)

  -- the two ends: the first one has the seat that nobody had
  pub record AreEnds (holding : Holding T) (sender receiver : Handle T) : Type 0 where
    pub first : HandleSeat T
    pub first_is : holding.spare ≡ Some first
    pub sender_is : sender.channel ≡ holding.channel
    pub receiver_is : receiver.channel ≡ holding.channel
    pub between : HandleSeat T
    pub opened : IsOpened holding.channel Senders first sender.place between
    pub given : IsGiven holding.channel Receivers between sender.seat
        receiver.seat receiver.place

  -- why there are no ends: somebody had them, or there was no seat or no place for them
  abbrev pub WhyNoEnds : Holding T → Type 0
  WhyNoEnds holding =
      (holding.spare ≡ None)
      ⊎ ((first : HandleSeat T) × (holding.spare ≡ Some first)
      × (IsNotOpened holding.channel Senders first
      ⊎ ((place : ℕ) × (between : HandleSeat T) × (after : HandleSeat T)
      × IsOpened holding.channel Senders first place between
      × WhyNotGiven holding.channel Receivers between after)))
