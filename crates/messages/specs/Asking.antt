-- What a handle asks of its queue, and what it is answered.
use Rattle.std.specs.Prelude.{◌≡◌, ◌≤◌, ℕ}
use Rattle.sync_base.specs.declared.limits.TheConstants.{MAX_PROCS}
use Rattle.kernel_lock.specs.declared.lock_seat.LockSeat.{LockSeat}
use Rattle.kernel_lock.specs.declared.locked.Locked.{Locked}
use Rattle.kernel_lock.specs.Seats.{IsSeatOf, SeesHistory, Applies}
use Rattle.kernel_lock.specs.Seats.{limit_of, number_of, opening_of}
use Rattle.messages.specs.declared.channel.Channel.{Channel}
use Rattle.messages.specs.declared.limits.TheConstants.{MAX_SEATS}
use Rattle.messages.specs.declared.message_object.MessageCall.{MessageCall}
use Rattle.messages.specs.declared.message_object.MessageReply.{MessageReply}
use Rattle.messages.specs.MessageObject.{Contents, opening, answer_to, message_definition}
use Rattle.messages.specs.Soundness.{IsSound}

-- the values under their lock, and a handle's seat there
abbrev pub QueueLock : Type 0 → Type 0
QueueLock T = Locked (Contents T) (MessageCall T) (MessageReply T)

abbrev pub HandleSeat : Type 0 → Type 0
HandleSeat T = LockSeat (Contents T) (MessageCall T) (MessageReply T)

module _ {T : Type 0} where
  -- the lock guards a queue that was new, with places for this many handles
  pub record IsQueueLock (lock : QueueLock T) (handles : ℕ) : Type 0 where
    pub capacity : ℕ
    pub few : handles ≤ MAX_PROCS
    pub opening_is : opening_of message_definition lock ≡ opening capacity handles
    pub limit : limit_of lock ≡ MAX_SEATS

  -- the seat is one of the queue's, and has seen a legal history, with each of its own calls in it
  -- once
  pub record IsHandleSeatOf (channel : Channel T) (seat : HandleSeat T) : Type 0 where
    pub opened : IsQueueLock channel.lock channel.handles
    pub seat_is : IsSeatOf channel.lock seat
    pub history : SeesHistory message_definition channel.lock seat

  -- the seat asked this and got this answer, both in one legal history
  pub record Asks (channel : Channel T) (call : MessageCall T) (told : MessageReply T)
      (before after : HandleSeat T) : Type 0 where
    pub applied : Applies message_definition before call told after
    pub seat : IsHandleSeatOf channel after
    pub number : number_of after ≡ number_of before

  -- what the queue keeps when it is asked is sound, and gives this answer
  pub record IsTold (handles : ℕ) (call : MessageCall T) (told : MessageReply T) : Type 0 where
    pub kept : Contents T
    pub sound : IsSound handles kept
    pub told_is : told ≡ answer_to kept call
