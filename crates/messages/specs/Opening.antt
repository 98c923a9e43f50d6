-- What a new queue of values is.
use Rattle.std.specs.Prelude.{◌≡◌, ◌≤◌, ℕ, Some}
use Rattle.kernel_lock.specs.Seats.{IsFirstSeat, opening_of}
use Rattle.sleep_wakeup.specs.Kernel.{Unused, HasRendez}
use Rattle.sync_base.specs.declared.fault.Fault.{Fault}
use Rattle.sync_base.specs.declared.fault.Fault.TheVariants as fault
use Rattle.sync_base.specs.declared.limits.TheConstants.{MAX_PROCS}
use Rattle.messages.specs.declared.limits.TheConstants.{MAX_CAPACITY, MIN_HANDLES}
use Rattle.messages.specs.Asking.{HandleSeat}
use Rattle.messages.specs.Handles.{Holding, OwnsRow}
use Rattle.messages.specs.MessageObject.{message_definition, opening}

-- a queue may have this capacity and this many handles
pub record IsQueueSize (capacity handles : ℕ) : Type 0 where
  pub some : 1 ≤ capacity
  pub most : capacity ≤ MAX_CAPACITY
  pub two : MIN_HANDLES ≤ handles
  pub few : handles ≤ MAX_PROCS

-- Own: why there is no queue of this size. The size is tested first.
abbrev pub WhyNoMessages : Unused → ℕ → ℕ → Fault → Type 0
WhyNoMessages roster capacity handles fault.BadSize = ¬ IsQueueSize capacity handles
WhyNoMessages roster capacity handles fault.NoRendez =
    IsQueueSize capacity handles × (¬ HasRendez roster handles)
WhyNoMessages roster capacity handles fault.Memory =
    IsQueueSize capacity handles × HasRendez roster handles
WhyNoMessages roster capacity handles other = ⊥

-- a new queue: it is empty, nobody waits, its Rendez are the next ones, and its first seat, which
-- nobody has, has made no call
pub record IsNewMessages {T : Type 0} (roster : Unused) (capacity handles : ℕ)
    (holding : Holding T) : Type 0 where
  pub first : HandleSeat T
  pub spare_is : holding.spare ≡ Some first
  pub opening_is : opening_of message_definition holding.channel.lock ≡ opening capacity handles
  pub handles_are : holding.channel.handles ≡ handles
  pub first_is : holding.channel.first ≡ roster.rendez
  pub row : OwnsRow holding.channel roster.words
  pub first_seat : IsFirstSeat first
