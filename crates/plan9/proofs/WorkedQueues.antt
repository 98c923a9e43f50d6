-- What is no send and no receive until a moment: each against one row.
use Rattle.std.proofs.Common.{◌≢◌, ℕ, Result, Err}
use Rattle.sync_base.specs.declared.fault.Fault.{Fault}
use Rattle.sync_base.specs.declared.fault.Fault.TheVariants.{NoRendez}
use Rattle.messages.specs.declared.answers.Received.{Received}
use Rattle.messages.specs.declared.answers.Unsent.{Unsent}
use Rattle.messages.specs.Receiving.{ReceivesBy}
use Rattle.messages.specs.Sending.{SendsBy, fault_of}
use Rattle.plan9.specs.Queues.{WatchedHandle, IsAsBefore, MayCall, ReceivesWithin, SendsWithin}
use Rattle.plan9.specs.Queues.{handle_point}
use Rattle.plan9.specs.Watches.{until}

module _ {T : Type 0} (moment : ℕ) (old new : WatchedHandle T) where
  module _ (value : T) (answer : Result Unit (Unsent T)) where
    -- a process of another kernel is answered, or its refusal does something
    another_kernel_sends : ¬ MayCall old → fault_of answer ≢ Err NoRendez
        → ¬ SendsWithin moment value old answer new
    another_kernel_sends foreign other sends = other (sends.refused foreign).0

    refused_send_does_something : ¬ MayCall old → ¬ IsAsBefore old new
        → ¬ SendsWithin moment value old answer new
    refused_send_does_something foreign other sends = other (sends.refused foreign).1

    -- it waits for another moment, or sends another value
    sent_until_another_moment : MayCall old
        → ¬ SendsBy old.handle.channel old.handle.place value (until old.watch moment)
        (handle_point old) (fault_of answer) (handle_point new)
        → ¬ SendsWithin moment value old answer new
    sent_until_another_moment own other sends = other (sends.called own)

  module _ (answer : Result (Received T) Fault) where
    another_kernel_receives : ¬ MayCall old → answer ≢ Err NoRendez
        → ¬ ReceivesWithin moment old answer new
    another_kernel_receives foreign other receives = other (receives.refused foreign).0

    refused_receive_does_something : ¬ MayCall old → ¬ IsAsBefore old new
        → ¬ ReceivesWithin moment old answer new
    refused_receive_does_something foreign other receives = other (receives.refused foreign).1

    received_until_another_moment : MayCall old
        → ¬ ReceivesBy old.handle.channel old.handle.place (until old.watch moment)
        (handle_point old) answer (handle_point new) → ¬ ReceivesWithin moment old answer new
    received_until_another_moment own other receives = other (receives.called own)
