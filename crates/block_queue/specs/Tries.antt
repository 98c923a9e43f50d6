-- How one round of a put ended, and the rest of a take.
use Rattle.std.specs.Prelude.{◌≡◌, ℕ, ◌+◌, ◌<◌, ◌^◌, List, [], ◌∷◌, Some, ⊤}
use Rattle.sync_base.specs.Write.{Write}
use Rattle.block_queue.specs.Calls.{Takes, IsFreshTake, blocks_in}
use Rattle.block_queue.specs.Places.{place_of}
use Rattle.block_queue.specs.Seats.{Stepper, IsStepperOf, IsFreeStepperOf}
use Rattle.block_queue.specs.declared.queue.Queue.{Queue}
use Rattle.block_queue.specs.declared.answers.TakeAnswer.{TakeAnswer}
use Rattle.block_queue.specs.declared.view.Stage.TheVariants.{Moving}
use Rattle.block_queue.specs.declared.answers.PutAnswer.{PutAnswer}
use Rattle.block_queue.specs.declared.answers.PutAnswer.TheVariants.{Taken, Full, Hungup, Worn}
use Rattle.block_queue.specs.declared.put.PutAttempt.{PutAttempt}
use Rattle.block_queue.specs.declared.put.PutAttempt.TheVariants.{Answered, Again}

abbrev pub IfAnswered : PutAttempt → (PutAnswer → Type 0) → Type 0
IfAnswered (Answered answer) P = P answer
IfAnswered (Again back) P = ⊤

abbrev pub IfAgain : PutAttempt → (List ℕ → Type 0) → Type 0
IfAgain (Answered answer) P = ⊤
IfAgain (Again back) P = P back

abbrev pub IsAgain : PutAttempt → Type 0
IsAgain (Answered answer) = ⊥
IsAgain (Again back) = ⊤

abbrev pub IsTaken : PutAnswer → Type 0
IsTaken (Taken number) = ⊤
IsTaken (Full back number) = ⊥
IsTaken (Hungup back) = ⊥
IsTaken (Worn back) = ⊥

-- the reader has the slot of the next block, and is about to take it out
pub record IsTakingOut (queue : Queue) (taken : ℕ) (stepper : Stepper) : Type 0 where
  pub stepper_is : IsStepperOf queue stepper 0
  pub number_is : stepper.me.0.account.number ≡ 0
  pub taken_is : taken ≡ stepper.me.0.taken
  pub small : taken < 2 ^ 62
  pub write : Write
  pub stage_is : stepper.me.0.stage ≡ Moving write.writer write.bytes
  pub slots_are : stepper.me.1 ≡ (place_of queue.key.limit taken, Some write) ∷ []

-- a take has its answer, and the reader is free
pub record HasTakenOut (queue : Queue) (taken : ℕ) (before after : Stepper) (answer : TakeAnswer) :
    Type 0 where
  pub free : IsFreeStepperOf queue after 0
  pub answered : Takes queue.key before.me.0.account after.me.0.account answer
  pub fresh : IsFreshTake queue.key before.me.0.account after.me.0.account answer
  pub counted : after.me.0.taken ≡ taken + blocks_in answer
