-- A word for each answer of a call.
use Rattle.rendez_words.specs.declared.states.Returned.{Returned}
use Rattle.rendez_words.specs.declared.states.TestAnswer.{TestAnswer}
use Rattle.rendez_words.specs.declared.states.TestAnswer.TheVariants as test
use Rattle.rendez_words.specs.declared.states.LookAnswer.{LookAnswer}
use Rattle.rendez_words.specs.declared.states.LookAnswer.TheVariants as look
use Rattle.rendez_words.specs.declared.states.WithdrawAnswer.{WithdrawAnswer}
use Rattle.rendez_words.specs.declared.states.WithdrawAnswer.TheVariants as withdraw
use Rattle.rendez_words.specs.declared.states.TakeAnswer.{TakeAnswer}
use Rattle.rendez_words.specs.declared.states.TakeAnswer.TheVariants as take
use Rattle.rendez_words.specs.Process.{Process}

-- the process after the call, and the answer
abbrev pub IfTested : TestAnswer → (Process → Type 0) → (Process → Type 0) → Type 0
IfTested (test.Asleep process) IfAsleep IfLeaving = IfAsleep process
IfTested (test.Leaving process) IfAsleep IfLeaving = IfLeaving process

abbrev pub IfLooked : LookAnswer → (Process → Type 0) → (Process → Type 0) → Type 0
IfLooked (look.Woken process) IfWoken IfLeaving = IfWoken process
IfLooked (look.Leaving process) IfWoken IfLeaving = IfLeaving process

abbrev pub IfWithdrawn : WithdrawAnswer → (Process → Type 0) → (Process → Type 0) → Type 0
IfWithdrawn (withdraw.Out process) IfOut IfAwaiting = IfOut process
IfWithdrawn (withdraw.Awaiting process) IfOut IfAwaiting = IfAwaiting process

abbrev pub IfTaken : TakeAnswer → (Returned → Type 0) → (Process → Type 0) → Type 0
IfTaken (take.Nobody returned) IfNobody IfHolding = IfNobody returned
IfTaken (take.Holding process) IfNobody IfHolding = IfHolding process
