-- A take that is to wait is answered with a value or the end, waits, or is worn out.
use Rattle.messages.proofs.AskLemmas.{named_is_there, take_never, told_low}
use Rattle.messages.proofs.receiving.ReceiveWaitingCall.ask.Goals as goal

pub unreachable-requires : goal.unreachable-requires
unreachable-requires g c =
    take_never _ _ _ _ c.ask.ensures.told c.in_default.not-Value c.in_default.not-End
    c.in_default.not-Wait c.in_default.not-WornOut

pub wake_next-requires-clause-there : goal.wake_next-requires-clause-there
wake_next-requires-clause-there g c = named_is_there _ _ _ c.in-Value.ensures.told

pub returns-in-Wait-clause-low : goal.returns-in-Wait-clause-low
returns-in-Wait-clause-low g c = told_low _ _ _ c.in-Wait.ensures.told
