-- A seat that opens is answered with one of the places, or that there is none.
use Rattle.messages.proofs.AskLemmas.{open_never, opened_below}
use Rattle.messages.proofs.channel.Channel.open.Goals as goal

pub unreachable-requires : goal.unreachable-requires
unreachable-requires g c =
    open_never _ _ _ _ c.ask.ensures.told c.in_default.not-Opened c.in_default.not-NoPlace

pub returns-in-Opened-clause-place : goal.returns-in-Opened-clause-place
returns-in-Opened-clause-place g c =
    opened_below _ _ _ _ c.in-Opened.ensures.told
