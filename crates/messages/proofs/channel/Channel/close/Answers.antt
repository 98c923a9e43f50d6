-- A seat that closes is answered with the end, or that others are open.
use Rattle.messages.proofs.AskLemmas.{close_never}
use Rattle.messages.proofs.channel.Channel.close.Goals as goal

pub unreachable-requires : goal.unreachable-requires
unreachable-requires g c =
    close_never _ _ _ _ c.ask.ensures.told c.in_default.not-Hung c.in_default.not-HungBefore
    c.in_default.not-Closed
