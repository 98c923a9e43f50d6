-- By the count that it asks for.
use Rattle.std.proofs.Common.{refl}
use Rattle.messages.proofs.messages.Sender.is_empty.Goals as goal

pub returns-clause-counted : goal.returns-clause-counted
returns-clause-counted g c = (c.len.result, c.len.ensures.counted.0, refl, c.len.ensures.counted.1)
