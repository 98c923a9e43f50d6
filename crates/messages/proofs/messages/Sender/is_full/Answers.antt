-- By the count that it asks for.
use Rattle.std.proofs.Common.{refl}
use Rattle.messages.proofs.messages.Sender.is_full.Goals as goal

pub returns-clause-counted : goal.returns-clause-counted
returns-clause-counted g c = (
  c.room.ensures.counted.0,
  c.room.result,
  refl,
  c.room.ensures.counted.1,
)
