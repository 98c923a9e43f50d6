-- each writer so far has all its messages to write
use Rattle.std.specs.Prelude.{All}
use Rattle.crew.specs.Writing.{IsReadyWriter}
use Rattle.crew.proofs.crew.Crew.writers_at.Given as goal

abbrev pub invariant-seating : goal.invariant-seating
invariant-seating l = All (IsReadyWriter l.opts) l.writers.items
