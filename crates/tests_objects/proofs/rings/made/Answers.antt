-- Each new writer's seat is a seat of the queue.
use Rattle.block_queue.proofs.AllSeatsLemmas.{new_are_seats}
use Rattle.tests_objects.proofs.rings.made.Goals as goal

pub returns-in-Ok-clause-puts : goal.returns-in-Ok-clause-puts
returns-in-Ok-clause-puts c = new_are_seats _ _ _ c.in-Ok.ensures.opened.puts_are

pub returns-in-Ok-new-clause-puts : goal.returns-in-Ok-new-clause-puts
returns-in-Ok-new-clause-puts c = new_are_seats _ _ _ c.in-Ok-new.ensures.opened.puts_are
