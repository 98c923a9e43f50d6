-- what the loads are asked for
use Rattle.block_queue.specs.Seats.{asks, no_write}
use Rattle.block_queue.proofs.queue.Queue.take_next.Given as goal

abbrev pub ghosts-take_ready : goal.ghosts-take_ready
ghosts-take_ready g a = record { asked = asks a.self.now 0 no_write }

abbrev pub ghosts-take_tail : goal.ghosts-take_tail
ghosts-take_tail g a = record { asked = asks a.self.now 0 no_write }

abbrev pub ghosts-take_sequence : goal.ghosts-take_sequence
ghosts-take_sequence g a = record { asked = asks a.self.now 0 no_write }
