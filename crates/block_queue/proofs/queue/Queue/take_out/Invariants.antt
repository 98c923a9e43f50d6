-- what the step is asked for
use Rattle.block_queue.specs.Seats.{asks}
use Rattle.block_queue.proofs.queue.Queue.take_out.Given as goal

abbrev pub ghosts-free_place : goal.ghosts-free_place
ghosts-free_place g a = record { asked = asks a.self.now 0 a._block.now }
