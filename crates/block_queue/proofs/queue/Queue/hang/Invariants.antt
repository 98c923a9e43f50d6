-- what the step is asked for
use Rattle.block_queue.specs.Seats.{asks, no_write}
use Rattle.block_queue.proofs.queue.Queue.hang.Given as goal

abbrev pub ghosts-hang_up : goal.ghosts-hang_up
ghosts-hang_up a = record { asked = asks a.self.now 0 no_write }
