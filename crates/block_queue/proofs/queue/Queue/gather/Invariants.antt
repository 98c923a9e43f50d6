-- what the survey is asked for
use Rattle.block_queue.specs.Seats.{asks, no_write}
use Rattle.block_queue.proofs.queue.Queue.gather.Given as goal

abbrev pub ghosts-survey : goal.ghosts-survey
ghosts-survey a = record { asked = asks a.self.now 0 no_write }
