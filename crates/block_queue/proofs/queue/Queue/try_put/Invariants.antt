-- what the two loads are asked for
use Rattle.block_queue.specs.Seats.{asks}
use Rattle.block_queue.proofs.queue.Queue.try_put.Given as goal

abbrev pub ghosts-put_tail : goal.ghosts-put_tail
ghosts-put_tail g a =
    record { asked = asks a.self.now 0 (record { writer = a._writer; bytes = a._block.now }) }

abbrev pub ghosts-put_sequence : goal.ghosts-put_sequence
ghosts-put_sequence g a =
    record { asked = asks a.self.now a.count (record { writer = a._writer; bytes = a._block.now }) }
