-- what the two steps are asked for
use Rattle.block_queue.specs.Seats.{asks}
use Rattle.block_queue.proofs.queue.Queue.claim.Given as goal

abbrev pub ghosts-accept : goal.ghosts-accept
ghosts-accept g a = record {
  asked = asks a.self.now a.count
      (record { writer = a._writer; bytes = a._block.now });
}

abbrev pub ghosts-store : goal.ghosts-store
ghosts-store g a = record {
  asked = asks a.self.now a.count
      (record { writer = a._writer; bytes = a._block.now.value });
}
