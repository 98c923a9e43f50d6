-- where somebody stands in the line, the link of the end leads to the first, which is a seat
use Rattle.std.proofs.Common.{ap, arith}
use Rattle.semaphore.specs.WaitQueue.{Queue}
use Rattle.semaphore.proofs.WaitQueueLemmas.{first_fits}
use Rattle.semaphore.proofs.wait_queue.WaitQueue.first.Goals as goal

pub returns-clause-seat : goal.returns-clause-seat
returns-clause-seat c =
    let first = first_fits _ _ _ _ _ c.self.invariant c.len-end.result _ (omega arith)
    c.index.ensures (omega arith) in
    let seats = ap (λ (l : Queue). l.seats) c.self.view_is in
    omega arith
