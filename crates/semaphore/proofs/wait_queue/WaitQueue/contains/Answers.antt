-- what is noted of each seat is whether it stands in the ring, which is the line
use Rattle.std.proofs.Common.{◌∙◌, ap, false, arith}
use Rattle.std.proofs.lemmas.List.{get_or_default}
use Rattle.semaphore.specs.WaitQueue.{Queue, stands_in}
use Rattle.semaphore.proofs.wait_queue.WaitQueue.contains.Goals as goal

pub returns : goal.returns
returns c =
    let line = c.self.inside in
    let seats = ap (λ (l : Queue). l.seats) c.self.view_is in
    c.index.ensures
    ∙ get_or_default line.stands.items c.args.seat c.index.result.now false (omega arith)
    ∙ c.self.invariant.told c.args.seat (omega arith)
    ∙ ap (λ (l : Queue). stands_in l.order c.args.seat) c.self.view_is
