-- the seat is linked in after the last, so the links are a ring still, read as the line and the
-- seat
use Rattle.std.proofs.Common.{◌∙◌, ◌∷◌, ◌++◌, [], true, ap, arith}
use Rattle.std.proofs.Math.ListN.{length-set}
use Rattle.semaphore.specs.WaitQueue.{Queue, stands_in}
use Rattle.semaphore.proofs.WaitQueueLemmas.{count_fits, last_fits, ring_is, ring_join}
use Rattle.semaphore.proofs.WaitQueueLemmas.{ring_walk, same_line}
use Rattle.semaphore.proofs.wait_queue.WaitQueue.join.Goals as goal

pub index_mut-requires : goal.index_mut-requires
index_mut-requires c =
    let fits = last_fits _ _ _ _ _ c.self.invariant c.len-end.result _ (omega arith)
    c.index-last.ensures in
    omega arith

pub overflow_add-self : goal.overflow_add-self
overflow_add-self c =
    let fits = count_fits _ _ _ _ _ c.self.invariant in
    omega arith

-- the seat after the last, and before the end
pub invariant_of-self : goal.invariant_of-self
invariant_of-self c =
    let seats = ap (λ (l : Queue). l.seats) c.self.view_is in
    let new = ap (λ (l : Queue). stands_in l.order c.args.seat) c.self.view_is in
    ring_is _ _ _ _ _
    (ring_join _ _ _ _ _ c.self.invariant c.args.seat _ c.len-end.result (omega arith) (omega arith)
    c.index-last.ensures (new ∙ c.requires.new))

-- the line with the seat after it
pub returns : goal.returns
returns c =
    let seats = ap (λ (l : Queue). l.seats) c.self.view_is in
    let new = ap (λ (l : Queue). stands_in l.order c.args.seat) c.self.view_is in
    let joined = ring_join _ _ _ _ _ c.self.invariant c.args.seat _ c.len-end.result (omega arith)
    (omega arith) c.index-last.ensures (new ∙ c.requires.new) in
    same_line _ _ (length-set c.self.inside.stands.items c.args.seat true ∙ seats)
    (ring_walk _ _ _ _ _ joined ∙ ap (λ (l : Queue). l.order ++ c.args.seat ∷ []) c.self.view_is)
