-- One place more of the walk.
use Rattle.std.proofs.Common.{◌≡◌, ◌+◌, ◌-◌, length, slice_index, arith}
use Rattle.std.proofs.lemmas.Grind.{common_steps}
use Rattle.semaphore.specs.WaitQueue.{walk}
use Rattle.semaphore.proofs.WaitQueueLemmas.{walked_more}
use Rattle.semaphore.proofs.wait_queue.WaitQueue.order.Goals as goal

pub seats-preserved : goal.seats-preserved
seats-preserved c =
    let next = c.as_slice-next.result.now in
    let before = c.seats.order.items in
    let count = c.self.inside.count in
    let seat : c.unwrap_or-seat.result ≡ slice_index next c.seats.seat =
    grind (arith, common_steps) in
    let more : length c.push.new.self.items ≡ length before + 1 = grind (arith, common_steps) in
    let fewer : count - length c.push.new.self.items ≡ count - length before - 1 = omega arith in
    record {
      fits = omega arith;
      whole = rw (fewer, c.in_ok-push.ensures.items, seat)
          (walked_more next c.seats.seat (count - length before) before
          (walk next c.len-end.result count) (omega arith) c.seats.invariant.whole);
    }
