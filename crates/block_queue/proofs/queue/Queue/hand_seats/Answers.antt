-- While writers are left the reader's seat has a number to hand on, and each new seat gets its own.
use Rattle.std.proofs.Common.{[], arith, sym, ap, subst, ◌∙◌, ◌+◌}
use Rattle.block_queue.specs.Opening.{AreNewPutSeats}
use Rattle.block_queue.specs.Steps.{keeper_view, handed_view}
use Rattle.block_queue.proofs.OpeningLemmas.{next_to_hand, handed_on, new_put_seat, one_more_seat}
use Rattle.block_queue.proofs.queue.Queue.hand_seats.Goals as goal

pub hand-seat-requires-clause-next : goal.hand-seat-requires-clause-next
hand-seat-requires-clause-next c =
    next_to_hand _ _ _ (ap (λ me. me.0) c.loop-writer.invariant.view) c.loop-writer-test.true

pub loop-writer-preserved : goal.loop-writer-preserved
loop-writer-preserved c =
    let more = c.loop-writer-test.true in
    let view = c.loop-writer.invariant.view in
    let room = c.loop-writer.invariant.room in
    let capacity = c.push_reserved.ensures.capacity in
    let known = ap (λ me. me.0) c.hand-seat.ensures.handed ∙ ap (λ me. handed_view me.0) view in
    record {
      table = c.hand-seat.ensures.stepper.table ∙ c.loop-writer.invariant.table;
      view = c.hand-seat.ensures.keeper ∙ ap (λ me. (keeper_view me.0, me.1)) view ∙
          ap (λ v. (v, [])) (handed_on c.args.self.now.key.writers c.loop-writer.writer more);
      puts = subst (AreNewPutSeats c.args.self.now (c.loop-writer.writer + 1))
          (sym c.push_reserved.ensures.items)
          (one_more_seat c.args.self.now c.loop-writer.writer _
          (record { badge = c.into_badge.result; writer = c.loop-writer.writer; spare = tt })
          c.loop-writer.invariant.puts
          (new_put_seat c.args.self.now (record {
            badge = c.into_badge.result;
            writer =
                c.loop-writer.writer;
            spare = tt;
          }) c.hand-seat.result.me.0
          (c.into_badge.ensures.0 ∙ c.hand-seat.ensures.table ∙
          c.loop-writer.invariant.table) c.into_badge.ensures.2 more known));
      room = omega arith;
    }
