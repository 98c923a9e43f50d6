-- While fewer were taken than were left a block is there, so no take is told NotYet or End.
use Rattle.std.proofs.Common.{◌<◌, ◌-◌, length, sym, subst, arith}
use Rattle.block_queue.specs.Gather.{IsEmptying}
use Rattle.block_queue.proofs.EmptyingLemmas.{one_emptied, not_ended, not_waiting}
use Rattle.block_queue.proofs.queue.Queue.empty.Goals as goal

pub emptying-preserved : goal.emptying-preserved
emptying-preserved c =
    let more : length c.emptying.blocks.items < c.args.left =
    omega (arith, c.emptying-test.true, c.len.ensures) in
    let capacity = c.push_reserved.ensures.capacity in
    let room = c.emptying.invariant.room in
    let was = c.emptying.invariant.emptying in
    record {
      stepper = c.take_next.ensures.stepper;
      taken = sym c.in-Block.ensures.counted;
      room = omega arith;
      emptying = subst (IsEmptying c.args.self.now.key c.args.left c.args.stepper.now.me.0.account
          c.take_next.new.stepper.me.0.account) (sym c.push_reserved.ensures.items)
          (one_emptied c.args.self.now.key c.args.left c.args.stepper.now.me.0.account
          c.emptying.stepper.me.0.account c.take_next.new.stepper.me.0.account
          c.emptying.blocks.items (record {
            writer = c.in-Block.writer;
            bytes = c.in-Block.block;
          }) _ c.args.self.now.first more was c.in-Block.ensures.answer);
    }

pub unreachable-requires : goal.unreachable-requires
unreachable-requires c =
    let more : length c.emptying.blocks.items < c.args.left =
    omega (arith, c.emptying-test.true, c.len.ensures) in
    not_waiting c.args.self.now.key c.emptying.stepper.me.0.account
    (c.args.left - length c.emptying.blocks.items) c.emptying.invariant.emptying.is_left
    (omega arith) c.in-NotYet.field-0 c.take_next.new.stepper.me.0.account
    c.in-NotYet.ensures.answer

pub unreachable-requires-in-End : goal.unreachable-requires-in-End
unreachable-requires-in-End c =
    let more : length c.emptying.blocks.items < c.args.left =
    omega (arith, c.emptying-test.true, c.len.ensures) in
    not_ended c.args.self.now.key c.emptying.stepper.me.0.account
    (c.args.left - length c.emptying.blocks.items) c.emptying.invariant.emptying.is_left
    (omega arith) c.take_next.new.stepper.me.0.account c.in-End.ensures.answer
