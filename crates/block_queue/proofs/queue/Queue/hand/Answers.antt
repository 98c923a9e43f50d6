-- The seat has a number after its own to hand on, so it splits in two and the rule stays.
use Rattle.std.proofs.Common.{arith}
use Rattle.block_queue.proofs.HandKeeps.{hand_keeps}
use Rattle.block_queue.proofs.queue.Queue.hand.Goals as goal

pub split_seat-requires : goal.split_seat-requires
split_seat-requires c =
    let words = c.args.self.now.words in
    let next = c.requires.next in
    let seat = c.args.stepper.now in (
      c.requires.table,
      omega arith,
      hand_keeps c.args.self.now.table.shared.key c.args.stepper.now.id c.args.stepper.now.me.0
          next.own next.next next.others next.shares_are next.own_is next.next_is next.stage_is,
    )
