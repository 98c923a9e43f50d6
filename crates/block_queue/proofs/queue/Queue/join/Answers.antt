-- Both seats are free, so one may give the other its numbers and the rule stays.
use Rattle.std.proofs.Common.{arith}
use Rattle.block_queue.proofs.GatherKeeps.{join_keeps}
use Rattle.block_queue.proofs.queue.Queue.join.Goals as goal

pub join_seat-requires : goal.join_seat-requires
join_seat-requires c =
    let words = c.args.self.now.words in (
      c.requires.stepper.table,
      c.requires.table,
      c.requires.no_slot,
      omega arith,
      join_keeps c.args.self.now.table.shared.key _ _ _ _ c.requires.stepper.own
          c.requires.stepper.stage c.requires.stage,
    )
