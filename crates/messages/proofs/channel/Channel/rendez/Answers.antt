-- The place is one of the queue's.
use Rattle.std.proofs.Common.{arith}
use Rattle.messages.proofs.channel.Channel.rendez.Goals as goal

pub overflow_add-result : goal.overflow_add-result
overflow_add-result g c =
    let below = c.requires in
    let row = c.args.self.now.row in
    omega (arith, below, row)
