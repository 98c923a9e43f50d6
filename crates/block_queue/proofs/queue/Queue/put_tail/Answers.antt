-- The load of the tail keeps the rule, and tells how many writes were accepted, or the hangup.
use Rattle.std.proofs.Common.{sym, ap, subst, ◌∙◌, arith, true, ◌≡◌, ◌+◌}
use Rattle.atomic_table.specs.Table as table
use Rattle.histories.specs.Account.{has_number}
use Rattle.block_queue.specs.Rule.{IsOneQueue}
use Rattle.block_queue.specs.Steps.{HasPutTail}
use Rattle.block_queue.proofs.PutKeeps.{put_tail_keeps}
use Rattle.block_queue.proofs.queue.Queue.put_tail.Goals as goal

pub load-requires : goal.load-requires
load-requires g c =
    let words = c.args.self.now.words in
    let own = subst (λ asked. has_number c.args.seat.now.me.0.account.shares (asked.write.writer +
    1) ≡ true) (sym c.requires.asked) c.requires.seat.own in (
      c.requires.seat.table,
      omega arith,
      subst (λ k. table.Allows (IsOneQueue k) c.args.self.now.table.shared.table_id.slots
          c.args.seat.now.id c.args.seat.now.me 0 (λ n. n)
          (HasPutTail g.M.Asks.asked c.args.seat.now.me))
          (ap (λ asked. asked.key) c.requires.asked ∙ c.args.self.now.keyed)
          (put_tail_keeps g.M.Asks.asked _ _ _ own c.requires.stage),
    )
