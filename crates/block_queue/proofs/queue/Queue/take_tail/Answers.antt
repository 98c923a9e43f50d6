-- The load of the tail keeps the rule, and tells the end, or that a write may be there.
use Rattle.std.proofs.Common.{ap, subst, ◌∙◌, arith}
use Rattle.atomic_table.specs.Table as table
use Rattle.block_queue.specs.Rule.{IsOneQueue}
use Rattle.block_queue.specs.Steps.{HasTakeTail}
use Rattle.block_queue.proofs.TakeKeeps.{take_tail_keeps}
use Rattle.block_queue.proofs.queue.Queue.take_tail.Goals as goal

pub load-requires : goal.load-requires
load-requires g c =
    let words = c.args.self.now.words in (
      c.requires.seat.table,
      omega arith,
      subst (λ k. table.Allows (IsOneQueue k) c.args.self.now.table.shared.table_id.slots
          c.args.seat.now.id c.args.seat.now.me 0 (λ n. n)
          (HasTakeTail g.M.Asks.asked.key c.args.seat.now.me))
          (ap (λ asked. asked.key) c.requires.asked ∙ c.args.self.now.keyed)
          (take_tail_keeps g.M.Asks.asked.key _ _ _ c.requires.seat.own c.requires.stage),
    )

pub returns-clause-told : goal.returns-clause-told
returns-clause-told g c =
    subst (λ k. HasTakeTail k c.args.seat.now.me c.load.result c.load.new.seat.me)
    (ap (λ asked. asked.key) c.requires.asked) c.load.ensures.2
