-- The exchange of the tail keeps the rule: where the count was still so, the write is accepted.
use Rattle.std.proofs.Common.{sym, ap, subst, ◌∙◌, arith, true, ◌≡◌, ◌+◌, eqb}
use prog.Atomic.{either}
use Rattle.atomic_table.specs.Table as table
use Rattle.histories.specs.Account.{has_number}
use Rattle.block_queue.specs.declared.view.Stage.TheVariants.{Placed}
use Rattle.block_queue.specs.Rule.{IsOneQueue}
use Rattle.block_queue.specs.Steps.{HasAccepted}
use Rattle.block_queue.proofs.PutKeeps.{accept_keeps}
use Rattle.block_queue.proofs.queue.Queue.accept.Goals as goal

pub compare_exchange-requires : goal.compare_exchange-requires
compare_exchange-requires g c =
    let words = c.args.self.now.words in
    let own = subst (λ asked. has_number c.args.seat.now.me.0.account.shares (asked.write.writer +
    1) ≡ true) (sym c.requires.asked) c.requires.seat.own in
    let stage = c.requires.stage ∙ ap (λ asked. Placed asked.count) (sym c.requires.asked) in (
      c.requires.seat.table,
      omega arith,
      subst (λ count. table.Allows (IsOneQueue c.args.self.now.table.shared.key)
          c.args.self.now.table.shared.table_id.slots c.args.seat.now.id c.args.seat.now.me 0
          (λ n. either (eqb n count) (count + 1) n) (HasAccepted g.M.Asks.asked c.args.seat.now.me))
          (ap (λ asked. asked.count) c.requires.asked)
          (subst (λ k. table.Allows (IsOneQueue k) c.args.self.now.table.shared.table_id.slots
          c.args.seat.now.id c.args.seat.now.me 0 (λ n. either (eqb n g.M.Asks.asked.count)
          (g.M.Asks.asked.count + 1) n) (HasAccepted g.M.Asks.asked c.args.seat.now.me))
          (ap (λ asked. asked.key) c.requires.asked ∙ c.args.self.now.keyed)
          (accept_keeps g.M.Asks.asked _ _ _ own stage)),
    )
