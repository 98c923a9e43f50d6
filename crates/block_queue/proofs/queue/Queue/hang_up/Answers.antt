-- The mark set on the tail keeps the rule, and enters a hangup by the seat that set it.
use Rattle.std.proofs.Common.{ap, subst, ◌∙◌, arith, ◌≡◌, true}
use Rattle.std.specs.Prelude.{bit_or}
use Rattle.atomic_table.specs.Table as table
use Rattle.histories.specs.Account.{has_number}
use Rattle.block_queue.specs.declared.places.TheConstants.{MARK}
use Rattle.block_queue.specs.Rule.{IsOneQueue}
use Rattle.block_queue.specs.Steps.{HasHung}
use Rattle.block_queue.proofs.TakeKeeps.{hang_keeps}
use Rattle.block_queue.proofs.queue.Queue.hang_up.Goals as goal

pub fetch_or-requires : goal.fetch_or-requires
fetch_or-requires g c =
    let words = c.args.self.now.words in
    let own = subst (λ n. has_number c.args.seat.now.me.0.account.shares n ≡
    true) c.requires.number c.requires.seat.own in (
      c.requires.seat.table,
      omega arith,
      subst (λ k. table.Allows (IsOneQueue k) c.args.self.now.table.shared.table_id.slots
          c.args.seat.now.id c.args.seat.now.me 0 (λ n. bit_or n MARK)
          (λ _. HasHung g.M.Asks.asked.key c.args.seat.now.me))
          (ap (λ asked. asked.key) c.requires.asked ∙ c.args.self.now.keyed)
          (hang_keeps g.M.Asks.asked.key _ _ _ own c.requires.stage),
    )

pub returns-clause-told : goal.returns-clause-told
returns-clause-told g c =
    subst (λ asked. HasHung asked.key c.args.seat.now.me c.fetch_or.new.seat.me) c.requires.asked
    c.fetch_or.ensures.2
