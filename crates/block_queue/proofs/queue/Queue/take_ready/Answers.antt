-- The load of the next place's word keeps the rule, and takes the slot where the write stands.
use Rattle.std.proofs.Common.{sym, ap, subst, ◌∙◌, arith}
use Rattle.atomic_table.specs.Table as table
use Rattle.block_queue.specs.Places.{place_of, sequence_of}
use Rattle.block_queue.specs.Rule.{IsOneQueue}
use Rattle.block_queue.specs.Steps.{HasTakeReady}
use Rattle.block_queue.proofs.TakeKeeps.{take_ready_keeps}
use Rattle.block_queue.proofs.queue.Queue.take_ready.Goals as goal

pub load-requires : goal.load-requires
load-requires g c =
    let words = c.args.self.now.words in
    let within = c.place.ensures.within in
    let asked = ap (λ asked. asked.key) c.requires.asked in
    let word = ap (λ key. sequence_of (place_of key.limit c.args.seat.now.me.0.taken)) asked
    ∙ ap (λ n. sequence_of (place_of c.args.self.now.key.limit n)) (sym c.requires.taken)
    ∙ sym (c.sequence-word.ensures ∙ ap sequence_of c.place.ensures.result) in (
      c.requires.seat.table,
      omega (arith, c.sequence-word.ensures),
      subst (λ i. table.Allows (IsOneQueue c.args.self.now.table.shared.key)
          c.args.self.now.table.shared.table_id.slots c.args.seat.now.id c.args.seat.now.me i
          (λ n. n) (HasTakeReady g.M.Asks.asked.key c.args.seat.now.me)) word
          (subst (λ k. table.Allows (IsOneQueue k) c.args.self.now.table.shared.table_id.slots
          c.args.seat.now.id c.args.seat.now.me (sequence_of
          (place_of g.M.Asks.asked.key.limit c.args.seat.now.me.0.taken)) (λ n. n)
          (HasTakeReady g.M.Asks.asked.key c.args.seat.now.me))
          (asked ∙ c.args.self.now.keyed)
          (take_ready_keeps g.M.Asks.asked.key _ _ _ c.requires.seat.own c.requires.stage)),
    )

pub returns-clause-told : goal.returns-clause-told
returns-clause-told g c =
    subst (λ k. HasTakeReady k c.args.seat.now.me c.load.result c.load.new.seat.me)
    (ap (λ asked. asked.key) c.requires.asked) c.load.ensures.2
