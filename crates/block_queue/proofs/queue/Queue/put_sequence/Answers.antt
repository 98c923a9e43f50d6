-- The load of the place's sequence word keeps the rule, and tells whether the place is free.
use Rattle.std.proofs.Common.{sym, ap, subst, ◌∙◌, arith, true, ◌≡◌, ◌+◌}
use Rattle.atomic_table.specs.Table as table
use Rattle.histories.specs.Account.{has_number}
use Rattle.block_queue.specs.declared.view.Stage.TheVariants.{Counted}
use Rattle.block_queue.specs.Places.{place_of, sequence_of}
use Rattle.block_queue.specs.Rule.{IsOneQueue}
use Rattle.block_queue.specs.Steps.{HasPutSequence}
use Rattle.block_queue.proofs.PutKeeps.{put_sequence_keeps}
use Rattle.block_queue.proofs.queue.Queue.put_sequence.Goals as goal

pub load-requires : goal.load-requires
load-requires g c =
    let words = c.args.self.now.words in
    let within = c.place.ensures.within in
    let own = subst (λ asked. has_number c.args.seat.now.me.0.account.shares (asked.write.writer +
    1) ≡ true) (sym c.requires.asked) c.requires.seat.own in
    let stage = c.requires.stage ∙ ap (λ asked. Counted asked.count) (sym c.requires.asked) in
    let word = ap (λ asked. sequence_of (place_of asked.key.limit asked.count)) c.requires.asked ∙
    sym (c.sequence-word.ensures ∙ ap sequence_of c.place.ensures.result) in (
      c.requires.seat.table,
      omega (arith, c.sequence-word.ensures),
      subst (λ i. table.Allows (IsOneQueue c.args.self.now.table.shared.key)
          c.args.self.now.table.shared.table_id.slots c.args.seat.now.id c.args.seat.now.me i
          (λ n. n) (HasPutSequence g.M.Asks.asked c.args.seat.now.me)) word
          (subst (λ k. table.Allows (IsOneQueue k) c.args.self.now.table.shared.table_id.slots
          c.args.seat.now.id c.args.seat.now.me (sequence_of
          (place_of g.M.Asks.asked.key.limit g.M.Asks.asked.count)) (λ n. n)
          (HasPutSequence g.M.Asks.asked c.args.seat.now.me))
          (ap (λ asked. asked.key) c.requires.asked ∙ c.args.self.now.keyed)
          (put_sequence_keeps g.M.Asks.asked _ _ _ own stage)),
    )
