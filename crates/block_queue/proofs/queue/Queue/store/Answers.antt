-- The writer brings the slot back with its block, so the word may say that the write stands.
use Rattle.std.proofs.Common.{sym, ap, subst, ◌∙◌, arith, true, ◌≡◌, ◌+◌, [], ◌∷◌, Some}
use Rattle.atomic_table.specs.Table as table
use Rattle.histories.specs.Account.{has_number}
use Rattle.block_queue.specs.declared.view.Stage.TheVariants.{Storing}
use Rattle.block_queue.specs.Places.{place_of, sequence_of, stored_word}
use Rattle.block_queue.specs.Rule.{IsOneQueue}
use Rattle.block_queue.specs.Steps.{HasStored}
use Rattle.block_queue.proofs.PutKeeps.{store_keeps}
use Rattle.block_queue.proofs.queue.Queue.store.Goals as goal

pub store-requires : goal.store-requires
store-requires g c =
    let words = c.args.self.now.words in
    let within = c.place.ensures.within in
    let own = subst (λ asked. has_number c.args.seat.now.me.0.account.shares (asked.write.writer +
    1) ≡ true) (sym c.requires.asked) c.requires.seat.own in
    let stage = c.requires.stage ∙ ap (λ asked. Storing asked.count asked.write.writer
    asked.write.bytes) (sym c.requires.asked) in
    let slot = c.requires.slot ∙ ap (λ asked. (
      place_of asked.key.limit asked.count,
      Some
          asked.write,
    ) ∷ []) (sym c.requires.asked) in
    let word = ap (λ asked. sequence_of (place_of asked.key.limit asked.count)) c.requires.asked ∙
    sym (c.sequence-word.ensures ∙ ap sequence_of c.place.ensures.result) in
    let full = ap (λ asked. stored_word asked.key.limit asked.count) c.requires.asked ∙
    sym c.stored-full.ensures in (
      c.requires.seat.table,
      omega (arith, c.sequence-word.ensures),
      subst (λ n. table.Allows (IsOneQueue c.args.self.now.table.shared.key)
          c.args.self.now.table.shared.table_id.slots c.args.seat.now.id c.args.seat.now.me
          c.sequence-word.result (λ _. n) (λ _. HasStored g.M.Asks.asked c.args.seat.now.me)) full
          (subst (λ i. table.Allows (IsOneQueue c.args.self.now.table.shared.key)
          c.args.self.now.table.shared.table_id.slots c.args.seat.now.id c.args.seat.now.me i
          (λ _. stored_word g.M.Asks.asked.key.limit g.M.Asks.asked.count)
          (λ _. HasStored g.M.Asks.asked c.args.seat.now.me)) word
          (subst (λ k. table.Allows (IsOneQueue k) c.args.self.now.table.shared.table_id.slots
          c.args.seat.now.id c.args.seat.now.me (sequence_of
          (place_of g.M.Asks.asked.key.limit g.M.Asks.asked.count))
          (λ _. stored_word g.M.Asks.asked.key.limit g.M.Asks.asked.count)
          (λ _. HasStored g.M.Asks.asked c.args.seat.now.me))
          (ap (λ asked. asked.key) c.requires.asked ∙ c.args.self.now.keyed)
          (store_keeps g.M.Asks.asked _ _ _ own stage slot))),
    )
