-- The store frees the place for the next lap: the reader brings its slot back, and it is empty.
use Rattle.std.proofs.Common.{sym, ap, subst, ◌∙◌, arith, [], ◌∷◌, None, ◌+◌}
use Rattle.atomic_table.specs.Table as table
use Rattle.block_queue.specs.declared.view.Stage.TheVariants.{Moving}
use Rattle.block_queue.specs.Places.{place_of, sequence_of, stored_word}
use Rattle.block_queue.specs.Rule.{IsOneQueue}
use Rattle.block_queue.specs.Steps.{HasFreed}
use Rattle.block_queue.proofs.TakeKeeps.{free_keeps}
use Rattle.block_queue.proofs.queue.Queue.free_place.Goals as goal

pub store-requires : goal.store-requires
store-requires g c =
    let words = c.args.self.now.words in
    let within = c.place.ensures.within in
    let key = ap (λ asked. asked.key) c.requires.asked in
    let write = ap (λ asked. asked.write) c.requires.asked in
    let word = ap (λ key. sequence_of (place_of key.limit c.args.seat.now.me.0.taken)) key
    ∙ ap (λ n. sequence_of (place_of c.args.self.now.key.limit n)) (sym c.requires.taken)
    ∙ sym (c.sequence-word.ensures ∙ ap sequence_of c.place.ensures.result) in
    let full = ap (λ key. stored_word key.limit c.args.seat.now.me.0.taken + 1) key
    ∙ ap (λ n. stored_word c.args.self.now.key.limit n + 1) (sym c.requires.taken)
    ∙ ap (λ n. n + 1) (sym c.stored-next.ensures) in
    let stage = c.requires.stage ∙ ap (λ w. Moving w.writer w.bytes) (sym write) in
    let slot = c.requires.slot ∙ ap (λ n. (place_of c.args.self.now.key.limit n, None) ∷
    []) c.requires.taken ∙
    ap (λ key. (place_of key.limit c.args.seat.now.me.0.taken, None) ∷ []) (sym key) in (
      c.requires.seat.table,
      omega (arith, c.sequence-word.ensures),
      subst (λ n. table.Allows (IsOneQueue c.args.self.now.table.shared.key)
          c.args.self.now.table.shared.table_id.slots c.args.seat.now.id c.args.seat.now.me
          c.sequence-word.result (λ _. n) (λ _. HasFreed g.M.Asks.asked.key g.M.Asks.asked.write
          c.args.seat.now.me)) full
          (subst (λ i. table.Allows (IsOneQueue c.args.self.now.table.shared.key)
          c.args.self.now.table.shared.table_id.slots c.args.seat.now.id c.args.seat.now.me i
          (λ _. stored_word g.M.Asks.asked.key.limit c.args.seat.now.me.0.taken +
          1) (λ _. HasFreed g.M.Asks.asked.key g.M.Asks.asked.write c.args.seat.now.me)) word
          (subst (λ k. table.Allows (IsOneQueue k) c.args.self.now.table.shared.table_id.slots
          c.args.seat.now.id c.args.seat.now.me (sequence_of
          (place_of g.M.Asks.asked.key.limit c.args.seat.now.me.0.taken))
          (λ _. stored_word g.M.Asks.asked.key.limit c.args.seat.now.me.0.taken +
          1) (λ _. HasFreed g.M.Asks.asked.key g.M.Asks.asked.write c.args.seat.now.me))
          (key ∙ c.args.self.now.keyed)
          (free_keeps g.M.Asks.asked.key _ _ _ c.requires.seat.own g.M.Asks.asked.write stage
          slot))),
    )

pub returns-clause-told : goal.returns-clause-told
returns-clause-told g c =
    subst (λ asked. HasFreed asked.key asked.write c.args.seat.now.me c.store.new.seat.me)
    c.requires.asked c.store.ensures.2
