-- The reader has the slot of the place, and it is full, so the block may be moved out of it.
use Rattle.std.proofs.Common.{ap, sym, ◌∙◌, [], ◌∷◌, Some}
use Rattle.atomic_table.specs.Table.{rest}
use Rattle.block_queue.proofs.queue.Queue.move_out.Goals as goal

pub exchange-requires : goal.exchange-requires
exchange-requires c =
    let full = c.requires.full in
    let here = full.1 ∙ ap (λ k. (k, Some full.0) ∷ []) (sym c.place-slot.ensures.result) in (
      c.requires.seat,
      (
        Some full.0,
        here ∙
            ap (λ carried. (c.place-slot.result, Some full.0) ∷ rest carried) (sym here),
      ),
    )
