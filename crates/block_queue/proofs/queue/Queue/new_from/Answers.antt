-- Words of zero and empty slots keep the rule, and the seats that were handed are all seats.
use Rattle.std.proofs.Common.{◌<◌, arith, sym, subst, ap, ◌∙◌, None}
use Rattle.std.specs.Prelude.{replicate}
use Rattle.atomic_table.specs.Table.{opening}
use Rattle.block_queue.specs.Rule.{IsOneQueue, first_view}
use Rattle.block_queue.specs.Seats.{head_view}
use Rattle.block_queue.specs.declared.view.Key.{Key}
use Rattle.block_queue.proofs.AllSeatsLemmas.{new_are_all}
use Rattle.block_queue.proofs.OpeningKeeps.{opening_keeps}
use Rattle.block_queue.proofs.queue.Queue.new_from.Goals as goal

pub new-requires : goal.new-requires
new-requires c =
    let some_room : 0 < c.args.limit = omega arith in
    let key : Key =
    record { limit = c.args.limit; first = c.args.first; writers = c.args.writers } in
    subst (λ slots. IsOneQueue key (opening c.as_slice.result.now slots (first_view key)))
    (sym c.in_ok-slots.ensures)
    (subst (λ words. IsOneQueue key (opening words (replicate c.args.limit None) (first_view key)))
    (sym (c.as_slice.ensures.value ∙ c.in_ok-words.ensures
    ∙ ap (λ count. replicate count 0) c.ring_words.ensures))
    (opening_keeps key some_room c.if-first-gt-LAST_WRITE.false))

pub returns-clause-all : goal.returns-clause-all
returns-clause-all c =
    new_are_all _ c.args.writers _ _
    (ap (λ views. (head_view views).account.gave) c.into_badge.ensures.2
    ∙ ap (λ me. me.0.account.gave) c.hand_seats.ensures.view)
    c.hand_seats.ensures.puts
