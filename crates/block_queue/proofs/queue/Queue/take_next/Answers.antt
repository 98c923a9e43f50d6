-- Each way out of a take ends with an entry that leaves the reader free: End, NotYet, or the block.
use Rattle.std.proofs.Common.{◌≡◌, ◌≢◌, ◌+◌, ap, sym, ◌∙◌}
use Rattle.block_queue.specs.declared.places.TheConstants.{MARK}
use Rattle.block_queue.specs.Places.{stored_word}
use Rattle.block_queue.proofs.SeatLemmas.{free_steps, entered_free, steps_on}
use Rattle.block_queue.proofs.queue.Queue.take_next.Goals as goal

pub returns-then-tail-taken-clause-stepper : goal.returns-then-tail-taken-clause-stepper
returns-then-tail-taken-clause-stepper g c =
    let ready = c.take_ready-ready.ensures.told.passed (λ same. c.if-ready-stored.false
    (same ∙ ap (stored_word c.args.self.now.key.limit) (sym c.requires.taken) ∙
    sym c.stored.ensures)) in
    let told = c.take_tail-tail.ensures.told in
    let entered = told.ended (c.if-tail-taken.true ∙ ap (λ n. n + MARK) (c.requires.taken ∙
    ap (λ me. me.0.taken) (sym ready))) in
    entered_free c.args.self.now c.take_ready-ready.new.seat c.take_tail-tail.new.seat _ _ _
    (steps_on c.args.self.now c.args.stepper.now c.take_ready-ready.new.seat _
    (free_steps _ _ _ c.requires.stepper) c.take_ready-ready.ensures.seat
    (ap (λ me. me.0.account) ready))
    (ap (λ me. me.0.account.number) ready ∙ c.requires.stepper.number_is)
    c.take_tail-tail.ensures.seat entered.enters entered.stage_is (told.slots ∙
    ap (λ me. me.1) ready ∙ c.requires.stepper.no_slot)

pub returns-then-word-stored-clause-stepper : goal.returns-then-word-stored-clause-stepper
returns-then-word-stored-clause-stepper g c =
    let ready = c.take_ready-ready.ensures.told.passed (λ same. c.if-ready-stored.false
    (same ∙ ap (stored_word c.args.self.now.key.limit) (sym c.requires.taken) ∙
    sym c.stored.ensures)) in
    let was : c.take_ready-ready.new.seat.me.0.taken ≡ c.args.taken =
    ap (λ me. me.0.taken) ready ∙ sym c.requires.taken in
    let tail = c.take_tail-tail.ensures.told in
    let looking = tail.looking (λ same. c.if-tail-taken.false
    (same ∙ ap (λ n. n + MARK) was)) in
    let taken = ap (λ view. view.taken) looking ∙ was in
    let told = c.take_sequence-word.ensures.told in
    let other : c.take_sequence-word.result ≢ stored_word c.args.self.now.key.limit
    c.take_tail-tail.new.seat.me.0.taken = λ same. c.if-word-stored.true (same ∙
    ap (stored_word c.args.self.now.key.limit) taken ∙ sym c.stored-2.ensures) in
    let entered = told.not_yet other in
    let first = steps_on c.args.self.now c.args.stepper.now c.take_ready-ready.new.seat _
    (free_steps _ _ _ c.requires.stepper) c.take_ready-ready.ensures.seat
    (ap (λ me. me.0.account) ready) in
    entered_free c.args.self.now c.take_tail-tail.new.seat c.take_sequence-word.new.seat _ _ _
    (steps_on c.args.self.now c.take_ready-ready.new.seat c.take_tail-tail.new.seat _ first
    c.take_tail-tail.ensures.seat (ap (λ view. view.account) looking))
    (ap (λ view. view.account.number) looking ∙ ap (λ me. me.0.account.number) ready ∙
    c.requires.stepper.number_is)
    c.take_sequence-word.ensures.seat entered.enters entered.stage_is (told.same_slots other ∙
    tail.slots ∙ ap (λ me. me.1) ready ∙ c.requires.stepper.no_slot)
