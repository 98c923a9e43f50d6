-- The seat was found, and taken out there.
use Rattle.std.proofs.Common.{◌≡◌, ◌<◌, ℕ, true, eqb, length, refl, ap, List, slice_index_or, sym}
use Rattle.std.proofs.Common.{◌∙◌, arith}
use Rattle.std.proofs.lemmas.Bool.Decides.{nat_tests}
use Rattle.messages.specs.Lines.{without}
use Rattle.messages.proofs.LineLemmas.{found_there, where_some}
use Rattle.messages.proofs.line.take_away.Goals as goal

pub returns-then-other-seat-clause-items : goal.returns-then-other-seat-clause-items
returns-then-other-seat-clause-items c =
    let items = c.seats.seats.items in
    let whole : items ≡ c.args.seats.now.items = rw c.seats.invariant.same refl in
    let here = c.in-Some.other.now in
    let same : slice_index_or items c.seats.place here ≡ c.args.seat =
    sym c.in-Some.ensures.lookup ∙ c.if-other-seat.true in
    let is : eqb (slice_index_or items c.seats.place here) c.args.seat ≡ true =
    grind (arith, nat_tests, same) in
    let long = c.seats.seats.ok.0 in
    let below = c.in-Some.ensures.variant.0 in
    let within : c.seats.place < length items = omega (arith, long, below refl) in
    let removed = where_some c.remove-seat.result (c.remove-seat.ensures.variant.1 (below refl))
    c.remove-seat.ensures.items in
    removed ∙ found_there items c.seats.place c.args.seat here within is
    c.seats.invariant.passed
    ∙ ap (λ (l : List ℕ). without c.args.seat l) whole
