-- What was read stands after what was read before it.
use Rattle.std.proofs.Common.{◌≡◌, ◌++◌, List, ℕ, ap, length, take, ◌∙◌, arith}
use Rattle.scripts.proofs.DeviceLemmas.{consumes_kept, consumes_then, fits_more, front_of_room}
use Rattle.scripts.proofs.device.read_script.Goals as goal

pub loop-preserved-in_default : goal.loop-preserved-in_default
loop-preserved-in_default g c =
    record {
      taken = consumes_kept _ _ _ _ c.loop.invariant.taken
          (rw c.in_default.is at c.in_ok-count.ensures.none);
      within = c.loop.invariant.within;
      room = c.loop.invariant.room;
    }

pub loop-preserved : goal.loop-preserved
loop-preserved g c =
    let some = rw c.in-Some.is at c.in_ok-count.ensures.some in
    let read = take c.in-Some.count c.read_some.new.room in
    let front : take c.in-Some.count c.deref.result.now ≡ read =
    rw c.deref.ensures.value
    (front_of_room c.in-Some.count c.loop.room.len c.read_some.new.room _ _
    (omega (arith, some.within))
    (omega (arith, some.within))) in
    let items : c.append.new.bytes.items ≡ c.loop.input.items ++ read =
    c.in_ok-append.ensures ∙ ap (λ (b : List ℕ). c.loop.input.items ++ b) front in
    record {
      taken = rw items (consumes_then _ _ _ _ _ c.loop.invariant.taken some.taken);
      within = omega (
        arith,
        ap length items,
        fits_more c.loop.input.items c.read_some.new.room c.in-Some.count 16777217
            (omega arith) (omega (arith, some.within)),
      );
      room = c.loop.invariant.room;
    }

pub returns-in_err-append-clause-at_most : goal.returns-in_err-append-clause-at_most
returns-in_err-append-clause-at_most g c =
    let some = rw c.in-Some.is at c.in_ok-count.ensures.some in (
      c.loop.input.items ++ take c.in-Some.count c.read_some.new.room,
      consumes_then _ _ _ _ _ c.loop.invariant.taken some.taken,
      fits_more c.loop.input.items c.read_some.new.room c.in-Some.count 16777217
          (omega arith) (omega (arith, some.within)),
    )
