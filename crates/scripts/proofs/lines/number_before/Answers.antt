-- Fewer than 20 digits spell a number below 2^64, so one digit more does not overflow.
use Rattle.std.proofs.Common.{◌<◌, ◌*◌, ◌+◌, ◌^◌, arith}
use Rattle.scripts.proofs.NumberLemmas.{large_begins_none, no_digit, one_digit, one_more_fits}
use Rattle.scripts.proofs.lines.number_before.Goals as goal

pub overflow_mul-n : goal.overflow_mul-n
overflow_mul-n c =
    let few : c.short.count < 19 = omega arith in
    let fits : 10 * c.short.n + 9 < 2 ^ 64 =
    one_more_fits c.short.n c.short.count c.short.invariant.below few in
    omega (arith, fits)

pub overflow_add-n : goal.overflow_add-n
overflow_add-n c =
    let few : c.short.count < 19 = omega arith in
    let fits : 10 * c.short.n + 9 < 2 ^ 64 =
    one_more_fits c.short.n c.short.count c.short.invariant.below few in
    omega (arith, fits, c.in-Some.ensures.small)

pub returns-in_err-n : goal.returns-in_err-n
returns-in_err-n c =
    rw c.from_residual-in_err-n.ensures (large_begins_none _ _ c.requires c.in_err-n.ensures)

pub returns-in_err-digit : goal.returns-in_err-digit
returns-in_err-digit c =
    rw c.from_residual.ensures (no_digit _ _ c.requires c.in_err-digit.ensures.digit)

pub returns-then-byte-end : goal.returns-then-byte-end
returns-then-byte-end c =
    one_digit _ _ _ _ (omega arith) c.in_ok-digit.ensures.digit c.in_ok-digit.ensures.value
    (rw c.if-byte-end.true at c.byte_after-byte.ensures)
