-- A number that overflows at some digit is 2^64 at least, whatever digits follow.
use Rattle.std.proofs.Common.{◌≤◌, ◌*◌, ◌+◌, ◌-◌, ◌^◌, get_or, sym, arith}
use Rattle.scripts.proofs.NumberLemmas.{one_more_is_large}
use Rattle.scripts.proofs.lines.all_digits.Goals as goal

pub returns-in_err-checked_mul : goal.returns-in_err-checked_mul
returns-in_err-checked_mul c =
    let large : 2 ^ 64 ≤ 10 * c.long.n + (get_or c.args.text.now c.long.count 0 - 48) =
    omega (arith, c.in_err-checked_mul.ensures) in
    rw c.from_residual.ensures
    (one_more_is_large c.args.text.now c.long.n c.long.count c.long-test.true
    c.long.invariant.digits c.long.invariant.value (sym c.if-is_ascii_digit.ensures.value) large)

pub returns-in_err-n : goal.returns-in_err-n
returns-in_err-n c =
    let large : 2 ^ 64 ≤ 10 * c.long.n + (get_or c.args.text.now c.long.count 0 - 48) =
    omega (arith, c.in_err-n.ensures, c.from.ensures, c.in_ok-checked_mul.ensures) in
    rw c.from_residual-in_err-n.ensures
    (one_more_is_large c.args.text.now c.long.n c.long.count c.long-test.true
    c.long.invariant.digits c.long.invariant.value (sym c.if-is_ascii_digit.ensures.value) large)
