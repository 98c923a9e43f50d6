-- The values of hexadecimal digits as a table has them.
use Rattle.std.specs.Prelude.{ℕ, unwrap_or}
use Rattle.hex.specs.Hex.{hex_digit_value}
use Rattle.scripts.specs.declared.digits.TheConstants.{NONE}

-- the value of a digit of either case, and of a byte that is no digit
abbrev pub value_or_none : ℕ → ℕ
value_or_none digit = unwrap_or (hex_digit_value digit) NONE
