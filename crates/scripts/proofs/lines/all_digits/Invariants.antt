-- What was passed is digits, and the number so far is what they spell.
use Rattle.std.proofs.Common.{◌≡◌, ◌-◌, ◌^◌, ◌<◌, ◌≤◌, length, take, true}
use Rattle.std.specs.List.{list_all}
use Rattle.std.specs.Char.{is_ascii_digit}
use Rattle.scripts.specs.Lines.{decimal_value}
use Rattle.scripts.proofs.lines.all_digits.Given as goal

-- what was passed are digits, and the number so far is what they spell
abbrev pub invariant-long : goal.invariant-long
invariant-long l = record {
  within : l.count ≤ length l.text;
  digits : list_all is_ascii_digit (take l.count l.text) ≡ true;
  value : l.n ≡ decimal_value (take l.count l.text);
  small : l.n < 2 ^ 64;
}

abbrev pub decreases-long : goal.decreases-long
decreases-long l = length l.text - l.count
