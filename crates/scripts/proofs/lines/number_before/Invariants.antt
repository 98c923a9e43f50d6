-- What was passed is digits, and the number so far is what they spell.
use Rattle.std.proofs.Common.{◌≡◌, ◌-◌, ◌^◌, ◌<◌, ◌≤◌, length, take, true}
use Rattle.std.specs.List.{list_all}
use Rattle.std.specs.Char.{is_ascii_digit}
use Rattle.scripts.specs.Lines.{decimal_value}
use Rattle.scripts.proofs.lines.number_before.Given as goal

-- what was passed are digits, and the number so far is what they spell
abbrev pub invariant-short : goal.invariant-short
invariant-short l = record {
  enough : 20 ≤ length l.text;
  within : l.count ≤ 19;
  digits : list_all is_ascii_digit (take l.count l.text) ≡ true;
  value : l.n ≡ decimal_value (take l.count l.text);
  below : l.n < 10 ^ l.count;
}

abbrev pub decreases-short : goal.decreases-short
decreases-short l = 19 - l.count
