-- Where no digit was none, the bytes so far are those of the digits so far; where one was, the
-- digits are no bytes.
use Rattle.std.proofs.Common.{◌≡◌, ◌<◌, ◌≤◌, ◌*◌, take, drop, None}
use Rattle.std.specs.Result.{result_ok}
use Rattle.hex.specs.Hex.{decode_pairs}
use Rattle.hex.proofs.Pairs.{prepend}
use Rattle.scripts.proofs.digits.decode.Given as goal

-- where no digit was none, the digits so far are the bytes so far, and else there are no bytes
abbrev pub invariant-loop-i : goal.invariant-loop-i
invariant-loop-i l = record {
  good : l.seen < 256 → decode_pairs 0 l.digits
      ≡ prepend (take l.i l.room) (decode_pairs (2 * l.i) (drop (2 * l.i) l.digits));
  bad : 256 ≤ l.seen → result_ok (decode_pairs 0 l.digits) ≡ None;
}
