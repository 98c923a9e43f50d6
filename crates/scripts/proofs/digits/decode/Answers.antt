-- Where no digit is none, each two of them make the byte that goes after those before.
use Rattle.std.proofs.Common.{◌≡◌, ◌+◌, ◌*◌, ◌∙◌, true, false, nat_lt}
use Rattle.std.proofs.Common.{get_or, length, refl, ap, arith, inl, inr}
use Rattle.std.proofs.lemmas.Bool.{cases_lt}
use Rattle.std.proofs.lemmas.Bool.Decides.{nat_tests}
use Rattle.std.specs.Result.{result_ok}
use Rattle.hex.proofs.Pairs.{decode_step, decode_done}
use Rattle.scripts.proofs.DigitLemmas.{pair_is, no_pair, below_both, above_either, decodes_by_pairs}
use Rattle.scripts.proofs.digits.decode.Goals as goal

pub loop-i-preserved : goal.loop-i-preserved
loop-i-preserved c =
    let digits = c.args.digits.now in
    let i = c.loop-i.i in
    let sum = 16 * c.value_of.result + c.value_of-in-loop-i.result in
    record {
      good = λ small.
          let both = below_both c.loop-i.seen sum _ refl small in
          let pair = pair_is (get_or digits (2 * i) 0) (get_or digits (2 * i + 1) 0) (2 * i)
          (rw (c.value_of.ensures, c.value_of-in-loop-i.ensures) at both.1) in
          decode_step _ _ i _ (omega arith) (omega arith)
          (rw (c.value_of.ensures, c.value_of-in-loop-i.ensures) pair)
          (c.loop-i.invariant.good both.0);
      bad = λ large.
          elim (cases_lt c.loop-i.seen 256) [
            | inl small ↦ no_pair digits c.loop-i.room i (omega arith)
                (rw (c.value_of.ensures, c.value_of-in-loop-i.ensures) at
                (above_either c.loop-i.seen sum large small))
                (c.loop-i.invariant.good small)
            | inr seen ↦ c.loop-i.invariant.bad seen
          ];
    }

pub returns : goal.returns
returns c =
    let digits = c.args.digits.now in
    let even = decodes_by_pairs digits (length c.loop-i.room) (omega arith) in
    elim (cases_lt c.loop-i.seen 256) [
      | inl small ↦
          let is : nat_lt c.loop-i.seen 256 ≡ true = grind (arith, nat_tests) in
          rw is (ap result_ok (even
          ∙ decode_done _ c.loop-i.room c.loop-i.i (omega arith) (omega arith)
          (c.loop-i.invariant.good small)))
      | inr large ↦
          let is : nat_lt c.loop-i.seen 256 ≡ false = grind (arith, nat_tests) in
          rw is (ap result_ok even ∙ c.loop-i.invariant.bad large)
    ]
