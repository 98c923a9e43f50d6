-- The place that a search answers is the first one.
use Rattle.std.proofs.Common.{◌≡◌, ℕ, ◌<◌, Bool, true, false, List, length, get_or, position}
use Rattle.std.proofs.Common.{Option, Some, None, refl, sym, arith}
use Rattle.std.specs.List.{position_or_len}
use Rattle.std.proofs.lemmas.List.Sums.{position_or_len_is}
use Rattle.std.proofs.lemmas.Bool.Decides.{nat_tests}
use Rattle.memchr.specs.Find.{IsFirstByte}

-- what does not pass fails
fails : (v : Bool) → ¬ (v ≡ true) → v ≡ false
fails true h = absurd (h refl)
fails false h = refl

none_is : (p : ℕ → Bool) (bs : List ℕ) → position_or_len p bs ≡ length bs → position p bs ≡ None
none_is p bs all = grind (arith, nat_tests)

some_is : (p : ℕ → Bool) (bs : List ℕ) (k : ℕ) → k < length bs → position_or_len p bs ≡ k
    → position p bs ≡ Some k
some_is p bs k within is = grind (arith, nat_tests)

-- a search that tells the first byte of a kind, or that there is none, tells its position
pub first_place : (p : ℕ → Bool) (bs : List ℕ) (r : Option ℕ) → IsFirstByte p bs r
    → r ≡ position p bs
first_place p bs None nowhere =
    sym (none_is p bs (position_or_len_is p bs (length bs) 0 (omega arith)
    (λ k below. fails (p (get_or bs k 0)) (nowhere k (omega arith) below))
    (λ below. absurd (omega arith))))
first_place p bs (Some k) first =
    sym (some_is p bs k first.0.high (position_or_len_is p bs k 0 (omega (arith, first.0.high))
    (λ j below. fails (p (get_or bs j 0)) (first.0.before j (omega arith) below))
    (λ _. first.1)))
