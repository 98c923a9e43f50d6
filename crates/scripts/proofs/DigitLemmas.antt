-- The table of digits is the definition, and two values make the byte of two digits.
use Rattle.std.proofs.Common.{◌≡◌, ℕ, zero, suc, ◌+◌, ◌*◌, ◌%◌, ◌<◌, ◌≤◌, ◌⊎◌, ◌&&◌, Bool, true}
use Rattle.std.proofs.Common.{nat_eq, List, length, take, drop, slice_index, Option, Some, None}
use Rattle.std.proofs.Common.{unwrap_or, Ok, Err, refl, ap, arith, inl, inr}
use Rattle.std.specs.Prelude.{bit_or}
use Rattle.std.specs.Result.{result_ok}
use Rattle.std.proofs.lemmas.Nat.{le_or_l, le_or_r, or_of_8}
use Rattle.std.proofs.lemmas.Bool.{cases_eq, cases_lt}
use Rattle.std.proofs.lemmas.Bool.Decides.{nat_tests}
use Rattle.hex.specs.Hex.{hex_digit_value, digit_or_error, pair_value, decode_pairs, decode_of}
use Rattle.hex.specs.Hex.{◌>>=◌}
use Rattle.hex.specs.declared.error.FromHexError.{FromHexError}
use Rattle.hex.specs.declared.error.FromHexError.TheVariants.{InvalidHexCharacter}
use Rattle.hex.proofs.Pairs.{decode_err, prepend}
use Rattle.scripts.specs.Digits.{value_or_none}

-- the entries of a table are the values of a definition below n
unfoldable pub agree_below : (ℕ → ℕ) → (ℕ → ℕ) → ℕ → Bool
agree_below entry f zero = true
agree_below entry f (suc n) = nat_eq (entry n) (f n) && agree_below entry f n

both_of : (x y : ℕ) (rest : Bool) → (nat_eq x y && rest) ≡ true → (x ≡ y) × (rest ≡ true)
both_of x y rest h = grind (arith, nat_tests)

-- so it has each of them
pub agree_at : (entry f : ℕ → ℕ) (n : ℕ) → agree_below entry f n ≡ true → (b : ℕ) → b < n
    → entry b ≡ f b
unfolding agree_below
agree_at entry f zero h b lt = absurd (omega arith)
agree_at entry f (suc n) h b lt =
    let both = both_of (entry n) (f n) (agree_below entry f n) h in
    elim (cases_eq b n) [
      | inl same ↦ rw same both.0
      | inr other ↦ agree_at entry f n both.1 b (omega arith)
    ]

-- a byte of two values
pair_of : (high low i : ℕ) (h l : Option ℕ) → 16 * unwrap_or h 256 + unwrap_or l 256 < 256
    → (digit_or_error high i h
    >>= (λ h. digit_or_error low (i + 1) l >>= (λ l. Ok (h * 16 + l))))
    ≡ Ok ((16 * unwrap_or h 256 + unwrap_or l 256) % 256)
pair_of high low i None l small = absurd (omega arith)
pair_of high low i (Some h) None small = absurd (omega arith)
pair_of high low i (Some h) (Some l) small = ap Ok (omega arith)

-- two digits with a small sum are that byte
pub pair_is : (high low i : ℕ) → 16 * value_or_none high + value_or_none low < 256
    → pair_value high low i ≡ Ok ((16 * value_or_none high + value_or_none low) % 256)
pair_is high low i small =
    pair_of high low i (hex_digit_value high) (hex_digit_value low) small

-- a digit has a value below 16
digit_below : (c v : ℕ) → hex_digit_value c ≡ Some v → v < 16
digit_below c v is = grind (arith, nat_tests)

-- two with a larger sum are none
pair_fails : (high low i : ℕ) (h l : Option ℕ) → hex_digit_value high ≡ h
    → hex_digit_value low ≡ l → 256 ≤ 16 * unwrap_or h 256 + unwrap_or l 256
    → (e : FromHexError) × ((digit_or_error high i h
    >>= (λ h. digit_or_error low (i + 1) l >>= (λ l. Ok (h * 16 + l)))) ≡ Err e)
pair_fails high low i None l high_is low_is large = (InvalidHexCharacter high i, refl)
pair_fails high low i (Some h) None high_is low_is large = (InvalidHexCharacter low (i + 1), refl)
pair_fails high low i (Some h) (Some l) high_is low_is large =
    absurd (omega (arith, large, digit_below high h high_is, digit_below low l low_is))

-- so a text with such a pair after good ones decodes to nothing
pub no_pair : (s out : List ℕ) (i : ℕ) → 2 * i + 1 < length s
    → 256 ≤ 16 * value_or_none (slice_index s (2 * i)) + value_or_none (slice_index s (2 * i + 1))
    → decode_pairs 0 s ≡ prepend (take i out) (decode_pairs (2 * i) (drop (2 * i) s))
    → result_ok (decode_pairs 0 s) ≡ None
no_pair s out i fits large so_far =
    let failed = pair_fails (slice_index s (2 * i)) (slice_index s (2 * i + 1)) (2 * i)
    (hex_digit_value (slice_index s (2 * i))) (hex_digit_value (slice_index s (2 * i + 1)))
    refl refl large in
    ap result_ok (decode_err s out i failed.0 fits failed.1 so_far)

-- a text of an even length decodes by pairs
pub decodes_by_pairs : (s : List ℕ) (n : ℕ) → length s ≡ 2 * n → decode_of s ≡ decode_pairs 0 s
decodes_by_pairs s n even = grind (arith, nat_tests)

-- what is below a bound with another in its bits is below it alone
pub below_both : (a b m : ℕ) → m ≡ bit_or a b → m < 256 → (a < 256) × (b < 256)
below_both a b m is small = (omega (arith, is, le_or_l a b), omega (arith, is, le_or_r a b))

-- and what is not has one that is not
pub above_either : (a b : ℕ) → 256 ≤ bit_or a b → a < 256 → 256 ≤ b
above_either a b large small = by_test (cases_lt b 256)
  where
    by_test : (b < 256) ⊎ (256 ≤ b) → 256 ≤ b
    by_test (inl below) = absurd (omega (arith, large, or_of_8 a b small below))
    by_test (inr above) = above
