-- What is printed is read back.
use Rattle.std.proofs.Common.{◌≡◌, ◌≢◌, ℕ, zero, suc, ◌+◌, ◌/◌, ◌%◌, ◌<◌, ◌≤◌, ◌==◌, ◌^◌, Bool}
use Rattle.std.proofs.Common.{true, false, List, [], ◌∷◌, ◌++◌, length, Some, rules, refl, ap, sym}
use Rattle.std.proofs.Common.{◌∙◌, arith, codes}
use Rattle.std.specs.List.{list_all}
use Rattle.std.specs.Char.{is_ascii_digit}
use Rattle.std.specs.Fmt.{decimal, digits}
use Rattle.std.proofs.lemmas.Bool.Decides.{Decides-eqb}
use Rattle.std.proofs.lemmas.Slice.Eq.{bytes_eq-Decides}
use Rattle.hex.specs.Hex.{decode_of, encode_lower, lower_digits}
use Rattle.scripts.specs.PipeScript.{bytes_of}
use Rattle.std.specs.Result.{result_ok}
use Rattle.std.proofs.lemmas.Str.Parse.{IsNumeralModel, numerals_by_fold}
use Rattle.std.proofs.lemmas.Fmt.{decimal_by_steps, digits_decimal, digits_value-decimal}
use Rattle.hex.proofs.HexLemmas.{decode_of-encode_lower, length-encode_with}
use Rattle.sync_base.specs.declared.note.NoteSet.{NoteSet}
use Rattle.scripts.specs.Lines.{decimal_value, number_of, value_of, is_word}
use Rattle.scripts.specs.EventText.{kinds_text}
use Rattle.scripts.specs.Schedule.{kinds_of}
use Rattle.scripts.specs.TextLaws.{NumbersAreReadBack, BytesAreReadBack, KindsAreReadBack}
use Rattle.scripts.proofs.NumberLemmas.{decimal_from, value_of-small}

-- each of the 32 sets of kinds
by_kinds : (interrupt hangup alarm closed_pipe expired : Bool)
    → let set : NoteSet =
    record {
      interrupt = interrupt;
      hangup = hangup;
      alarm = alarm;
      closed_pipe = closed_pipe;
      expired = expired;
    }
    in
    kinds_of (kinds_text set) ≡ Some set
by_kinds true true true true true = refl
by_kinds true true true true false = refl
by_kinds true true true false true = refl
by_kinds true true true false false = refl
by_kinds true true false true true = refl
by_kinds true true false true false = refl
by_kinds true true false false true = refl
by_kinds true true false false false = refl
by_kinds true false true true true = refl
by_kinds true false true true false = refl
by_kinds true false true false true = refl
by_kinds true false true false false = refl
by_kinds true false false true true = refl
by_kinds true false false true false = refl
by_kinds true false false false true = refl
by_kinds true false false false false = refl
by_kinds false true true true true = refl
by_kinds false true true true false = refl
by_kinds false true true false true = refl
by_kinds false true true false false = refl
by_kinds false true false true true = refl
by_kinds false true false true false = refl
by_kinds false true false false true = refl
by_kinds false true false false false = refl
by_kinds false false true true true = refl
by_kinds false false true true false = refl
by_kinds false false true false true = refl
by_kinds false false true false false = refl
by_kinds false false false true true = refl
by_kinds false false false true false = refl
by_kinds false false false false true = refl
by_kinds false false false false false = refl

-- so every set of kinds is read back
pub kinds_read_back : KindsAreReadBack
kinds_read_back set =
    by_kinds set.interrupt set.hangup set.alarm set.closed_pipe set.expired

-- the grammar's digits and their number are those of the library
grammar_digits : IsNumeralModel (λ digits. list_all is_ascii_digit digits ≡ true) decimal_value
grammar_digits = numerals_by_fold _ (search rules) decimal_from (search rules)

-- the digits of a number above 0 do not begin with a zero
abbrev BeginsAboveZero : ℕ → List ℕ → Type 0
BeginsAboveZero n digits = 0 < n → (c : ℕ) × (cs : List ℕ) × (digits ≡ c ∷ cs) × (c ≢ 48)

-- by induction on the digits, from the front
begins_above_zero : (n : ℕ) → n < 2 ^ 64 → BeginsAboveZero n (decimal n)
begins_above_zero = decimal_by_steps BeginsAboveZero one more
  where
    one : (n : ℕ) → n < 10 → BeginsAboveZero n ((48 + n) ∷ [])
    one n small some = (48 + n, [], refl, λ zero. omega arith)

    more : (n : ℕ) (digits : List ℕ) → 10 ≤ n → BeginsAboveZero (n / 10) digits
        → BeginsAboveZero n (digits ++ ((48 + n % 10) ∷ []))
    more n digits large before some =
        let (c, cs, is, above) = before (omega arith) in
        (c, cs ++ ((48 + n % 10) ∷ []), ap (λ l. l ++ ((48 + n % 10) ∷ [])) is, above)

-- digits that do not begin with a zero are read by their value
number_of-value : (c : ℕ) (cs : List ℕ) → c ≢ 48 → number_of (c ∷ cs) ≡ value_of (c ∷ cs)
number_of-value c [] above = refl
number_of-value c (d ∷ cs) above = by_test (c == 48) refl
  where
    by_test : (is_zero : Bool) → c == 48 ≡ is_zero → number_of (c ∷ d ∷ cs) ≡ value_of (c ∷ d ∷ cs)
    by_test true is = absurd (above ((Decides-eqb c 48).0 is))
    by_test false is = rw is refl

-- the digits of a number have its value
value_of-decimal : (n : ℕ) → n < 2 ^ 64 → value_of (decimal n) ≡ Some n
value_of-decimal n small =
    sym (value_of-small (decimal n) n (digits_decimal grammar_digits n small)
    (sym (digits_value-decimal grammar_digits n small)) small)

-- so every number is read back
pub numbers_read_back : NumbersAreReadBack
unfolding digits
numbers_read_back zero small = refl
numbers_read_back (suc n) small =
    let (c, cs, is, above) = begins_above_zero (suc n) small (omega arith) in
    ap number_of is
    ∙ (number_of-value c cs above ∙ (ap value_of (sym is) ∙ value_of-decimal (suc n) small))

-- two digits or more are no dash
no_dash : (digits : List ℕ) → 1 < length digits → is_word digits (codes "-") ≡ false
no_dash digits many = by_test (is_word digits (codes "-")) refl
  where
    by_test : (is_dash : Bool) → is_word digits (codes "-") ≡ is_dash
        → is_word digits (codes "-") ≡ false
    by_test false is = is
    by_test true is =
        let same : digits ≡ codes "-" = (bytes_eq-Decides digits (codes "-")).0 is in
        absurd (omega (arith, ap length same))

-- such a word is read as digits
bytes_of-digits : (digits : List ℕ) → 1 < length digits
    → bytes_of digits ≡ result_ok (decode_of digits)
bytes_of-digits [] many = absurd (omega arith)
bytes_of-digits (d ∷ digits) many = rw (no_dash (d ∷ digits) many) refl

-- so the bytes of every piece are read back
pub bytes_read_back : BytesAreReadBack
bytes_read_back [] small = refl
bytes_read_back (b ∷ bytes) small =
    let many : 1 < length (encode_lower (b ∷ bytes)) =
    omega (arith, length-encode_with lower_digits (b ∷ bytes)) in
    bytes_of-digits (encode_lower (b ∷ bytes)) many
    ∙ ap result_ok (decode_of-encode_lower (b ∷ bytes) small)
