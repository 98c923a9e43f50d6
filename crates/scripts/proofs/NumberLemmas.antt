-- A number that is read digit by digit: it only grows, so it is too large once its front is. All
-- digits that a text begins with are its first word, where that spells a number.
use Rattle.std.proofs.Common.{◌≡◌, ℕ, zero, suc, ◌+◌, ◌-◌, ◌*◌, ◌^◌, ◌<◌, ◌≤◌, Bool, true, false}
use Rattle.std.proofs.Common.{◌&&◌, nat_lt, ◌==◌, if◌then◌else◌, List, [], ◌∷◌, ◌++◌, length, take}
use Rattle.std.proofs.Common.{get_or, fold, Option, Some, None, refl, ap, sym, subst, ◌∙◌}
use Rattle.std.proofs.Common.{arith, append-nil, length-append, length-take, take-suc}
use Rattle.std.specs.List.{list_all}
use Rattle.std.specs.Char.{is_ascii_digit}
use Rattle.std.proofs.Math.Nat.{pow-le-pow_right}
use Rattle.std.proofs.Math.Seq.{take-length}
use Rattle.std.proofs.lemmas.Bool.Decides.{nat_tests}
use Rattle.std.proofs.lemmas.List.Folds.{list_all-append}
use Rattle.scripts.specs.declared.lines.TheConstants.{COMMA, ZERO}
use Rattle.scripts.specs.Lines.{AllLeadingDigits, BeginsWithNoNumber, BeginsWithNumber}
use Rattle.scripts.specs.Lines.{FirstIsNoNumber, TooLarge, decimal_value, number_of}
use Rattle.scripts.specs.Lines.{value_of}
use Rattle.scripts.proofs.PartLemmas.{Parted, TailHas, first_passes, parted, second_passes}

-- the number that these digits, after a number that was read already, spell
abbrev pub decimal_from : ℕ → List ℕ → ℕ
decimal_from n digits = fold (λ n digit. 10 * n + (digit - 48)) n digits

-- a number that goes on does not get smaller
grows : (n : ℕ) (digits : List ℕ) → n ≤ decimal_from n digits
grows n [] = omega arith
grows n (digit ∷ digits) = omega (arith, grows (10 * n + (digit - 48)) digits)

-- a number of 2^64 and more is none
pub value_of-large : (digits : List ℕ) → 2 ^ 64 ≤ decimal_value digits → value_of digits ≡ None
value_of-large digits large = grind (arith, nat_tests)

-- a smaller one is read
pub value_of-small : (digits : List ℕ) (n : ℕ) → list_all is_ascii_digit digits ≡ true
    → n ≡ decimal_value digits → n < 2 ^ 64 → Some n ≡ value_of digits
value_of-small digits n all is small = grind (arith, nat_tests)

-- nineteen digits fit, so one may come after eighteen
pub one_more_fits : (n count : ℕ) → n < 10 ^ count → count < 19 → 10 * n + 9 < 2 ^ 64
one_more_fits n count below few =
    let most : 10 ^ count ≤ 10 ^ 18 =
    pow-le-pow_right {n = 10} (omega arith) {i = count} {j = 18} (omega arith) in
    omega (arith, most)

-- one digit before this byte is a number
pub one_digit : (end : ℕ) (text : List ℕ) (digit : ℕ) (rest : List ℕ) → 0 < length text
    → is_ascii_digit (get_or text 0 0) ≡ true → digit ≡ get_or text 0 0 - 48
    → text ≡ take 1 text ++ end ∷ rest → BeginsWithNumber end text digit rest
one_digit end text digit rest some is_digit is split =
    record {
      word = take 1 text;
      split = split;
      spells = ap number_of (take-suc text 0 0 some)
          ∙ sym (value_of-small (get_or text 0 0 ∷ []) digit (ap (λ v. v && true) is_digit)
          (omega (arith, is)) (grind (arith, nat_tests)));
    }

-- what spells a number is digits
value_digits : (digits : List ℕ) (n : ℕ) → value_of digits ≡ Some n
    → list_all is_ascii_digit digits ≡ true
value_digits digits n is =
    step (list_all is_ascii_digit digits) (nat_lt (decimal_value digits) (2 ^ 64)) is
  where
    step : (v w : Bool) → (if v && w then Some (decimal_value digits) else None) ≡ Some n
        → v ≡ true
    step true w is = refl
    step false w is = absurd (cc)

-- a word that spells a number is of digits
pub number_digits : (word : List ℕ) (n : ℕ) → number_of word ≡ Some n
    → list_all is_ascii_digit word ≡ true
number_digits [] n is = refl
number_digits (d ∷ []) n is = value_digits (d ∷ []) n is
number_digits (d ∷ e ∷ word) n is = step (d == ZERO) is
  where
    step : (v : Bool) → (if v then None else value_of (d ∷ e ∷ word)) ≡ Some n
        → list_all is_ascii_digit (d ∷ e ∷ word) ≡ true
    step true is = absurd (cc)
    step false is = value_digits (d ∷ e ∷ word) n is

-- a word whose digits spell too large a number spells none
number_of-none : (word : List ℕ) → value_of word ≡ None → number_of word ≡ None
number_of-none [] none = refl
number_of-none (d ∷ []) none = none
number_of-none (d ∷ e ∷ word) none = step (d == ZERO)
  where
    step : (v : Bool) → (if v then None else value_of (d ∷ e ∷ word)) ≡ None
    step true = refl
    step false = none

-- a digit and a byte that is none differ
digit_is_other : (b : ℕ) → is_ascii_digit b ≡ true → is_ascii_digit b ≡ false → ⊥
digit_is_other b is other = let both : true ≡ false = sym is ∙ other in cc

-- digits up to a byte that is none are the word before it
leading_is : (word tail : List ℕ) (count : ℕ) → list_all is_ascii_digit word ≡ true
    → is_ascii_digit (get_or tail 0 0) ≡ false
    → list_all is_ascii_digit (take count (word ++ tail)) ≡ true
    → is_ascii_digit (get_or (word ++ tail) count 0) ≡ false
    → take count (word ++ tail) ≡ word
leading_is [] tail zero digits other lead end = refl
leading_is [] [] (suc count) digits other lead end = refl
leading_is [] (b ∷ tail) (suc count) digits other lead end =
    absurd
    (digit_is_other b (first_passes _ (list_all is_ascii_digit (take count tail)) lead) other)
leading_is (d ∷ word) tail zero digits other lead end =
    absurd (digit_is_other d (first_passes _ (list_all is_ascii_digit word) digits) end)
leading_is (d ∷ word) tail (suc count) digits other lead end =
    ap (λ (ds : List ℕ). d ∷ ds)
    (leading_is word tail count (second_passes (is_ascii_digit d) _ digits) other
    (second_passes (is_ascii_digit d) _ lead) end)

-- digits before a byte that is none begin the word before it
leading_begins : (word tail : List ℕ) (count : ℕ) → is_ascii_digit (get_or tail 0 0) ≡ false
    → list_all is_ascii_digit (take count (word ++ tail)) ≡ true
    → (more : List ℕ) × (word ≡ take count (word ++ tail) ++ more)
leading_begins word tail zero other lead = (word, refl)
leading_begins [] [] (suc count) other lead = ([], refl)
leading_begins [] (b ∷ tail) (suc count) other lead =
    absurd
    (digit_is_other b (first_passes _ (list_all is_ascii_digit (take count tail)) lead) other)
leading_begins (d ∷ word) tail (suc count) other lead =
    let rest = leading_begins word tail count other (second_passes (is_ascii_digit d) _ lead) in
    (rest.0, ap (λ (ds : List ℕ). d ∷ ds) rest.1)

-- the number that two runs of digits spell goes on from the first
value_goes_on : (n : ℕ) (front more : List ℕ)
    → decimal_from n (front ++ more) ≡ decimal_from (decimal_from n front) more
value_goes_on n [] more = refl
value_goes_on n (d ∷ front) more = value_goes_on (10 * n + (d - 48)) front more

-- one digit more makes the number too large
pub one_more_is_large : (text : List ℕ) (n count : ℕ) → count < length text
    → list_all is_ascii_digit (take count text) ≡ true → n ≡ decimal_value (take count text)
    → is_ascii_digit (get_or text count 0) ≡ true → 2 ^ 64 ≤ 10 * n + (get_or text count 0 - 48)
    → TooLarge text
one_more_is_large text n count within digits value digit large =
    let more : take (suc count) text ≡ take count text ++ get_or text count 0 ∷ [] =
    take-suc text count 0 within in
    let goes : decimal_value (take (suc count) text)
    ≡ 10 * decimal_value (take count text) + (get_or text count 0 - 48) =
    ap decimal_value more ∙ value_goes_on 0 (take count text) (get_or text count 0 ∷ []) in
    record {
      count = suc count;
      within = omega (arith, within);
      digits = ap (list_all is_ascii_digit) more
          ∙ (list_all-append is_ascii_digit (take count text) (get_or text count 0 ∷ [])
          ∙ (ap (λ v. v && (is_ascii_digit (get_or text count 0) && true)) digits
          ∙ ap (λ v. v && true) digit));
      large = omega (arith, goes, value, large);
    }

-- a word that begins with digits which spell too large a number spells none
large_is_none : (word tail : List ℕ) → is_ascii_digit (get_or tail 0 0) ≡ false
    → TooLarge (word ++ tail) → number_of word ≡ None
large_is_none word tail other large =
    let begins = leading_begins word tail large.count other large.digits in
    let front = take large.count (word ++ tail) in
    let value : decimal_value word ≡ decimal_from (decimal_value front) begins.0 =
    ap decimal_value begins.1 ∙ value_goes_on 0 front begins.0 in
    number_of-none word (value_of-large word
    (omega (arith, value, large.large, grows (decimal_value front) begins.0)))

-- no number is read where it is too large
pub large_begins_none : (end : ℕ) (text : List ℕ) → is_ascii_digit end ≡ false → TooLarge text
    → BeginsWithNoNumber end text
large_begins_none end text other large n rest begins =
    let none = large_is_none begins.word (end ∷ rest) other (subst TooLarge begins.split large) in
    let both : Some n ≡ None = sym begins.spells ∙ none in
    cc

-- the word of a number is all digits that the text begins with
word_is_leading : (end : ℕ) (text : List ℕ) (number count n : ℕ) (rest : List ℕ)
    → is_ascii_digit end ≡ false → AllLeadingDigits text number count
    → (begins : BeginsWithNumber end text n rest) → take count text ≡ begins.word
word_is_leading end text number count n rest other all begins =
    ap (take count) begins.split
    ∙ leading_is begins.word (end ∷ rest) count (number_digits begins.word n begins.spells) other
    (rw begins.split at all.leading.digits) (rw begins.split at all.end)

-- so there is none where these digits spell none
pub spells_none : (end : ℕ) (text : List ℕ) (number count : ℕ) → is_ascii_digit end ≡ false
    → AllLeadingDigits text number count → number_of (take count text) ≡ None
    → BeginsWithNoNumber end text
spells_none end text number count other all none n rest begins =
    let word = word_is_leading end text number count n rest other all begins in
    let both : Some n ≡ None = sym begins.spells ∙ (ap number_of (sym word) ∙ none) in
    cc

-- nor where the first byte is no digit
pub no_digit : (end : ℕ) (text : List ℕ) → is_ascii_digit end ≡ false
    → is_ascii_digit (get_or text 0 0) ≡ false → BeginsWithNoNumber end text
no_digit end text other first =
    spells_none end text 0 0 other (record {
      leading = record { within = omega arith; digits = refl; value = refl };
      end = first;
    }) refl

-- nor where they are all of the text
pub ends_in_digits : (end : ℕ) (text : List ℕ) (number count : ℕ) → is_ascii_digit end ≡ false
    → AllLeadingDigits text number count → count ≡ length text → BeginsWithNoNumber end text
ends_in_digits end text number count other all whole n rest begins =
    let word = word_is_leading end text number count n rest other all begins in
    let short = ap length begins.split ∙ length-append begins.word (end ∷ rest) in
    let same = ap length (sym word ∙ (ap (λ m. take m text) whole ∙ take-length text)) in
    omega (arith, short, same)

-- what stands after the same front is the same
pub same_rest : (front xs ys : List ℕ) → front ++ xs ≡ front ++ ys → xs ≡ ys
same_rest [] xs ys same = same
same_rest (b ∷ front) xs ys same = same_rest front xs ys (cc)

-- nor where another byte follows them
pub other_follows : (end : ℕ) (text : List ℕ) (number count byte : ℕ) (beyond : List ℕ)
    → is_ascii_digit end ≡ false → AllLeadingDigits text number count
    → text ≡ take count text ++ byte ∷ beyond → ¬ (byte ≡ end) → BeginsWithNoNumber end text
other_follows end text number count byte beyond other all split differs n rest begins =
    let word = word_is_leading end text number count n rest other all begins in
    let same : byte ∷ beyond ≡ end ∷ rest =
    same_rest (take count text) (byte ∷ beyond) (end ∷ rest)
    (sym split ∙ (begins.split ∙ ap (λ (w : List ℕ). w ++ end ∷ rest) (sym word))) in
    differs (cc)

-- the tail of a list's first part begins with no digit
list_tail_other : (tail : List ℕ) (others : List (List ℕ)) → TailHas COMMA tail others
    → is_ascii_digit (get_or tail 0 0) ≡ false
list_tail_other [] others beyond = refl
list_tail_other (b ∷ tail) others beyond = ap is_ascii_digit beyond.0

-- what is none by each answer is none
none_by : (o : Option ℕ) → ((n : ℕ) → ¬ (o ≡ Some n)) → o ≡ None
none_by None never = refl
none_by (Some n) never = absurd (never n refl)

-- the first part of a list spells no number where the digits that the list begins with spell too
-- large a one
pub large_list : (list : List ℕ) → TooLarge list → FirstIsNoNumber list
large_list list large word words is =
    let first = parted COMMA list in
    let same : word ∷ words ≡ first.word ∷ first.others = sym is ∙ first.parts in
    let word_is : word ≡ first.word = cc in
    ap number_of word_is
    ∙ large_is_none first.word first.tail (list_tail_other first.tail first.others first.beyond)
    (subst TooLarge first.split large)

-- where it spells a number, these digits are it
list_word_is : (list : List ℕ) (number count n : ℕ) (first : Parted COMMA list)
    → AllLeadingDigits list number count → number_of first.word ≡ Some n
    → take count list ≡ first.word
list_word_is list number count n first all spells =
    ap (take count) first.split
    ∙ leading_is first.word first.tail count (number_digits first.word n spells)
    (list_tail_other first.tail first.others first.beyond)
    (rw first.split at all.leading.digits) (rw first.split at all.end)

-- so it spells none where they spell none
pub spells_none_first : (list : List ℕ) (number count : ℕ) → AllLeadingDigits list number count
    → number_of (take count list) ≡ None → FirstIsNoNumber list
spells_none_first list number count all none word words is =
    let first = parted COMMA list in
    let same : word ∷ words ≡ first.word ∷ first.others = sym is ∙ first.parts in
    let word_is : word ≡ first.word = cc in
    ap number_of word_is ∙ none_by (number_of first.word) (λ n spells.
    let digits = list_word_is list number count n first all spells in
    let both : Some n ≡ None = sym spells ∙ (ap number_of (sym digits) ∙ none) in
    cc)

-- and where another byte than a comma follows them
pub other_in_list : (list : List ℕ) (number count byte : ℕ) (beyond : List ℕ)
    → AllLeadingDigits list number count → list ≡ take count list ++ byte ∷ beyond
    → ¬ (byte ≡ COMMA) → FirstIsNoNumber list
other_in_list list number count byte beyond all split differs word words is =
    let first = parted COMMA list in
    let same : word ∷ words ≡ first.word ∷ first.others = sym is ∙ first.parts in
    let word_is : word ≡ first.word = cc in
    ap number_of word_is ∙ none_by (number_of first.word) (λ n spells.
    let digits = list_word_is list number count n first all spells in
    by_tail first.tail first.others first.beyond (same_rest (take count list) (byte ∷ beyond)
    first.tail (sym split ∙ (first.split ∙ ap (λ (w : List ℕ). w ++ first.tail) (sym digits)))))
  where
    by_tail : (tail : List ℕ) (others : List (List ℕ)) → TailHas COMMA tail others
        → byte ∷ beyond ≡ tail → ⊥
    by_tail [] others has same = let none = ap length same in omega (arith, none)
    by_tail (b ∷ tail) others has same =
        let first_is : byte ≡ b = cc in
        differs (first_is ∙ has.0)

-- no digit stands after a word
word_is_whole : (word : List ℕ) (number count n : ℕ) → AllLeadingDigits word number count
    → number_of word ≡ Some n → take count word ≡ word
word_is_whole word number count n all spells =
    let whole = append-nil word in
    ap (take count) (sym whole)
    ∙ leading_is word [] count (number_digits word n spells) refl
    (subst (λ (w : List ℕ). list_all is_ascii_digit (take count w) ≡ true) (sym whole)
    all.leading.digits)
    (subst (λ (w : List ℕ). is_ascii_digit (get_or w count 0) ≡ false) (sym whole) all.end)

-- a word whose digits spell too large a number spells none
pub large_word : (word : List ℕ) → TooLarge word → number_of word ≡ None
large_word word large =
    large_is_none word [] refl (subst TooLarge (sym (append-nil word)) large)

-- a word that has more than its digits spells no number
pub part_of_word : (word : List ℕ) (number count : ℕ) → AllLeadingDigits word number count
    → ¬ (count ≡ length word) → number_of word ≡ None
part_of_word word number count all part = none_by (number_of word) (λ n spells.
    let whole = ap length (word_is_whole word number count n all spells) in
    let taken = length-take count word in
    part (omega (arith, whole, taken, all.leading.within)))

-- a word whose digits spell no number spells none
pub none_spelt : (word : List ℕ) (number count : ℕ) → AllLeadingDigits word number count
    → number_of (take count word) ≡ None → number_of word ≡ None
none_spelt word number count all none = none_by (number_of word) (λ n spells.
    let both : Some n ≡ None =
    sym spells ∙ (ap number_of (sym (word_is_whole word number count n all spells)) ∙ none) in
    cc)

-- a word that is its digits spells what they spell
pub whole_spelt : (word : List ℕ) (n count : ℕ) → count ≡ length word
    → number_of (take count word) ≡ Some n → Some n ≡ number_of word
whole_spelt word n count whole spells =
    sym spells ∙ ap number_of (ap (λ m. take m word) whole ∙ take-length word)
