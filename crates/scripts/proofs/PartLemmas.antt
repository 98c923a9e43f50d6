-- The first part of a text, and what follows it: the end of the text, or the byte that parts it.
use Rattle.std.proofs.Common.{◌≡◌, ℕ, Bool, true, false, cond, ◌==◌, ◌&&◌, List, [], ◌∷◌, ◌++◌}
use Rattle.std.proofs.Common.{◌≤◌, ◌-◌, length, take, drop, take-append-drop, refl, ap, sym, ◌∙◌}
use Rattle.std.proofs.Common.{arith, get_or}
use Rattle.std.proofs.Math.Seq.{take-length}
use Rattle.std.proofs.lemmas.Bool.Decides.{nat_tests}
use Rattle.std.proofs.lemmas.Grind.{common_steps}
use Rattle.std.proofs.lemmas.List.{get_or_append_left}
use Rattle.scripts.specs.Lines.{FourAreBytes, four_of, onto_first, parts_of}

-- of two tests that both pass the first does
pub first_passes : (v w : Bool) → (v && w) ≡ true → v ≡ true
first_passes true w both = refl
first_passes false w both = both

-- and so does the second
pub second_passes : (v w : Bool) → (v && w) ≡ true → w ≡ true
second_passes true w both = both
second_passes false w both = absurd (cc)

-- after the first part the text ends, or this byte stands there before the other parts
abbrev pub TailHas : ℕ → List ℕ → List (List ℕ) → Type 0
TailHas byte [] [] = Unit {0}
TailHas byte [] (part ∷ parts) = ⊥
TailHas byte (b ∷ rest) parts = (b ≡ byte) × (parts ≡ parts_of (λ b. b == byte) rest)

-- a text as its first part and what follows that
pub record Parted (byte : ℕ) (text : List ℕ) : Type 0 where
  -- the first part
  pub word : List ℕ
  -- what follows it
  pub tail : List ℕ
  -- the other parts
  pub others : List (List ℕ)
  -- the part and its tail are the text
  pub split : text ≡ word ++ tail
  -- it is the first
  pub parts : parts_of (λ b. b == byte) text ≡ word ∷ others
  -- the others stand in the tail
  pub beyond : TailHas byte tail others

-- equal numbers are one
same_number : (a b : ℕ) → (a == b) ≡ true → a ≡ b
same_number a b is = grind (arith, nat_tests)

-- each text has a first part
pub parted : (byte : ℕ) (text : List ℕ) → Parted byte text
parted byte [] =
    record { word = []; tail = []; others = []; split = refl; parts = refl; beyond = tt }
parted byte (b ∷ text) = by_test (b == byte) refl (parted byte text)
  where
    by_test : (v : Bool) → (b == byte) ≡ v → Parted byte text → Parted byte (b ∷ text)
    by_test true is rest =
        record {
          word = [];
          tail = b ∷ text;
          others = parts_of (λ b. b == byte) text;
          split = refl;
          parts = ap (λ v. cond v ([] ∷ parts_of (λ b. b == byte) text)
              (onto_first b (parts_of (λ b. b == byte) text))) is;
          beyond = (same_number b byte is, refl);
        }
    by_test false other rest =
        record {
          word = b ∷ rest.word;
          tail = rest.tail;
          others = rest.others;
          split = ap (λ (t : List ℕ). b ∷ t) rest.split;
          parts = ap (λ v. cond v ([] ∷ parts_of (λ b. b == byte) text)
              (onto_first b (parts_of (λ b. b == byte) text))) other
              ∙ ap (onto_first b) rest.parts;
          beyond = rest.beyond;
        }

-- a text whose first bytes are all of a word is the word and what a slice has after it
pub word_and_rest : (word text : List ℕ) (n : ℕ) → length word ≤ n → take n text ≡ take n word
    → n ≤ length word
    → text ≡ word ++ take (length text - length word) (drop (length word) text)
word_and_rest word text n above same below =
    let whole : n ≡ length word = omega (arith, above, below) in
    let front : take (length word) text ≡ word =
    rw whole at same ∙ take-length word in
    sym (take-append-drop (length word) text)
    ∙ (ap (λ (f : List ℕ). f ++ drop (length word) text) front
    ∙ ap (λ (r : List ℕ). word ++ r) (sym (rest_drop (length word) text)))
  where
    rest_drop : (k : ℕ) (bs : List ℕ) → take (length bs - k) (drop k bs) ≡ drop k bs
    rest_drop k bs = grind (arith, common_steps)

-- the first four bytes of a text that has them
four_are : (bs : List ℕ) → 4 ≤ length bs
    → take 4 bs ≡ get_or bs 0 0 ∷ get_or bs 1 0 ∷ get_or bs 2 0 ∷ get_or bs 3 0 ∷ []
four_are [] long = absurd (omega (arith, long))
four_are (a ∷ []) long = absurd (omega (arith, long))
four_are (a ∷ b ∷ []) long = absurd (omega (arith, long))
four_are (a ∷ b ∷ c ∷ []) long = absurd (omega (arith, long))
four_are (a ∷ b ∷ c ∷ d ∷ bs) long = refl

-- four bytes that are the same number are the same
pub four_same : (text word : List ℕ) → 4 ≤ length text → 4 ≤ length word → FourAreBytes text
    → FourAreBytes word → four_of text ≡ four_of word → take 4 text ≡ take 4 word
four_same text word text_has word_has small small' same =
    let a : get_or text 0 0 ≡ get_or word 0 0 =
    omega (arith, same, small.first, small'.first) in
    let b : get_or text 1 0 ≡ get_or word 1 0 =
    omega (arith, same, a, small.second, small'.second) in
    let c : get_or text 2 0 ≡ get_or word 2 0 =
    omega (arith, same, a, b, small.third, small'.third) in
    let d : get_or text 3 0 ≡ get_or word 3 0 = omega (arith, same, a, b, c) in
    four_are text text_has ∙ rw (a, b, c, d) (sym (four_are word word_has))

-- a text that begins with a word has its first four bytes
pub four_begin : (text word rest : List ℕ) → 4 ≤ length word → text ≡ word ++ rest
    → four_of text ≡ four_of word
four_begin text word rest has is =
    rw (
      is,
      get_or_append_left word rest 0 0 (omega (arith, has)),
      get_or_append_left word rest 0 1 (omega (arith, has)),
      get_or_append_left word rest 0 2 (omega (arith, has)),
      get_or_append_left word rest 0 3 (omega (arith, has)),
    ) refl
