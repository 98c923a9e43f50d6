-- How parts join to pieces.
use Rattle.std.proofs.Common.{◌≡◌, ◌≢◌, ◌==◌, ◌+◌, ◌<◌, ◌≤◌, ℕ, false, List, [], ◌∷◌, ◌++◌, length}
use Rattle.std.proofs.Common.{reverse, refl, sym, ◌∙◌, ap, subst, arith}
use Rattle.std.specs.List.{AllByRecursion, filter}
use Rattle.std.proofs.lemmas.Bool.Decides.{nat_tests}
use Rattle.std.proofs.lemmas.List.{append_assoc, reverse-append, map-append}
use Rattle.std.proofs.lemmas.List.Elements.{filter-append}
use Rattle.std.specs.Prelude.{map}
use Rattle.sync_base.specs.Write.{Write}
use Rattle.pipe_dev.specs.Parts.{Part, is_empty, longer_by, with_part, whole_at, whole_from}
use Rattle.pipe_dev.specs.Parts.{bytes_by}

is_empty-append : (xs ys : List ℕ) → is_empty xs ≡ false → is_empty (xs ++ ys) ≡ false
is_empty-append [] ys some = cc
is_empty-append (x ∷ xs) ys some = refl

-- a part of another place begins a piece
begins : (part piece : Part) (past : List Part) → piece.place ≢ part.place
    → with_part part (piece ∷ past) ≡ part ∷ piece ∷ past
begins part piece past differ = grind (arith, nat_tests)

-- two parts of one write, the second after the first
pub record AreOfOneWrite (first second : Part) : Type 0 where
  -- they are of the same place
  pub place : first.place ≡ second.place
  -- they are of the same writer
  pub writer : first.writer ≡ second.writer
  -- the first has a byte
  pub first_some : is_empty first.bytes ≡ false
  -- the second has a byte
  pub second_some : is_empty second.bytes ≡ false

-- they join to what they make together, after another piece
joined_twice : (first second piece : Part) (past : List Part) → AreOfOneWrite first second
    → with_part second (with_part first (piece ∷ past))
    ≡ with_part (longer_by first second) (piece ∷ past)
joined_twice first second piece past one =
    let some = is_empty-append first.bytes second.bytes one.first_some in
    let some_before = is_empty-append piece.bytes first.bytes in
    let joined = append_assoc piece.bytes first.bytes second.bytes in
    grind (arith, nat_tests)

-- one after the other
pub with_part-twice : (first second : Part) (pieces : List Part) → AreOfOneWrite first second
    → with_part second (with_part first pieces) ≡ with_part (longer_by first second) pieces
with_part-twice first second [] one = alone first second one
  where
    alone : (first second : Part) → AreOfOneWrite first second
        → with_part second (first ∷ []) ≡ longer_by first second ∷ []
    alone first second one = grind (arith, nat_tests)
with_part-twice first second (piece ∷ past) one = joined_twice first second piece past one

-- writes after others
pub whole_from-append : (place : ℕ) (xs ys : List Write)
    → whole_from place (xs ++ ys) ≡ whole_from place xs ++ whole_from (place + length xs) ys
whole_from-append place [] ys = ap (λ n. whole_from n ys) (omega arith)
whole_from-append place (x ∷ xs) ys =
    ap (λ pieces. whole_at place x ∷ pieces)
    (whole_from-append (place + 1) xs ys
    ∙ ap (λ n. whole_from (place + 1) xs ++ whole_from n ys) (omega arith))

-- each is at a place before the next one
places_below : (place : ℕ) (xs : List Write) (bound : ℕ) → place + length xs ≤ bound
    → AllByRecursion (λ piece. piece.place < bound) (whole_from place xs)
places_below place [] bound below = tt
places_below place (x ∷ xs) bound below =
    (omega (arith, below), places_below (place + 1) xs bound (omega (arith, below)))

all_last : (P : Part → Type 0) (xs : List Part) (x : Part) → AllByRecursion P (xs ++ x ∷ []) → P x
all_last P [] x all = all.0
all_last P (y ∷ xs) x all = all_last P xs x all.1

-- what stands first in a list stands last in its reverse
pub reverse-cons : (x : Part) (xs : List Part) → reverse (x ∷ xs) ≡ reverse xs ++ x ∷ []
reverse-cons x xs = reverse-append (x ∷ []) xs

-- where the pieces are these writes, a part of the next write begins a piece
pub with_part-next : (part : Part) (pieces : List Part) (xs : List Write)
    → reverse pieces ≡ whole_from 0 xs → part.place ≡ length xs
    → with_part part pieces ≡ part ∷ pieces
with_part-next part [] xs are place = refl
with_part-next part (piece ∷ past) xs are place =
    let below : AllByRecursion (λ p. p.place < length xs) (whole_from 0 xs)
    = places_below 0 xs (length xs) (omega arith) in
    let all : AllByRecursion (λ p. p.place < length xs) (reverse past ++ piece ∷ [])
    = subst (AllByRecursion (λ p. p.place < length xs))
    (sym are ∙ reverse-cons piece past) below in
    let last : piece.place < length xs
    = all_last (λ p. p.place < length xs) (reverse past) piece all in
    begins part piece past (λ same. absurd (omega (arith, last, same, place)))

-- the bytes of pieces after others
pub bytes_by-append : (writer : ℕ) (xs ys : List Part)
    → bytes_by writer (xs ++ ys) ≡ bytes_by writer xs ++ bytes_by writer ys
bytes_by-append writer xs ys =
    ap (map (λ (piece : Part). piece.bytes))
    (filter-append (λ (piece : Part). piece.writer == writer) xs ys)
    ∙ map-append (λ (piece : Part). piece.bytes)
    (filter (λ piece. piece.writer == writer) xs) (filter (λ piece. piece.writer == writer) ys)
