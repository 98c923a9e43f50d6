-- The definitions of lines and words read a text from its end, and the code reads it from its
-- front: the first part joins
-- the two.
use Rattle.std.proofs.Common.{◌≡◌, ℕ, suc, ◌+◌, ◌-◌, ◌<◌, ◌≤◌, Bool, true, false, cond, not, List}
use Rattle.std.proofs.Common.{[], ◌∷◌, ◌++◌, length, take, drop, position, Some, None, refl, ap}
use Rattle.std.proofs.Common.{subst, ◌∙◌, arith}
use Rattle.std.specs.List.{position_or_len, list_all}
use Rattle.std.proofs.lemmas.Grind.{common_steps}
use Rattle.std.proofs.lemmas.Bool.Decides.{nat_tests}
use Rattle.scripts.specs.Lines.{is_line_feed, parts_of, onto_first, all_but_last, last_of, lines_of}
use Rattle.scripts.specs.Lines.{cut_line_of}

-- the first part ends where the first parting byte stands
parts_of-first : (p : ℕ → Bool) (bs : List ℕ) → position_or_len p bs < length bs
    → parts_of p bs ≡ take (position_or_len p bs) bs ∷ parts_of p
    (drop (position_or_len p bs + 1) bs)
parts_of-first p [] within = absurd (omega arith)
parts_of-first p (b ∷ bs) within =
    step (p b) (position_or_len p bs) (parts_of p bs) (λ h. parts_of-first p bs h) within
  where
    step : (v : Bool) (n : ℕ) (parts : List (List ℕ))
        → (n < length bs → parts ≡ take n bs ∷ parts_of p (drop (n + 1) bs))
        → cond (not v) (1 + n) 0 < length (b ∷ bs)
        → cond v ([] ∷ parts_of p bs) (onto_first b parts) ≡ take (cond (not v) (1 + n) 0) (b ∷ bs)
        ∷ parts_of p (drop (cond (not v) (1 + n) 0 + 1) (b ∷ bs))
    step true n parts rest h = refl
    step false n parts rest h =
        let one_more : 1 + n ≡ suc n = omega arith in
        let two_more : 1 + n + 1 ≡ suc (n + 1) = omega arith in
        rw (two_more, one_more) (ap (onto_first b) (rest (omega arith)))

-- where none stands, all is one part
parts_of-none : (p : ℕ → Bool) (bs : List ℕ) → length bs ≤ position_or_len p bs
    → parts_of p bs ≡ bs ∷ []
parts_of-none p [] none = refl
parts_of-none p (b ∷ bs) none =
    step (p b) (position_or_len p bs) (parts_of p bs) (λ h. parts_of-none p bs h) none
  where
    step : (v : Bool) (n : ℕ) (parts : List (List ℕ)) → (length bs ≤ n → parts ≡ bs ∷ [])
        → length (b ∷ bs) ≤ cond (not v) (1 + n) 0
        → cond v ([] ∷ parts_of p bs) (onto_first b parts) ≡ (b ∷ bs) ∷ []
    step true n parts rest h = absurd (omega arith)
    step false n parts rest h = ap (onto_first b) (rest (omega arith))

-- there is always a part
pub parts_of-some : (p : ℕ → Bool) (bs : List ℕ) → 0 < length (parts_of p bs)
parts_of-some p [] = omega arith
parts_of-some p (b ∷ bs) = step (p b) (parts_of p bs) (parts_of-some p bs)
  where
    step : (v : Bool) (parts : List (List ℕ)) → 0 < length parts
        → 0 < length (cond v ([] ∷ parts_of p bs) (onto_first b parts))
    step true parts some = omega arith
    step false [] some = some
    step false (part ∷ parts) some = omega arith

-- the place of a byte that was found, and that it is within the text
found_at : (p : ℕ → Bool) (bs : List ℕ) (n : ℕ) → position p bs ≡ Some n → position_or_len p bs ≡ n
found_at p bs n found = grind (arith, nat_tests)

-- a byte that is found stands in the text
found_within : (p : ℕ → Bool) (bs : List ℕ) (n : ℕ) → position p bs ≡ Some n
    → position_or_len p bs < length bs
found_within p bs n found = grind (arith, nat_tests)

missing : (p : ℕ → Bool) (bs : List ℕ) → position p bs ≡ None → length bs ≤ position_or_len p bs
missing p bs none = grind (arith, nat_tests)

-- what the slice from n on has
rest-drop : (n : ℕ) (bs : List ℕ) → take (length bs - n) (drop n bs) ≡ drop n bs
rest-drop n bs = grind (arith, common_steps)

-- the first part, and the rest as a slice has it
pub parts_of-at : (p : ℕ → Bool) (bs : List ℕ) (n : ℕ) → position p bs ≡ Some n
    → parts_of p bs ≡ take n bs ∷ parts_of p (take (length bs - (n + 1)) (drop (n + 1) bs))
parts_of-at p bs n found =
    let here = subst (λ m. parts_of p bs ≡ take m bs ∷ parts_of p (drop (m + 1) bs))
    (found_at p bs n found) (parts_of-first p bs (found_within p bs n found)) in
    rw rest-drop here

-- a text without the parting byte is one part
pub parts_of-missing : (p : ℕ → Bool) (bs : List ℕ) → position p bs ≡ None → parts_of p bs ≡ bs ∷ []
parts_of-missing p bs none = parts_of-none p bs (missing p bs none)

-- a part before others is not the last
pub all_but_last-cons : (part : List ℕ) (parts : List (List ℕ)) → 0 < length parts
    → all_but_last (part ∷ parts) ≡ part ∷ all_but_last parts
all_but_last-cons part [] some = absurd (omega arith)
all_but_last-cons part (next ∷ parts) some = refl

-- a part in front of others is not the last
pub last_of-cons : (part : List ℕ) (parts : List (List ℕ)) → 0 < length parts
    → last_of (part ∷ parts) ≡ last_of parts
last_of-cons part [] some = absurd (omega arith)
last_of-cons part (next ∷ parts) some = refl

-- a text with a line feed begins with a line
pub lines_of-at : (text : List ℕ) (n : ℕ) → position is_line_feed text ≡ Some n
    → lines_of text ≡ take n text ∷ lines_of (take (length text - (n + 1)) (drop (n + 1) text))
lines_of-at text n found = ap all_but_last (parts_of-at is_line_feed text n found)
    ∙ all_but_last-cons _ _
    (parts_of-some is_line_feed (take (length text - (n + 1)) (drop (n + 1) text)))

-- what is cut after the first line is what is cut of the text
pub cut_line_of-at : (text : List ℕ) (n : ℕ) → position is_line_feed text ≡ Some n
    → cut_line_of text ≡ cut_line_of (take (length text - (n + 1)) (drop (n + 1) text))
cut_line_of-at text n found = ap last_of (parts_of-at is_line_feed text n found)
    ∙ last_of-cons _ _
    (parts_of-some is_line_feed (take (length text - (n + 1)) (drop (n + 1) text)))

-- a text without one has no line, and is cut
pub lines_of-missing : (text : List ℕ) → position is_line_feed text ≡ None → lines_of text ≡ []
lines_of-missing text none = ap all_but_last (parts_of-missing is_line_feed text none)

-- a text without a line feed is cut as a whole
pub cut_line_of-missing : (text : List ℕ) → position is_line_feed text ≡ None
    → cut_line_of text ≡ text
cut_line_of-missing text none = ap last_of (parts_of-missing is_line_feed text none)

-- a byte in front of plain ones is plain, and so are they
plain_first : (p : ℕ → Bool) (x : ℕ) (bs : List ℕ)
    → list_all (λ b. not (p b)) (x ∷ bs) ≡ true → p x ≡ false
plain_first p x bs plain = grind (arith, nat_tests)

plain_rest : (p : ℕ → Bool) (x : ℕ) (bs : List ℕ)
    → list_all (λ b. not (p b)) (x ∷ bs) ≡ true → list_all (λ b. not (p b)) bs ≡ true
plain_rest p x bs plain = grind (arith, nat_tests)

-- a part and the parting byte after it stand before the other parts
pub parts_of-part : (p : ℕ → Bool) (part : List ℕ) (b : ℕ) (rest : List ℕ)
    → list_all (λ b. not (p b)) part ≡ true → p b ≡ true
    → parts_of p (part ++ b ∷ rest) ≡ part ∷ parts_of p rest
parts_of-part p [] b rest plain parting =
    ap (λ v. cond v ([] ∷ parts_of p rest) (onto_first b (parts_of p rest))) parting
parts_of-part p (x ∷ part) b rest plain parting =
    ap (λ v. cond v ([] ∷ parts_of p (part ++ b ∷ rest))
    (onto_first x (parts_of p (part ++ b ∷ rest)))) (plain_first p x part plain)
    ∙ ap (onto_first x) (parts_of-part p part b rest (plain_rest p x part plain) parting)

-- a text without a parting byte is one part
pub parts_of-plain : (p : ℕ → Bool) (bs : List ℕ) → list_all (λ b. not (p b)) bs ≡ true
    → parts_of p bs ≡ bs ∷ []
parts_of-plain p [] plain = refl
parts_of-plain p (x ∷ bs) plain =
    ap (λ v. cond v ([] ∷ parts_of p bs) (onto_first x (parts_of p bs))) (plain_first p x bs plain)
    ∙ ap (onto_first x) (parts_of-plain p bs (plain_rest p x bs plain))
