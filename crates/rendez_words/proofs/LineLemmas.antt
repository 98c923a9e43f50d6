-- Lists that are laid out in lines of one length: how long they are, and what is read and written
-- in a line.
use Rattle.std.proofs.Common.{◌≡◌, ◌<◌, ◌+◌, ◌-◌, ◌*◌, ℕ, zero, suc, List, [], ◌∷◌, ◌++◌}
use Rattle.std.proofs.Common.{length, get_or, set, refl, sym, ◌∙◌, ap, subst, arith}
use Rattle.std.specs.Prelude.{replicate, zip, flat_map}
use Rattle.std.proofs.lemmas.List.{length-append, get_or_append_left, get_or-append-add}
use Rattle.std.proofs.lemmas.List.{set-append_left, set-append_right}
use Rattle.std.proofs.lemmas.List.{replicate-append-replicate}
use Rattle.sync_base.specs.declared.line.TheConstants.{LINE}

-- each element has a line
abbrev pub AreLines : {X : Type 0} → (X → List ℕ) → Type 0
AreLines {X} f = (x : X) → length (f x) ≡ LINE

-- so all lines have as many words as the elements have lines
pub length_lines : {X : Type 0} (f : X → List ℕ) → AreLines f → (xs : List X)
    → length (flat_map f xs) ≡ LINE * length xs
length_lines f long [] = refl
length_lines f long (x ∷ xs) =
    let rest = length_lines f long xs in
    let first = long x in
    omega (arith, length-append (f x) (flat_map f xs))

-- a word that is read is that of its element's line
pub read_line : {X : Type 0} (f : X → List ℕ) → AreLines f → (xs : List X) (i j : ℕ) (d : X)
    → i < length xs → j < LINE
    → get_or (flat_map f xs) (LINE * i + j) 0 ≡ get_or (f (get_or xs i d)) j 0
read_line f long [] i j d there within = absurd (omega (arith, there))
read_line f long (x ∷ xs) zero j d there within =
    let first = long x in
    let start : j ≡ LINE * 0 + j = omega arith in
    subst (λ n. get_or (f x ++ flat_map f xs) n 0 ≡ get_or (f x) j 0) start
    (get_or_append_left (f x) (flat_map f xs) 0 j (omega arith))
read_line f long (x ∷ xs) (suc i) j d there within =
    let first = long x in
    let next : length (f x) + (LINE * i + j) ≡ LINE * suc i + j = omega arith in
    subst (λ n. get_or (f x ++ flat_map f xs) n 0 ≡ get_or (f (get_or xs i d)) j 0) next
    (get_or-append-add (f x) (flat_map f xs) (LINE * i + j) 0
    ∙ read_line f long xs i j d (omega (arith, there)) within)

-- a word is written where the element's line is written
pub write_line : {X : Type 0} (f : X → List ℕ) → AreLines f → (xs : List X) (i j n : ℕ) (d y : X)
    → i < length xs → j < LINE → f y ≡ set (f (get_or xs i d)) j n
    → flat_map f (set xs i y) ≡ set (flat_map f xs) (LINE * i + j) n
write_line f long [] i j n d y there within is = absurd (omega (arith, there))
write_line f long (x ∷ xs) zero j n d y there within is =
    let first = long x in
    let start : j ≡ LINE * 0 + j = omega arith in
    ap (λ line. line ++ flat_map f xs) is
    ∙ sym (set-append_left (f x) (flat_map f xs) j n (omega arith))
    ∙ ap (λ k. set (f x ++ flat_map f xs) k n) start
write_line f long (x ∷ xs) (suc i) j n d y there within is =
    let less : LINE * suc i + j - LINE ≡ LINE * i + j = omega arith in
    ap (λ words. f x ++ words)
    (write_line f long xs i j n d y (omega (arith, there)) within is)
    ∙ sym (set-append_right (f x) (flat_map f xs) LINE (LINE * suc i + j) n (long x) (omega arith)
    ∙ ap (λ k. f x ++ set (flat_map f xs) k n) less)

-- lines of zeros are a row of zeros
pub zero_lines : {X : Type 0} (f : X → List ℕ) (x : X) → f x ≡ replicate LINE 0 → (n : ℕ)
    → flat_map f (replicate n x) ≡ replicate (LINE * n) 0
zero_lines f x is zero = refl
zero_lines f x is (suc n) =
    let more : LINE + LINE * n ≡ LINE * suc n = omega arith in
    ap (λ line. line ++ flat_map f (replicate n x)) is
    ∙ ap (λ words. replicate LINE 0 ++ words) (zero_lines f x is n)
    ∙ replicate-append-replicate LINE (LINE * n) 0
    ∙ ap (λ k. replicate k 0) more

-- the pairs after a write in the first list
pub zip-set_first : (xs ys : List ℕ) (i n : ℕ)
    → zip (set xs i n) ys ≡ set (zip xs ys) i (n, get_or ys i 0)
zip-set_first [] ys i n = refl
zip-set_first (x ∷ xs) [] zero n = refl
zip-set_first (x ∷ xs) [] (suc i) n = refl
zip-set_first (x ∷ xs) (y ∷ ys) zero n = refl
zip-set_first (x ∷ xs) (y ∷ ys) (suc i) n =
    ap (λ rest. (x, y) ∷ rest) (zip-set_first xs ys i n)

-- and in the second
pub zip-set_second : (xs ys : List ℕ) (i n : ℕ)
    → zip xs (set ys i n) ≡ set (zip xs ys) i (get_or xs i 0, n)
zip-set_second [] ys i n = refl
zip-set_second (x ∷ xs) [] i n = refl
zip-set_second (x ∷ xs) (y ∷ ys) zero n = refl
zip-set_second (x ∷ xs) (y ∷ ys) (suc i) n =
    ap (λ rest. (x, y) ∷ rest) (zip-set_second xs ys i n)

-- the pairs of two rows
pub zip-replicate : (n x y : ℕ) → zip (replicate n x) (replicate n y) ≡ replicate n (x, y)
zip-replicate zero x y = refl
zip-replicate (suc n) x y = ap (λ rest. (x, y) ∷ rest) (zip-replicate n x y)
