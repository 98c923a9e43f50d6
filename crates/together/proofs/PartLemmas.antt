-- How a list is worked off: one goes over from its front to its back, or from its back to its
-- front.
use Rattle.std.proofs.Common.{◌≡◌, List, [], ◌∷◌, ◌++◌, reverse, refl, sym, ap, ◌∙◌}
use Rattle.std.proofs.Common.{append_assoc, subst}
use Rattle.std.proofs.lemmas.List.{append-nil, reverse-append}
use Rattle.std.specs.List.{AllZip}
use Rattle.together.specs.Parts.{Parts}

-- one more pair at the end
pub zip_push : {A B : Type 0} (R : A → B → Type 0) (xs : List A) (ys : List B) (x : A) (y : B)
    → AllZip R xs ys → R x y → AllZip R (xs ++ x ∷ []) (ys ++ y ∷ [])
zip_push R [] [] x y zipped fits = (fits, tt)
zip_push R [] (z ∷ ys) x y zipped fits = absurd zipped
zip_push R (w ∷ xs) [] x y zipped fits = absurd zipped
zip_push R (w ∷ xs) (z ∷ ys) x y zipped fits = (zipped.0, zip_push R xs ys x y zipped.1 fits)

-- the last pair, and those before it
pub record Popped {A B : Type 0} (R : A → B → Type 0) (xs : List A) (ys : List B) (y : B)
    : Type 0 where
  pub rest : List A
  pub last : A
  pub is : xs ≡ rest ++ last ∷ []
  pub zipped : AllZip R rest ys
  pub fits : R last y

-- the last pair of two lists is taken off
pub zip_pop : {A B : Type 0} (R : A → B → Type 0) (xs : List A) (ys : List B) (y : B)
    → AllZip R xs (ys ++ y ∷ []) → Popped R xs ys y
zip_pop R [] [] y zipped = absurd zipped
zip_pop R [] (z ∷ ys) y zipped = absurd zipped
zip_pop R (x ∷ []) [] y zipped =
    record { rest = []; last = x; is = refl; zipped = tt; fits = zipped.0 }
zip_pop R (x ∷ w ∷ xs) [] y zipped = absurd zipped.1
zip_pop R (x ∷ xs) (z ∷ ys) y zipped =
    let popped = zip_pop R xs ys y zipped.1 in
    record {
      rest = x ∷ popped.rest;
      last = popped.last;
      is = ap (λ l. x ∷ l) popped.is;
      zipped = (zipped.0, popped.zipped);
      fits = popped.fits;
    }

-- each thing of a list with itself
pub zip_same : {A : Type 0} (R : A → A → Type 0) → ((x : A) → R x x) → (xs : List A)
    → AllZip R xs xs
zip_same R same [] = tt
zip_same R same (x ∷ xs) = (same x, zip_same R same xs)

-- beside nothing there is nothing
pub zip_none : {A B : Type 0} (R : A → B → Type 0) (xs : List A) → AllZip R xs [] → xs ≡ []
zip_none R [] zipped = refl
zip_none R (x ∷ xs) zipped = absurd zipped

-- one goes over from the end of the front to the end of the back
regroup : {A : Type 0} (front : List A) (x : A) (back : List A)
    → (front ++ x ∷ []) ++ reverse back ≡ front ++ reverse (back ++ x ∷ [])
regroup front x back =
    append_assoc front (x ∷ []) (reverse back)
    ∙ ap (λ l. front ++ l) (sym (reverse-append back (x ∷ [])))

-- nothing stands yet for any thing
pub parts_begin : {W X H : Type 0} (Comes : W → X → Type 0) (Stands : W → H → Type 0)
    (all : List W) (come : List X) → AllZip Comes all come → Parts Comes Stands all come []
parts_begin Comes Stands all come zipped =
    record {
      front = all;
      back = [];
      whole = sym (append-nil all);
      comes = zipped;
      stands = tt;
    }

-- nothing stands any more
pub parts_end : {W X H : Type 0} (Comes : W → X → Type 0) (Stands : W → H → Type 0)
    (all : List W) (come : List X) → Parts Comes Stands all come [] → AllZip Comes all come
parts_end Comes Stands all come parts =
    let none = zip_none Stands parts.back parts.stands in
    let whole : all ≡ parts.front =
    parts.whole ∙ ap (λ l. parts.front ++ reverse l) none ∙ append-nil parts.front in
    subst (λ l. AllZip Comes l come) (sym whole) parts.comes

-- the last of the front, for which something stands now
pub parts_stand : {W X H : Type 0} (Comes : W → X → Type 0) (Stands : W → H → Type 0)
    (all : List W) (come : List X) (standing : List H) (x : X) (h : H)
    → Parts Comes Stands all (come ++ x ∷ []) standing → ((w : W) → Comes w x → Stands w h)
    → Parts Comes Stands all come (standing ++ h ∷ [])
parts_stand Comes Stands all come standing x h parts stands =
    let popped = zip_pop Comes parts.front come x parts.comes in
    record {
      front = popped.rest;
      back = parts.back ++ popped.last ∷ [];
      whole = parts.whole ∙ ap (λ l. l ++ reverse parts.back) popped.is
          ∙ regroup popped.rest popped.last parts.back;
      comes = popped.zipped;
      stands = zip_push Stands parts.back standing popped.last h parts.stands
          (stands popped.last popped.fits);
    }

-- what stood last has come to something
pub parts_come : {W X H : Type 0} (Comes : W → X → Type 0) (Stands : W → H → Type 0)
    (all : List W) (come : List X) (standing : List H) (x : X) (h : H)
    → Parts Comes Stands all come (standing ++ h ∷ []) → ((w : W) → Stands w h → Comes w x)
    → Parts Comes Stands all (come ++ x ∷ []) standing
parts_come Comes Stands all come standing x h parts comes =
    let popped = zip_pop Stands parts.back standing h parts.stands in
    record {
      front = parts.front ++ popped.last ∷ [];
      back = popped.rest;
      whole = parts.whole ∙ ap (λ l. parts.front ++ reverse l) popped.is
          ∙ sym (regroup parts.front popped.last popped.rest);
      comes = zip_push Comes parts.front come popped.last x parts.comes
          (comes popped.last popped.fits);
      stands = popped.zipped;
    }

-- each pair fits in another way too
pub zip_map : {A B : Type 0} (R S : A → B → Type 0) → ((x : A) (y : B) → R x y → S x y)
    → (xs : List A) (ys : List B) → AllZip R xs ys → AllZip S xs ys
zip_map R S fits [] [] zipped = tt
zip_map R S fits [] (y ∷ ys) zipped = absurd zipped
zip_map R S fits (x ∷ xs) [] zipped = absurd zipped
zip_map R S fits (x ∷ xs) (y ∷ ys) zipped =
    (fits x y zipped.0, zip_map R S fits xs ys zipped.1)

-- the last one has come in another way, and the others may have too
pub parts_left : {W X H : Type 0} (Comes Others : W → X → Type 0) (Stands : W → H → Type 0)
    (all : List W) (come : List X) (standing : List H) (x y : X)
    → Parts Comes Stands all (come ++ x ∷ []) standing
    → ((w : W) (z : X) → Comes w z → Others w z) → ((w : W) → Comes w x → Others w y)
    → Parts Others Stands all (come ++ y ∷ []) standing
parts_left Comes Others Stands all come standing x y parts others last =
    let popped = zip_pop Comes parts.front come x parts.comes in
    record {
      front = popped.rest ++ popped.last ∷ [];
      back = parts.back;
      whole = parts.whole ∙ ap (λ l. l ++ reverse parts.back) popped.is;
      comes = zip_push Others popped.rest come popped.last y
          (zip_map Comes Others others popped.rest come popped.zipped)
          (last popped.last popped.fits);
      stands = parts.stands;
    }

-- where nothing has come yet, anything may come
pub parts_turn : {W X Y H : Type 0} (Comes : W → X → Type 0) (Others : W → Y → Type 0)
    (Stands : W → H → Type 0) (all : List W) (standing : List H)
    → Parts Comes Stands all [] standing → Parts Others Stands all [] standing
parts_turn Comes Others Stands all standing parts =
    let none = zip_none Comes parts.front parts.comes in
    record {
      front = [];
      back = parts.back;
      whole = parts.whole ∙ ap (λ l. l ++ reverse parts.back) none;
      comes = tt;
      stands = parts.stands;
    }
