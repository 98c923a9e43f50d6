-- One place of a list after a write.
use Rattle.std.proofs.Common.{◌≡◌, ◌⊎◌, inl, inr, ℕ, zero, suc, List, [], ◌∷◌, get_or, set, refl}
use Rattle.std.proofs.Common.{ap}

-- a place has what was written to it, or what it had
pub get_or-set_cases : {X : Type 0} (xs : List X) (i : ℕ) (x : X) (j : ℕ) (d : X)
    → ((j ≡ i) × (get_or (set xs i x) j d ≡ x)) ⊎ (get_or (set xs i x) j d ≡ get_or xs j d)
get_or-set_cases [] i x j d = inr refl
get_or-set_cases (y ∷ ys) zero x zero d = inl (refl, refl)
get_or-set_cases (y ∷ ys) zero x (suc j) d = inr refl
get_or-set_cases (y ∷ ys) (suc i) x zero d = inr refl
get_or-set_cases (y ∷ ys) (suc i) x (suc j) d = shifted (get_or-set_cases ys i x j d)
  where
    shifted : ((j ≡ i) × (get_or (set ys i x) j d ≡ x)) ⊎ (get_or (set ys i x) j d ≡ get_or ys j d)
        → ((suc j ≡ suc i) × (get_or (set ys i x) j d ≡ x))
        ⊎ (get_or (set ys i x) j d ≡ get_or ys j d)
    shifted (inl (same, here)) = inl (ap suc same, here)
    shifted (inr there) = inr there
