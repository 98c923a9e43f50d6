-- Facts on lists: what is true of each element, and lists of which one is a past of the other.
use Rattle.std.proofs.Common.{[], ◌≡◌, ◌≢◌, ◌⊎◌, inl, inr, ⊎_elim, ℕ, zero, suc, ◌≤◌}
use Rattle.std.proofs.Common.{List, ◌∷◌, ◌++◌, length, map, set, refl, sym}
use mathlib.Core.Option.{some, some-injective, some-ne-none}
use lib.ListN.{get_elem?}
use Rattle.std.proofs.Common.{ap, subst, ◌∙◌, arith, append_assoc, append-nil, length-append}
use Rattle.std.specs.List.{AllByRecursion}
use Rattle.histories.specs.History.{IsPast}

module _ {A : Type 0} where
  -- ---- what is true of each element

  -- what is true of each element of two lists is true of each of the two after one another
  pub all_append : (P : A → Type 0) (xs ys : List A) → AllByRecursion P xs → AllByRecursion P ys →
      AllByRecursion P (xs ++ ys)
  all_append P [] ys all more = more
  all_append P (x ∷ xs) ys all more = (all.0, all_append P xs ys all.1 more)

  -- it is true of each element of the past
  pub all_past : (P : A → Type 0) (xs ys : List A) → AllByRecursion P (xs ++ ys) →
      AllByRecursion P ys
  all_past P [] ys all = all
  all_past P (x ∷ xs) ys all = all_past P xs ys all.1

  -- and of what came since
  pub all_since : (P : A → Type 0) (xs ys : List A) → AllByRecursion P (xs ++ ys) →
      AllByRecursion P xs
  all_since P [] ys all = tt
  all_since P (x ∷ xs) ys all = (all.0, all_since P xs ys all.1)

  -- what follows from a thing that is true of each element is true of each
  pub all_weaker : (P Q : A → Type 0) → ((x : A) → P x → Q x) → (xs : List A) →
      AllByRecursion P xs → AllByRecursion Q xs
  all_weaker P Q weaker [] all = tt
  all_weaker P Q weaker (x ∷ xs) all = (weaker x all.0, all_weaker P Q weaker xs all.1)

  -- what follows from two things that are true of each element is true of each
  pub all_both : (P Q R : A → Type 0) → ((x : A) → P x → Q x → R x) → (xs : List A) →
      AllByRecursion P xs → AllByRecursion Q xs → AllByRecursion R xs
  all_both P Q R both [] all also = tt
  all_both P Q R both (x ∷ xs) all also = (both x all.0 also.0, all_both P Q R both xs all.1 also.1)

  -- what is true of each element's image is true of each element of the list of images
  pub all_map : {B : Type 0} (P : B → Type 0) (f : A → B) (xs : List A) →
      AllByRecursion (λ x. P (f x)) xs → AllByRecursion P (map f xs)
  all_map P f [] all = tt
  all_map P f (x ∷ xs) all = (all.0, all_map P f xs all.1)

  -- one element fewer
  pub all_without : (P : A → Type 0) (front back : List A) (x : A) →
      AllByRecursion P (front ++ x ∷ back) → AllByRecursion P (front ++ back)
  all_without P [] back x all = all.1
  all_without P (y ∷ front) back x all = (all.0, all_without P front back x all.1)

  -- ---- pasts

  -- each history is a past of itself
  pub past_refl : (xs : List A) → IsPast xs xs
  past_refl xs = record { since = []; new_is = refl }

  -- the empty history is a past of each
  pub past_nil : (xs : List A) → IsPast [] xs
  past_nil xs = record { since = xs; new_is = sym (append-nil xs) }

  -- more may come after
  pub past_append : (old new more : List A) → IsPast old new → IsPast old (more ++ new)
  past_append old new more past =
      record {
        since = more ++ past.since;
        new_is = ap (λ (xs : List A). more ++ xs) past.new_is
            ∙ sym (append_assoc more past.since old);
      }

  -- a past stays one when the history gets an entry more
  pub past_cons : (old new : List A) (x : A) → IsPast old new → IsPast old (x ∷ new)
  past_cons old new x past = past_append old new (x ∷ []) past

  -- a past of a past is a past
  pub past_trans : (xs ys zs : List A) → IsPast xs ys → IsPast ys zs → IsPast xs zs
  past_trans xs ys zs first second =
      let longer = past_append xs ys second.since first in
      record { since = longer.since; new_is = second.new_is ∙ longer.new_is }

  shorter_since : (xs ys s t : List A) → s ++ xs ≡ t ++ ys → length xs ≤ length ys → IsPast xs ys
  shorter_since xs ys s [] e shorter = record { since = s; new_is = sym e }
  shorter_since xs ys [] (y ∷ t) e shorter =
      absurd (omega (arith, simp length-append at (ap length e)))
  shorter_since xs ys (x ∷ s) (y ∷ t) e shorter =
      let tails : s ++ xs ≡ t ++ ys = cc in shorter_since xs ys s t tails shorter

  -- two pasts of one list are in line: the shorter is a past of the longer
  pub past_shorter : (xs ys zs : List A) → IsPast xs zs → IsPast ys zs → length xs ≤ length ys →
      IsPast xs ys
  past_shorter xs ys zs first second shorter =
      shorter_since xs ys first.since second.since (sym first.new_is ∙ second.new_is) shorter

  -- what is true of each element of the whole is true of each of a past
  pub past_all : (P : A → Type 0) (old new : List A) → IsPast old new → AllByRecursion P new →
      AllByRecursion P old
  past_all P old new past all =
      all_past P past.since old (subst (AllByRecursion P) past.new_is all)

  -- where a list with another in front is as it was, the other is empty
  pub nothing_before : (xs ys : List A) → xs ++ ys ≡ ys → xs ≡ []
  nothing_before [] ys e = refl
  nothing_before (x ∷ xs) ys e = absurd (omega (arith, simp length-append at (ap length e)))

  -- ---- a list read by its places

  -- what stands in a list of which one element was replaced
  pub at_set : (l : List A) (i j : ℕ) (a b : A) → get_elem? (set l i a) j ≡ some b →
      ((j ≡ i) × (a ≡ b)) ⊎ ((j ≢ i) × (get_elem? l j ≡ some b))
  at_set [] i j a b e = absurd (some-ne-none b (sym e))
  at_set (x ∷ xs) zero zero a b e = inl (refl, some-injective a b e)
  at_set (x ∷ xs) zero (suc j) a b e = inr ((λ h. omega arith), e)
  at_set (x ∷ xs) (suc i) zero a b e = inr ((λ h. omega arith), e)
  at_set (x ∷ xs) (suc i) (suc j) a b e =
      ⊎_elim (λ t. inl (ap suc t.0, t.1)) (λ t. inr ((λ h. t.0 (let n = h in omega arith)), t.1))
      (at_set xs i j a b e)

  -- a place that the list has holds what was set there
  pub set_here : (l : List A) (i : ℕ) (a b : A) → get_elem? l i ≡ some b →
      get_elem? (set l i a) i ≡ some a
  set_here [] i a b e = absurd (some-ne-none b (sym e))
  set_here (x ∷ xs) zero a b e = refl
  set_here (x ∷ xs) (suc i) a b e = set_here xs i a b e

  -- setting one place leaves each other place as it was
  pub set_else : (l : List A) (i j : ℕ) (a : A) → j ≢ i → get_elem? (set l i a) j ≡ get_elem? l j
  set_else [] i j a n = refl
  set_else (x ∷ xs) zero zero a n = absurd (n refl)
  set_else (x ∷ xs) zero (suc j) a n = refl
  set_else (x ∷ xs) (suc i) zero a n = refl
  set_else (x ∷ xs) (suc i) (suc j) a n = set_else xs i j a (λ e. n (ap suc e))

  -- an element of a list with one more is an old one, or the last
  pub at_end : (l : List A) (a b : A) (j : ℕ) → get_elem? (l ++ a ∷ []) j ≡ some b →
      (get_elem? l j ≡ some b) ⊎ ((a ≡ b) × (j ≡ length l))
  at_end [] a b zero e = inr (some-injective a b e, refl)
  at_end [] a b (suc j) e = absurd (some-ne-none b (sym e))
  at_end (x ∷ xs) a b zero e = inl e
  at_end (x ∷ xs) a b (suc j) e =
      ⊎_elim (λ h. inl h) (λ h. inr (h.0, ap suc h.1)) (at_end xs a b j e)

  -- what stands at a place still does when the list is made longer after
  pub at_longer : (l more : List A) (i : ℕ) (a : A) → get_elem? l i ≡ some a →
      get_elem? (l ++ more) i ≡ some a
  at_longer [] more i a e = absurd (some-ne-none a (sym e))
  at_longer (x ∷ xs) more zero a e = e
  at_longer (x ∷ xs) more (suc i) a e = at_longer xs more i a e

  -- two elements at one place are one
  pub at_once : (l : List A) (i : ℕ) (a b : A) → get_elem? l i ≡ some a → get_elem? l i ≡ some b →
      a ≡ b
  at_once l i a b e f = some-injective a b (sym e ∙ f)

  -- what is true of each element, with its place, where one was replaced
  pub each_set : (P : ℕ → A → Type 0) (l : List A) (i : ℕ) (a : A) → P i a →
      ((j : ℕ) (b : A) → j ≢ i → get_elem? l j ≡ some b → P j b) →
      (j : ℕ) (b : A) → get_elem? (set l i a) j ≡ some b → P j b
  each_set P l i a here others j b at =
      ⊎_elim
      (λ same. subst (λ (c : A). P j c) same.1 (subst (λ (k : ℕ). P k a) (sym same.0) here))
      (λ other. others j b other.0 other.1) (at_set l i j a b at)

  -- and where one came to the end
  pub each_end : (P : ℕ → A → Type 0) (l : List A) (a : A) → P (length l) a →
      ((j : ℕ) (b : A) → get_elem? l j ≡ some b → P j b) →
      (j : ℕ) (b : A) → get_elem? (l ++ a ∷ []) j ≡ some b → P j b
  each_end P l a last others j b at =
      ⊎_elim (λ old. others j b old)
      (λ end. subst (λ (c : A). P j c) end.0 (subst (λ (k : ℕ). P k a) (sym end.1) last))
      (at_end l a b j at)
