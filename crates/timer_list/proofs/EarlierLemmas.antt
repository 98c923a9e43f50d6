-- The earlier of two timers: its laws, and what is earlier than all.
use Rattle.std.proofs.Common.{◌≡◌, ℕ, zero, suc, ◌<◌, true, false, List, [], ◌∷◌, Option, None}
use Rattle.std.proofs.Common.{Some, length, get_or, refl, sym, ap, ◌∙◌, arith}
use Rattle.std.proofs.lemmas.Bool.Decides.{nat_tests}
use Rattle.timer_list.specs.declared.due.Due.{Due}
use Rattle.timer_list.specs.Due.{is_before, earlier_of, earliest}

-- timers of one deadline and one seat are one
same_due : (one other : Due) → one.deadline ≡ other.deadline → one.seat ≡ other.seat → one ≡ other
same_due one other deadline seat = λ k. record { deadline = deadline k; seat = seat k }

-- of two timers one is before the other, or they are one
before_one_way : (one other : Due) → is_before one other ≡ true → is_before other one ≡ false
before_one_way one other before = grind (arith, nat_tests)

before_else_same : (one other : Due) → is_before one other ≡ false → is_before other one ≡ false →
    one ≡ other
before_else_same one other before after =
    same_due one other (grind (arith, nat_tests)) (grind (arith, nat_tests))

before_along : (a b c : Due) → is_before a b ≡ false → is_before b c ≡ false → is_before a c ≡ false
before_along a b c first second = grind (arith, nat_tests)

before_trans : (a b c : Due) → is_before a b ≡ true → is_before b c ≡ true → is_before a c ≡ true
before_trans a b c first second = grind (arith, nat_tests)

-- which of two moments is the earlier does not depend on their order
pub earlier-comm : (a b : Option Due) → earlier_of a b ≡ earlier_of b a
earlier-comm None None = refl
earlier-comm None (Some b) = refl
earlier-comm (Some a) None = refl
earlier-comm (Some a) (Some b) =
    grind (arith, before_one_way a b, before_one_way b a, before_else_same a b)

-- the earlier of a moment and itself is that moment
pub earlier-idem : (a : Option Due) → earlier_of a a ≡ a
earlier-idem None = refl
earlier-idem (Some a) = grind (arith, nat_tests)

-- the earliest of three moments is the same, whichever two are compared first
pub earlier-assoc : (a b c : Option Due) → earlier_of (earlier_of a b) c ≡
    earlier_of a (earlier_of b c)
earlier-assoc None b c = refl
earlier-assoc (Some a) None c = refl
earlier-assoc (Some a) (Some b) None =
    earlier-comm (earlier_of (Some a) (Some b)) None
earlier-assoc (Some a) (Some b) (Some c) = grind (
  arith,
  before_along c b a,
  before_trans c b a,
  before_one_way a b,
  before_one_way b a,
  before_one_way b c,
  before_one_way c b,
)

-- nothing of the second kind expires before the first
abbrev pub IsFirst : Option Due → Option Due → Type 0
IsFirst first other = earlier_of first other ≡ first

-- what is no later than a second moment, and that no later than a third, is no later than the third
pub first-trans : (a b c : Option Due) → IsFirst a b → IsFirst b c → IsFirst a c
first-trans a b c ab bc = ap (λ x. earlier_of x c) (sym ab) ∙
    (earlier-assoc a b c ∙ (ap (earlier_of a) bc ∙ ab))

-- two moments of which neither is later than the other are the same
pub first-antisym : (a b : Option Due) → IsFirst a b → IsFirst b a → a ≡ b
first-antisym a b ab ba = sym ab ∙ (earlier-comm a b ∙ ba)

-- the earlier of two is no later than the one
pub first-left : (a b : Option Due) → IsFirst (earlier_of a b) a
first-left a b = earlier-comm (earlier_of a b) a ∙
    (sym (earlier-assoc a a b) ∙ ap (λ x. earlier_of x b) (earlier-idem a))

-- the earlier of two is no later than the other
pub first-right : (a b : Option Due) → IsFirst (earlier_of a b) b
first-right a b = earlier-assoc a b b ∙ ap (earlier_of a) (earlier-idem b)

-- what is no later than either of two is no later than the earlier of them
pub first-both : (x a b : Option Due) → IsFirst x a → IsFirst x b → IsFirst x (earlier_of a b)
first-both x a b xa xb = sym (earlier-assoc x a b) ∙ (ap (λ y. earlier_of y b) xa ∙ xb)

-- the earliest of a list is before each, and what is before each is before it
pub earliest-first : (dues : List (Option Due)) (i : ℕ) →
    IsFirst (earliest dues) (get_or dues i None)
earliest-first [] i = refl
earliest-first (due ∷ dues) zero = first-left due (earliest dues)
earliest-first (due ∷ dues) (suc i) =
    first-trans _ (earliest dues) _ (first-right due (earliest dues)) (earliest-first dues i)

-- what is no later than each of a list is no later than its earliest
pub earliest-last : (dues : List (Option Due)) (x : Option Due) →
    ((i : ℕ) → i < length dues → IsFirst x (get_or dues i None)) → IsFirst x (earliest dues)
earliest-last [] x each = earlier-comm x None
earliest-last (due ∷ dues) x each =
    first-both x due (earliest dues) (each 0 (omega arith))
    (earliest-last dues x (λ i h. each (suc i) (omega arith)))
