-- Lists of seats that join and leave.
use Rattle.std.proofs.Common.{[], ◌≡◌, ◌⊎◌, inl, inr, ℕ, suc, ◌+◌, ◌<◌, ◌≤◌, Bool, true, false}
use Rattle.std.proofs.Common.{List, ◌∷◌, ◌++◌, length, cond, eqb, get_or, take, drop, refl, sym}
use Rattle.std.proofs.Common.{ap, ◌∙◌, ◌||◌, nat_lt, arith}
use Rattle.std.proofs.Common.{Option, None, Some}
use Rattle.std.specs.Prelude.{⊤, Result, Ok, Err, OnErr}
use Rattle.std.specs.List.{AllByRecursion, remove}
use Rattle.std.specs.Option.{IsSome, OnSome}
use Rattle.std.proofs.lemmas.Bool.Decides.{nat_tests}
use Rattle.std.proofs.lemmas.List.{at_drop_more}
use Rattle.messages.specs.declared.line.OpenSeat.{OpenSeat}
use Rattle.messages.specs.Lines.{Waiters, stands_in, without, first_served, served, in_line}
use Rattle.messages.specs.Lines.{joined, closed, place_of, seats_of}

some_same : (a b : ℕ) → Some a ≡ Some b → a ≡ b
some_same a b is = cc

-- ---- a search

-- and when it was found
pub found_there : (xs : List ℕ) (i seat d : ℕ) → i < length xs → eqb (get_or xs i d) seat ≡ true
    → without seat xs ≡ take i xs ++ without seat (drop i xs)
    → remove xs i ≡ without seat xs
found_there xs i seat d within same held =
    let here = get_or xs i d in
    let rest = drop (i + 1) xs in
    let found : without seat (drop i xs) ≡ rest =
    at_drop_more (without seat) xs i d within
    ∙ ap (λ b. cond b rest (here ∷ without seat rest)) same in
    let next : suc i ≡ i + 1 = omega arith in
    ap (λ n. take i xs ++ drop n xs) next
    ∙ sym (held ∙ ap (λ (l : List ℕ). take i xs ++ l) found)

-- ---- a list that a seat leaves

-- it is one shorter if the seat was there
pub length_without : (xs : List ℕ) (seat : ℕ) → stands_in xs seat ≡ true →
    length (without seat xs) + 1 ≡ length xs
length_without [] seat is = cc
length_without (x ∷ xs) seat is = grind (arith, nat_tests, length_without xs seat)

-- and as it was if the seat was not there
pub not_there : (xs : List ℕ) (seat : ℕ) → stands_in xs seat ≡ false → without seat xs ≡ xs
not_there [] seat gone = refl
not_there (x ∷ xs) seat gone = grind (arith, nat_tests, not_there xs seat)

-- it is never longer than it was
pub length_most : (xs : List ℕ) (seat : ℕ) → length (without seat xs) ≤ length xs
length_most [] seat = omega arith
length_most (x ∷ xs) seat = grind (arith, nat_tests, length_most xs seat)

-- who is in it was in it before
pub stood_before : (xs : List ℕ) (seat other : ℕ) → stands_in (without seat xs) other ≡ true
    → stands_in xs other ≡ true
stood_before [] seat other is = is
stood_before (x ∷ xs) seat other is = grind (arith, nat_tests, stood_before xs seat other)

-- each seat in it is below the bound as before
pub all_without : (bound : ℕ) (xs : List ℕ) (seat : ℕ) → AllByRecursion (λ s. s < bound) xs
    → AllByRecursion (λ s. s < bound) (without seat xs)
all_without bound [] seat are = tt
all_without bound (x ∷ xs) seat are =
    grind (arith, nat_tests, are.0, are.1, all_without bound xs seat are.1)

-- ---- a list that a seat joins

-- it is one longer than it was
pub length_join : {X : Type 0} (xs : List X) (x : X) → length (xs ++ x ∷ []) ≡ length xs + 1
length_join [] x = refl
length_join (y ∷ xs) x = omega (arith, length_join xs x)

-- each seat in it is below the bound
pub all_join : (bound : ℕ) (xs : List ℕ) (seat : ℕ) → AllByRecursion (λ s. s < bound) xs
    → seat < bound → AllByRecursion (λ s. s < bound) (xs ++ seat ∷ [])
all_join bound [] seat are within = (within, tt)
all_join bound (x ∷ xs) seat are within = (are.0, all_join bound xs seat are.1 within)

-- who is in it was in it before, or joined it
pub stood_or_joined : (xs : List ℕ) (seat other : ℕ) → stands_in (xs ++ seat ∷ []) other ≡ true
    → (stands_in xs other ≡ true) ⊎ (seat ≡ other)
stood_or_joined [] seat other is = inr (grind (arith, nat_tests))
stood_or_joined (x ∷ xs) seat other is =
    by (eqb x other) refl (stood_or_joined xs seat other)
  where
    later : eqb x other ≡ false → (stands_in xs other ≡ true) ⊎ (seat ≡ other)
        → (stands_in (x ∷ xs) other ≡ true) ⊎ (seat ≡ other)
    later apart (inl there) = inl (grind (arith, nat_tests))
    later apart (inr joined) = inr joined

    by : (b : Bool) → eqb x other ≡ b
        → (stands_in (xs ++ seat ∷ []) other ≡ true
        → (stands_in xs other ≡ true) ⊎ (seat ≡ other))
        → (stands_in (x ∷ xs) other ≡ true) ⊎ (seat ≡ other)
    by true here further = inl (grind (arith, nat_tests))
    by false apart further = later apart (further (grind (arith, nat_tests)))

-- ---- the open seats

-- the grant to the first in line opens and closes nothing
pub served_opened : (line : Waiters) → (served line).opened ≡ line.opened
served_opened line = by line.waiting
  where
    by : (xs : List ℕ) → (first_served line xs).opened ≡ line.opened
    by [] = refl
    by (x ∷ xs) = refl

-- nor does who joins the line
pub in_line_opened : (place : ℕ) (line : Waiters) → (in_line place line).opened ≡ line.opened
in_line_opened place line = by (stands_in line.waiting place)
  where
    by : (there : Bool) → (cond there line (joined place line)).opened ≡ line.opened
    by true = refl
    by false = refl

-- what holds of each of them holds when one more opens
pub all_opened : (P : OpenSeat → Type 0) (xs : List OpenSeat) (one : OpenSeat)
    → AllByRecursion P xs → P one → AllByRecursion P (xs ++ one ∷ [])
all_opened P [] one are is = (is, tt)
all_opened P (x ∷ xs) one are is = (are.0, all_opened P xs one are.1 is)

-- the seats of a list that one more joins
pub seats_join : (xs : List OpenSeat) (one : OpenSeat)
    → seats_of (xs ++ one ∷ []) ≡ seats_of xs ++ one.seat ∷ []
seats_join [] one = refl
seats_join (x ∷ xs) one = ap (λ (l : List ℕ). x.seat ∷ l) (seats_join xs one)

-- there are as many seats as there are of these
pub seats_length : (xs : List OpenSeat) → length (seats_of xs) ≡ length xs
seats_length [] = refl
seats_length (x ∷ xs) = omega (arith, seats_length xs)

-- what a close finds: the place of an open seat, and one open seat fewer
pub record HasLeft (P : OpenSeat → Type 0) (xs : List OpenSeat) (seat : ℕ) (o : Option ℕ)
    (left : List OpenSeat) : Type 0 where
  -- where the seat is open there is one fewer, and a place that some open seat has
  pub was : (place : ℕ) → o ≡ Some place → (length left + 1 ≡ length xs)
      × ((one : OpenSeat) × ((P one) × (one.place ≡ place)))
  -- else there are as many as before
  pub was_not : o ≡ None → length left ≡ length xs
  -- of each that is left holds what held
  pub all : AllByRecursion P left
  -- and the seats are those that were there, without this one
  pub seats : seats_of left ≡ without seat (seats_of xs)

-- a close finds this in every list of open seats
pub leaves : (P : OpenSeat → Type 0) (xs : List OpenSeat) (seat : ℕ) → AllByRecursion P xs
    → HasLeft P xs seat (place_of seat xs) (closed seat xs)
leaves P [] seat are =
    record { was = λ place is. cc; was_not = λ is. refl; all = tt; seats = refl }
leaves P (x ∷ xs) seat are = by (eqb x.seat seat) refl (leaves P xs seat are.1)
  where
    by : (b : Bool) → eqb x.seat seat ≡ b
        → HasLeft P xs seat (place_of seat xs) (closed seat xs)
        → HasLeft P (x ∷ xs) seat (cond b (Some x.place) (place_of seat xs))
        (cond b xs (x ∷ closed seat xs))
    by true is later = record {
      was = λ place same. (omega arith, (x, (are.0, some_same x.place place same)));
      was_not = λ not. cc;
      all = are.1;
      seats = sym (ap (λ b. cond b (seats_of xs) (x.seat ∷ without seat (seats_of xs))) is);
    }
    by false is later = record {
      was = λ place same. let then = later.was place same in
          let one = then.0 in (omega (arith, one), then.1);
      was_not = λ not. let same = later.was_not not in omega (arith, same);
      all = (are.0, later.all);
      seats = ap (λ (l : List ℕ). x.seat ∷ l) later.seats
          ∙ sym (ap (λ b. cond b (seats_of xs) (x.seat ∷ without seat (seats_of xs))) is);
    }

any_seats : (xs : List OpenSeat) → AllByRecursion (λ one. ⊤) xs
any_seats [] = tt
any_seats (x ∷ xs) = (tt, any_seats xs)

-- one fewer is open where the seat was, and else as many as before
pub length_closed : (xs : List OpenSeat) (seat place : ℕ) → place_of seat xs ≡ Some place
    → length (closed seat xs) + 1 ≡ length xs
length_closed xs seat place is = ((leaves (λ one. ⊤) xs seat (any_seats xs)).was place is).0

-- a seat that is not open takes none away
pub length_not_open : (xs : List OpenSeat) (seat : ℕ) → place_of seat xs ≡ None
    → length (closed seat xs) ≡ length xs
length_not_open xs seat is = (leaves (λ one. ⊤) xs seat (any_seats xs)).was_not is

-- ---- cases

-- what holds in any case holds of a refusal
pub on_err : {A E P : Type 0} (r : Result A E) → P → OnErr r P
on_err (Ok a) p = tt
on_err (Err e) p = p

-- what holds where there is a value, of a value
pub where_some : {A P : Type 0} (o : Option A) → IsSome o → OnSome o P → P
where_some None none on = cc
where_some (Some x) some on = on

-- ---- room

-- there is room for one more, where a place is free or the seat has one
pub room_for_one : (values capacity seat : ℕ) (granted : List ℕ)
    → (nat_lt (values + length granted) capacity || stands_in granted seat) ≡ true
    → values + length granted ≤ capacity
    → values + 1 + length (without seat granted) ≤ capacity
room_for_one values capacity seat granted may fits =
    by (stands_in granted seat) refl may
  where
    by : (has : Bool) → stands_in granted seat ≡ has
        → (nat_lt (values + length granted) capacity || has) ≡ true
        → values + 1 + length (without seat granted) ≤ capacity
    by true has may = let fewer = length_without granted seat has in omega (arith, fits, fewer)
    by false has may =
        let most = length_most granted seat in
        let less : values + length granted < capacity = grind (arith, nat_tests, may) in
        omega (arith, most, less)
