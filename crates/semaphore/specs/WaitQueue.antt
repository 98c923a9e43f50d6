-- A line of seats, and a ring of links that holds it.
use Rattle.std.specs.Prelude.{◌≡◌, ℕ, zero, suc, ◌+◌, ◌<◌, ◌^◌, ◌==◌, ◌||◌, Bool, false}
use Rattle.std.specs.Prelude.{if◌then◌else◌, List, [], ◌∷◌, ◌++◌, length, count_by, slice_index}
use Rattle.std.specs.Prelude.{slice_index_or, Option, None, Some}

-- how many seats there are, and the seats in line, the first to come first
pub record Queue : Type 0 where
  pub seats : ℕ
  pub order : List ℕ

-- the seat is in this list
abbrev pub stands_in : List ℕ → ℕ → Bool
stands_in [] seat = false
stands_in (other ∷ rest) seat = (other == seat) || stands_in rest seat

-- the line when this seat has left it
abbrev pub without : ℕ → List ℕ → List ℕ
without seat [] = []
without seat (other ∷ rest) = if other == seat then rest else other ∷ without seat rest

-- a seat that is in line keeps its place; any other joins as the last
abbrev pub with_seat : ℕ → List ℕ → List ℕ
with_seat seat seats = if stands_in seats seat then seats else seats ++ seat ∷ []

abbrev pub first_of : List ℕ → Option ℕ
first_of [] = None
first_of (seat ∷ rest) = Some seat

-- this many places along the links, after this place
abbrev pub walk : List ℕ → ℕ → ℕ → List ℕ
walk next from zero = []
walk next from (suc count) = slice_index next from ∷ walk next (slice_index next from) count

-- the links lead from a place along this line to an end, and back
abbrev pub IsLinked : List ℕ → List ℕ → ℕ → List ℕ → ℕ → Type 0
IsLinked next prev from [] end = (slice_index next from ≡ end) × (slice_index prev end ≡ from)
IsLinked next prev from (seat ∷ rest) end =
    (slice_index next from ≡ seat) ×
    ((slice_index prev seat ≡ from) × IsLinked next prev seat rest end)

-- each seat comes once, and is below the bound
abbrev pub AreSeats : ℕ → List ℕ → Type 0
AreSeats seats [] = Unit {0}
AreSeats seats (seat ∷ rest) = (seat < seats) × (stands_in rest seat ≡ false) × AreSeats seats rest

-- the links through the seats and the end hold this line of `count` seats, and `stands` says of
-- each seat whether it is in line
pub record IsRing (next prev : List ℕ) (stands : List Bool) (count : ℕ) (order : List ℕ) : Type 0
  where
    pub few : length stands < 2 ^ 32
    pub next_size : length next ≡ length stands + 1
    pub prev_size : length prev ≡ length stands + 1
    pub many : length order ≡ count
    pub counted : count_by (λ stand. stand) stands ≡ count
    pub seats : AreSeats (length stands) order
    pub linked : IsLinked next prev (length stands) order (length stands)
    pub told : (seat : ℕ) → seat < length stands → slice_index_or stands seat false ≡
        stands_in order seat
