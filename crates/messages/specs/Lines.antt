-- One side of a queue, its senders or its receivers: who is open, and who waits. After the queues
-- of waiting processes of a Channel in thread(2). Own: what is granted to a process is kept for it,
-- and the open seats, after the handles of a channel of Go or of Rust's std. Each open seat has a
-- place, which names the Rendez in which it waits.
use Rattle.std.specs.Prelude.{ℕ, ◌==◌, Bool, if◌then◌else◌, List, [], ◌∷◌, ◌++◌}
use Rattle.std.specs.Prelude.{Option, None, Some}
use Rattle.std.specs.List.{list_any}
use Rattle.messages.specs.declared.line.OpenSeat.{OpenSeat}

pub record Waiters : Type 0 where
  pub seats : ℕ  -- how many places there are
  pub waiting : List ℕ  -- the places in line, the first to come first
  pub granted : List ℕ  -- the places that were granted what they waited for, and have yet to use it
  pub opened : List OpenSeat  -- the seats that are open on this side, the first to open first

-- ---- the line

-- the place is in this list
abbrev pub stands_in : List ℕ → ℕ → Bool
stands_in places place = list_any (λ other. other == place) places

-- the list without this one
abbrev pub without : ℕ → List ℕ → List ℕ
without place [] = []
without place (other ∷ rest) = if other == place then rest else other ∷ without place rest

abbrev pub first_of : List ℕ → Option ℕ
first_of [] = None
first_of (place ∷ rest) = Some place

-- a place joins the line as the last
abbrev pub joined : ℕ → Waiters → Waiters
joined place line = record line { waiting = line.waiting ++ place ∷ [] }

-- who is in line stays where it is, and any other joins it
abbrev pub in_line : ℕ → Waiters → Waiters
in_line place line = if stands_in line.waiting place then line else joined place line

-- the first in line is granted what it waits for
abbrev pub first_served : Waiters → List ℕ → Waiters
first_served line [] = line
first_served line (place ∷ rest) =
    record line { waiting = rest; granted = line.granted ++ place ∷ [] }

abbrev pub served : Waiters → Waiters
served line = first_served line line.waiting

-- a place waits no more, and has nothing granted
abbrev pub gone : ℕ → Waiters → Waiters
gone place line =
    record line { waiting = without place line.waiting; granted = without place line.granted }

-- ---- the open seats

-- the place of a seat that is open
abbrev pub place_of : ℕ → List OpenSeat → Option ℕ
place_of seat [] = None
place_of seat (one ∷ rest) = if one.seat == seat then Some one.place else place_of seat rest

-- the open seats without this one
abbrev pub closed : ℕ → List OpenSeat → List OpenSeat
closed seat [] = []
closed seat (one ∷ rest) = if one.seat == seat then rest else one ∷ closed seat rest

abbrev pub seats_of : List OpenSeat → List ℕ
seats_of [] = []
seats_of (one ∷ rest) = one.seat ∷ seats_of rest

-- a seat opens at this place, and a seat closes
abbrev pub with_seat : ℕ → ℕ → Waiters → Waiters
with_seat seat place line =
    record line { opened = line.opened ++ record { seat = seat; place = place } ∷ [] }

abbrev pub without_seat : ℕ → Waiters → Waiters
without_seat seat line = record line { opened = closed seat line.opened }
