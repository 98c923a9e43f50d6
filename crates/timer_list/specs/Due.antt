-- Own: timers expire in the order of their deadlines, and at one deadline in the order of seats.
use Rattle.std.specs.Prelude.{Bool, ◌==◌, ◌&&◌, ◌||◌, nat_lt, if◌then◌else◌, List, [], ◌∷◌, Option}
use Rattle.std.specs.Prelude.{None, Some}
use Rattle.timer_list.specs.declared.due.Due.{Due}

-- the first of the two expires before the other
abbrev pub is_before : Due → Due → Bool
is_before one other =
    nat_lt one.deadline other.deadline
    || (one.deadline == other.deadline && nat_lt one.seat other.seat)

-- the timer of the two that expires first, where there is one
abbrev pub earlier_of : Option Due → Option Due → Option Due
earlier_of None second = second
earlier_of (Some one) None = Some one
earlier_of (Some one) (Some other) = if is_before other one then Some other else Some one

-- the timer of all that expires first, where there is one
abbrev pub earliest : List (Option Due) → Option Due
earliest [] = None
earliest (due ∷ dues) = earlier_of due (earliest dues)
