-- A tournament as a list: place 1 is the root, places 2 i and 2 i + 1 are below place i, and the
-- second half has the entrants.
use Rattle.std.specs.Prelude.{◌≡◌, ℕ, ◌+◌, ◌*◌, ◌^◌, ◌<◌, ◌≤◌, List, Option, None, length}
use Rattle.std.specs.Prelude.{slice_index_or}
use Rattle.timer_list.specs.declared.due.Due.{Due}
use Rattle.timer_list.specs.Due.{earlier_of}

abbrev pub node_at : List (Option Due) → ℕ → Option Due
node_at nodes place = slice_index_or nodes place None

-- the place holds the winner of the two places below it
abbrev pub IsWon : List (Option Due) → ℕ → Type 0
IsWon nodes place = node_at nodes place ≡
    earlier_of (node_at nodes (2 * place)) (node_at nodes (2 * place + 1))

-- this many entered, and each place of the first half but 0 has its winner
pub record IsTournament (entrants : ℕ) (nodes : List (Option Due)) : Type 0 where
  pub some : 1 ≤ entrants
  pub few : entrants < 2 ^ 32
  pub size : length nodes ≡ 2 * entrants
  pub won : (place : ℕ) → 1 ≤ place → place < entrants → IsWon nodes place
