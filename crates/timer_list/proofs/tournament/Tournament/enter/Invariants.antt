-- all games are won but the one above the place, who entered stays, and the place moves to the root
use Rattle.std.proofs.Common.{◌≡◌, ℕ, ◌<◌, ◌≤◌, ◌*◌, ◌/◌, drop, length}
use Rattle.timer_list.specs.Tournament.{IsWon}
use Rattle.timer_list.proofs.tournament.Tournament.enter.Given as goal

-- all games are right but the one above the place; who entered stays
abbrev pub invariant-loop-place : goal.invariant-loop-place
invariant-loop-place l = record {
  entrants : l.self-inside.entrants ≡ l.initial.self-inside.entrants;
  some : 1 ≤ l.self-inside.entrants;
  few : l.self-inside.entrants < 4294967296;
  size : length l.self-inside.nodes.items ≡ 2 * l.self-inside.entrants;
  below : l.place < 2 * l.self-inside.entrants;
  won : (place : ℕ) → 1 ≤ place → place < l.self-inside.entrants → ¬ (place ≡ l.place / 2) →
      IsWon l.self-inside.nodes.items place;
  entered : drop l.self-inside.entrants l.self-inside.nodes.items
      ≡ drop l.self-inside.entrants l.initial.self-inside.nodes.items;
}

abbrev pub decreases-loop-place : goal.decreases-loop-place
decreases-loop-place l = l.place
