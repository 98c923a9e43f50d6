-- The root of a tournament is the earliest of those who entered.
use Rattle.std.proofs.Common.{◌≡◌, ℕ, zero, suc, ◌+◌, ◌-◌, ◌*◌, ◌/◌, ◌<◌, ◌≤◌, List, Option, None}
use Rattle.std.proofs.Common.{length, drop, get_or, set, sym, ap, ◌∙◌, subst, arith, ◌⊎◌, ◌≢◌}
use Rattle.std.proofs.Common.{length-drop, inl, inr, ⊎_elim}
use Rattle.std.proofs.lemmas.Grind.{get_or-set_at}
use Rattle.std.proofs.lemmas.List.{get_or-drop, get_or-set_other}
use Rattle.timer_list.specs.declared.due.Due.{Due}
use Rattle.timer_list.specs.Due.{earlier_of, earliest}
use Rattle.timer_list.specs.Tournament.{IsTournament, IsWon, node_at}
use Rattle.waiting.proofs.Cases.{same_or_not, below_or_not}
use Rattle.timer_list.proofs.EarlierLemmas.{IsFirst, first-trans, first-antisym, first-left}
use Rattle.timer_list.proofs.EarlierLemmas.{first-right, first-both, earlier-idem, earliest-first}
use Rattle.timer_list.proofs.EarlierLemmas.{earliest-last}

module _ (entrants : ℕ) (nodes : List (Option Due)) (t : IsTournament entrants nodes) where
  -- the game above a place
  game_above : (place : ℕ) → 2 ≤ place → place < 2 * entrants →
      IsFirst (node_at nodes (place / 2)) (node_at nodes place)
  game_above place far within =
      let half = place / 2 in
      let left = node_at nodes (2 * half) in
      let right = node_at nodes (2 * half + 1) in
      let won = t.won half (omega arith) (omega arith) in
      let before_left = first-left left right in
      let before_right = first-right left right in
      by (same_or_not place (2 * half)) (rw (← won) at before_left) (rw (← won) at before_right)
    where
      by : (place ≡ 2 * (place / 2)) ⊎ (place ≢ 2 * (place / 2)) →
          IsFirst (node_at nodes (place / 2)) (node_at nodes (2 * (place / 2))) →
          IsFirst (node_at nodes (place / 2)) (node_at nodes (2 * (place / 2) + 1)) →
          IsFirst (node_at nodes (place / 2)) (node_at nodes place)
      by (inl is) left right =
          subst (λ p. IsFirst (node_at nodes (place / 2)) (node_at nodes p)) (sym is) left
      by (inr other) left right =
          subst (λ p. IsFirst (node_at nodes (place / 2)) (node_at nodes p)) (omega arith) right

  -- the root is before each place
  root_first : (fuel place : ℕ) → place ≤ fuel → 1 ≤ place → place < 2 * entrants →
      IsFirst (node_at nodes 1) (node_at nodes place)
  root_first zero place small some within = absurd (omega arith)
  root_first (suc fuel) place small some within =
      ⊎_elim
      (λ e. subst (λ p. IsFirst (node_at nodes 1) (node_at nodes p)) (sym e)
      (earlier-idem (node_at nodes 1)))
      (λ other.
      let far : 2 ≤ place = omega arith in
      first-trans _ (node_at nodes (place / 2)) _
      (root_first fuel (place / 2) (omega arith) (omega arith) (omega arith))
      (game_above place far within))
      (same_or_not place 1)

  -- what is before each who entered is before each place
  before_places : (x : Option Due) → ((place : ℕ) → entrants ≤ place → place < 2 * entrants →
      IsFirst x (node_at nodes place)) → (fuel place : ℕ) → 2 * entrants ≤ fuel + place → 1 ≤
      place → place < 2 * entrants → IsFirst x (node_at nodes place)
  before_places x each zero place small some within = absurd (omega arith)
  before_places x each (suc fuel) place small some within =
      ⊎_elim
      (λ inner. subst (IsFirst x) (sym (t.won place some inner))
      (first-both x _ _
      (before_places x each fuel (2 * place) (omega arith) (omega arith) (omega arith))
      (before_places x each fuel (2 * place + 1) (omega arith) (omega arith) (omega arith))))
      (λ leaf. each place leaf within)
      (below_or_not place entrants)

  -- who entered stands in the second half
  entered_at : (i : ℕ) → get_or (drop entrants nodes) i None ≡ node_at nodes (entrants + i)
  entered_at i = get_or-drop entrants nodes i None

  -- where every game is won, the root has the earliest of all who entered
  pub root_is_earliest : node_at nodes 1 ≡ earliest (drop entrants nodes)
  root_is_earliest =
      let some = t.some in
      let size = t.size in
      let entered = drop entrants nodes in
      let many : length entered ≡ entrants = omega (arith, length-drop entrants nodes) in
      first-antisym _ _
      (earliest-last entered (node_at nodes 1) (λ i h.
      subst (IsFirst (node_at nodes 1)) (sym (entered_at i))
      (root_first (entrants + i) (entrants + i) (omega arith) (omega arith) (omega arith))))
      (before_places (earliest entered)
      (λ place leaf within.
      let at : get_or entered (place - entrants) None ≡ node_at nodes place =
      entered_at (place - entrants) ∙ ap (node_at nodes) (omega arith) in
      subst (IsFirst (earliest entered)) at (earliest-first entered (place - entrants)))
      (2 * entrants) 1 (omega arith) (omega arith) (omega arith))

-- after the game at a place, all are won but the one above it
pub won_after_game : (half place : ℕ) (nodes : List (Option Due)) (winner : Option Due) →
    length nodes ≡ 2 * half → 1 ≤ place → place < half → winner ≡
    earlier_of (node_at nodes (2 * place)) (node_at nodes (2 * place + 1)) →
    ((p : ℕ) → 1 ≤ p → p < half → ¬ (p ≡ place) → IsWon nodes p) → (p : ℕ) → 1 ≤ p → p < half →
    ¬ (p ≡ place / 2) → IsWon (set nodes place winner) p
won_after_game half place nodes winner size some within is_winner won p first inner other =
    by (same_or_not p place)
  where
    by : (p ≡ place) ⊎ (p ≢ place) → IsWon (set nodes place winner) p
    by (inl here) = grind (arith, get_or-set_at, get_or-set_other, is_winner)
    by (inr else) = grind (arith, get_or-set_other, won p first inner else)
