-- A line of seats as a ring of links.
use Rattle.std.proofs.Common.{◌≡◌, ◌≢◌, ℕ, ◌+◌, ◌-◌, ◌<◌, ◌≤◌, ◌==◌, Bool, if◌then◌else◌, true}
use Rattle.std.proofs.Common.{false, List, [], ◌∷◌, ◌++◌, length, count_by, cond, slice_index}
use Rattle.std.proofs.Common.{zero, suc, get_or, set, refl, sym, ap, ◌∙◌, subst, arith}
use Rattle.std.proofs.Common.{append_assoc}
use Rattle.std.proofs.lemmas.Bool.Decides.{nat_tests}
use Rattle.std.proofs.lemmas.Grind.{get_or-set_at, get_or_default_zero}
use Rattle.std.proofs.lemmas.List.{get_or-set_other}
use Rattle.std.proofs.lemmas.List.Sums.{sum_by-set, count_by-le-length}
use Rattle.std.proofs.Math.ListN.{length-set}
use Rattle.semaphore.specs.WaitQueue.{Queue, stands_in, without, walk, IsLinked, AreSeats, IsRing}

-- ---- lines

-- who stands in a line of seats is one of them
pub stands_below : (seats : ℕ) (xs : List ℕ) (seat : ℕ) → AreSeats seats xs →
    stands_in xs seat ≡ true → seat < seats
stands_below seats [] seat are is = cc
stands_below seats (x ∷ xs) seat are is =
    grind (arith, nat_tests, are.0, stands_below seats xs seat are.2)

-- a seat that has joined a line stands in it
pub joined_same : (xs : List ℕ) (seat : ℕ) → stands_in (xs ++ seat ∷ []) seat ≡ true
joined_same [] seat = grind (arith, nat_tests)
joined_same (x ∷ xs) seat = grind (arith, nat_tests, joined_same xs seat)

-- when a seat joins a line, it stays as it was whether another stands in it
pub joined_other : (xs : List ℕ) (seat other : ℕ) → seat ≢ other →
    stands_in (xs ++ seat ∷ []) other ≡ stands_in xs other
joined_other [] seat other apart = grind (arith, nat_tests)
joined_other (x ∷ xs) seat other apart = grind (arith, nat_tests, joined_other xs seat other apart)

-- when a seat leaves a line, it stays as it was whether another stands in it
pub left_other : (xs : List ℕ) (seat other : ℕ) → seat ≢ other → stands_in (without seat xs) other ≡
    stands_in xs other
left_other [] seat other apart = refl
left_other (x ∷ xs) seat other apart = grind (arith, nat_tests, left_other xs seat other apart)

-- a seat that has left a line does not stand in it
pub left_same : (seats : ℕ) (xs : List ℕ) (seat : ℕ) → AreSeats seats xs →
    stands_in (without seat xs) seat ≡ false
left_same seats [] seat are = refl
left_same seats (x ∷ xs) seat are = grind (arith, nat_tests, are.1, left_same seats xs seat are.2)

-- a line that a seat from outside it joins is a line of seats, each once
pub seats_join : (seats : ℕ) (xs : List ℕ) (seat : ℕ) → AreSeats seats xs → seat < seats →
    stands_in xs seat ≡ false → AreSeats seats (xs ++ seat ∷ [])
seats_join seats [] seat are within new = (within, refl, tt)
seats_join seats (x ∷ xs) seat are within new = (
  are.0,
  grind (arith, nat_tests, are.1, joined_other xs seat x),
  seats_join seats xs seat are.2 within (grind (arith, nat_tests)),
)

-- a line that a seat leaves is a line of seats, each once
pub seats_without : (seats : ℕ) (xs : List ℕ) (seat : ℕ) → AreSeats seats xs →
    AreSeats seats (without seat xs)
seats_without seats [] seat are = tt
seats_without seats (x ∷ xs) seat are =
    grind (arith, nat_tests, left_other, seats_without seats xs seat are.2)

-- a line without a seat that does not stand in it
pub not_there : (xs : List ℕ) (seat : ℕ) → stands_in xs seat ≡ false → without seat xs ≡ xs
not_there [] seat gone = refl
not_there (x ∷ xs) seat gone = grind (arith, nat_tests, not_there xs seat)

-- a line that a seat joins is one seat longer, and one that it leaves one shorter
length_join : (xs : List ℕ) (seat : ℕ) → length (xs ++ seat ∷ []) ≡ length xs + 1
length_join [] seat = refl
length_join (x ∷ xs) seat = omega (arith, length_join xs seat)

length_without : (xs : List ℕ) (seat : ℕ) → stands_in xs seat ≡ true →
    length (without seat xs) + 1 ≡ length xs
length_without [] seat is = cc
length_without (x ∷ xs) seat is = grind (arith, nat_tests, length_without xs seat)

-- ---- links

-- before a seat of a line is its start or another seat of it
before_in : (next prev : List ℕ) (from : ℕ) (xs : List ℕ) (end seat : ℕ) →
    IsLinked next prev from xs end → stands_in xs seat ≡ true →
    stands_in (from ∷ xs) (slice_index prev seat) ≡ true
before_in next prev from [] end seat linked is = cc
before_in next prev from (x ∷ xs) end seat linked is =
    grind (arith, nat_tests, linked.1.0, before_in next prev x xs end seat linked.1.1)

-- after its start is its end or a seat of it
first_in : (next prev : List ℕ) (from : ℕ) (xs : List ℕ) (end : ℕ) →
    IsLinked next prev from xs end → stands_in (end ∷ xs) (slice_index next from) ≡ true
first_in next prev from [] end linked = grind (arith, nat_tests, linked.0)
first_in next prev from (x ∷ xs) end linked = grind (arith, nat_tests, linked.0)

-- and so it is after a seat of it
after_in : (next prev : List ℕ) (from : ℕ) (xs : List ℕ) (end seat : ℕ) →
    IsLinked next prev from xs end → stands_in xs seat ≡ true →
    stands_in (end ∷ xs) (slice_index next seat) ≡ true
after_in next prev from [] end seat linked is = cc
after_in next prev from (x ∷ xs) end seat linked is =
    grind (
      arith,
      nat_tests,
      first_in next prev x xs end linked.1.1,
      after_in next prev x xs end seat linked.1.1,
    )

-- before its end is its start or a seat of it
last_in : (next prev : List ℕ) (from : ℕ) (xs : List ℕ) (end : ℕ) →
    IsLinked next prev from xs end → stands_in (from ∷ xs) (slice_index prev end) ≡ true
last_in next prev from [] end linked = grind (arith, nat_tests, linked.1)
last_in next prev from (x ∷ xs) end linked =
    grind (arith, nat_tests, last_in next prev x xs end linked.1.1)

-- a link of a place outside is changed
kept_linked : (next prev : List ℕ) (from : ℕ) (xs : List ℕ) (end i v j u : ℕ) → from ≢ i →
    stands_in xs i ≡ false → stands_in xs j ≡ false → end ≢ j → IsLinked next prev from xs end →
    IsLinked (set next i v) (set prev j u) from xs end
kept_linked next prev from [] end i v j u start no_i no_j last linked =
    (rw get_or-set_other linked.0, rw get_or-set_other linked.1)
kept_linked next prev from (x ∷ xs) end i v j u start no_i no_j last linked = (
  rw get_or-set_other linked.0,
  (
    grind (arith, nat_tests, get_or-set_other, linked.1.0),
    kept_linked next prev x xs end i v j u (grind (arith, nat_tests)) (grind (arith, nat_tests))
        (grind (arith, nat_tests)) last linked.1.1,
  ),
)

-- after a place the line goes on with what stood after a seat that is left out
past_first : (next prev : List ℕ) (seats from seat : ℕ) (xs : List ℕ) (end before after : ℕ) →
    before ≡ from → after ≡ slice_index next seat → from < length next → end < length prev →
    seats ≤ end → AreSeats seats xs → stands_in xs from ≡ false → IsLinked next prev seat xs end →
    IsLinked (set next before after) (set prev after before) from xs end
past_first next prev seats from seat [] end before after is_before is_after inside edge most are
    no_from linked =
    (grind (arith, get_or-set_at, linked.0), grind (arith, get_or-set_at, linked.0))
past_first next prev seats from seat (x ∷ xs) end before after is_before is_after inside edge most
    are no_from linked =
    let is : after ≡ x = is_after ∙ linked.0 in (
      grind (arith, get_or-set_at),
      (
        grind (arith, get_or-set_at, are.0),
        kept_linked next prev x xs end before after after before (grind (arith, nat_tests))
            (grind (arith, nat_tests)) (grind (arith, are.1)) (grind (arith, are.0)) linked.1.1,
      ),
    )

-- where the places before and after a seat are linked to each other, they link the line without it
linked_without : (next prev : List ℕ) (seats from : ℕ) (xs : List ℕ) (end seat before after : ℕ) →
    before ≡ slice_index prev seat → after ≡ slice_index next seat → from < length next →
    seats < length next → end < length prev → seats ≤ end → AreSeats seats xs →
    stands_in xs from ≡ false → IsLinked next prev from xs end → stands_in xs seat ≡ true →
    IsLinked (set next before after) (set prev after before) from (without seat xs) end
linked_without next prev seats from [] end seat before after is_before is_after inside many edge
    most are no_from linked is = cc
linked_without next prev seats from (x ∷ xs) end seat before after is_before is_after inside many
    edge most are no_from linked is =
    by (x == seat) refl
    (linked_without next prev seats x xs end seat before after is_before is_after
    (omega (arith, are.0)) many edge most are.2 are.1 linked.1.1)
  where
    by : (b : Bool) → (x == seat) ≡ b → (stands_in xs seat ≡ true →
        IsLinked (set next before after) (set prev after before) x (without seat xs) end) →
        IsLinked (set next before after) (set prev after before) from
        (if b then xs else x ∷ without seat xs) end
    by true same rest =
        past_first next prev seats from x xs end before after
        (grind (arith, nat_tests, linked.1.0)) (grind (arith, nat_tests)) inside edge most are.2
        (grind (arith, nat_tests)) linked.1.1
    by false other rest =
        let there : stands_in xs seat ≡ true = grind (arith, nat_tests) in
        let start = before_in next prev x xs end seat linked.1.1 there in
        let after_there = after_in next prev x xs end seat linked.1.1 there in (
          grind (arith, nat_tests, get_or-set_other, linked.0),
          (grind (arith, nat_tests, get_or-set_other, linked.1.0, are.0, are.1), rest there),
        )

-- a seat joins before the end
linked_join : (next prev : List ℕ) (seats from : ℕ) (xs : List ℕ) (end seat last : ℕ) → last ≡
    slice_index prev end → from < length next → seat < length next → seat < length prev → end <
    length prev → end ≢ seat → from ≢ seat → seats ≤ end → seats < length next → AreSeats seats xs →
    stands_in xs seat ≡ false → stands_in xs from ≡ false → IsLinked next prev from xs end →
    IsLinked (set (set next last seat) seat end) (set (set prev seat last) end seat) from
    (xs ++ seat ∷ []) end
linked_join next prev seats from [] end seat last is inside at_next at_prev edge apart start most
    many are no_seat no_from linked = (
      grind (arith, get_or-set_at, get_or-set_other, linked.1),
      (
        grind (arith, get_or-set_at, get_or-set_other, length-set, linked.1),
        (grind (arith, get_or-set_at, length-set), grind (arith, get_or-set_at, length-set)),
      ),
    )
linked_join next prev seats from (x ∷ xs) end seat last is inside at_next at_prev edge apart start
    most many are no_seat no_from linked =
    let last_there = last_in next prev x xs end linked.1.1 in (
      grind (arith, nat_tests, get_or-set_other, linked.0),
      (
        grind (arith, nat_tests, get_or-set_other, linked.1.0, are.0),
        linked_join next prev seats x xs end seat last is (grind (arith, are.0)) at_next at_prev
            edge apart (grind (arith, nat_tests)) most many are.2 (grind (arith, nat_tests)) are.1
            linked.1.1,
      ),
    )

-- as many places along the links are the line
walk_is : (next prev : List ℕ) (from : ℕ) (xs : List ℕ) (end : ℕ) →
    IsLinked next prev from xs end → walk next from (length xs) ≡ xs
walk_is next prev from [] end linked = refl
walk_is next prev from (x ∷ xs) end linked =
    ap (λ s. s ∷ walk next s (length xs)) linked.0 ∙
    ap (λ l. x ∷ l) (walk_is next prev x xs end linked.1.1)

-- one more stands, or one fewer
stand_counts : Bool → ℕ
stand_counts stand = cond stand 1 0

one_more : (stands : List Bool) (i : ℕ) → i < length stands → get_or stands i false ≡ false →
    count_by (λ b. b) (set stands i true) ≡ count_by (λ b. b) stands + 1
unfolding stand_counts
one_more stands i within is =
    omega (arith, sum_by-set stand_counts stands i true false within, ap stand_counts is)

one_fewer : (stands : List Bool) (i : ℕ) → i < length stands → get_or stands i false ≡ true →
    count_by (λ b. b) (set stands i false) + 1 ≡ count_by (λ b. b) stands
unfolding stand_counts
one_fewer stands i within is =
    omega (arith, sum_by-set stand_counts stands i false false within, ap stand_counts is)

module _ (next prev : List ℕ) (stands : List Bool) (count : ℕ) (order : List ℕ)
    (ring : IsRing next prev stands count order) where
  -- the line, read along the links
  pub ring_walk : walk next (length stands) count ≡ order
  ring_walk =
      ap (walk next (length stands)) (sym ring.many)
      ∙ walk_is next prev (length stands) order (length stands) ring.linked

  -- and so it is a ring of what is read along them
  pub ring_is : IsRing next prev stands count (walk next (length stands) count)
  ring_is = subst (IsRing next prev stands count) (sym ring_walk) ring

  -- no more seats stand in line than there are
  pub count_fits : count ≤ length stands
  count_fits = omega (arith, ring.counted, count_by-le-length (λ (b : Bool). b) stands)

  -- a place of the ring is a seat or the end
  place_fits : (place : ℕ) → stands_in (length stands ∷ order) place ≡ true → place <
      length stands + 1
  place_fits place is =
      grind (arith, nat_tests, stands_below (length stands) order place ring.seats)

  -- before and after a seat in line is a place of the ring
  pub before_fits : (seat before : ℕ) → seat < length stands → before ≡ get_or prev seat before →
      stands_in order seat ≡ true → before < length next
  before_fits seat before within is there =
      let fits = place_fits _ (before_in next prev _ order _ seat ring.linked there) in
      grind (arith, ring.next_size, ring.prev_size, get_or_default_zero prev seat before)

  -- and so it is after one
  pub after_fits : (seat after : ℕ) → seat < length stands → after ≡ get_or next seat after →
      stands_in order seat ≡ true → after < length prev
  after_fits seat after within is there =
      let fits = place_fits _ (after_in next prev _ order _ seat ring.linked there) in
      grind (arith, ring.next_size, ring.prev_size, get_or_default_zero next seat after)

  -- the last in line, or the end itself where nobody stands, is a place of the ring
  pub last_fits : (end last : ℕ) → end ≡ length stands → last ≡ get_or prev end last → last <
      length next
  last_fits end last at_end is =
      let fits = place_fits _ (last_in next prev _ order _ ring.linked) in
      grind (arith, ring.next_size, ring.prev_size, get_or_default_zero prev end last)

  -- where somebody stands in line, the place after the end is a seat
  pub first_fits : (end first : ℕ) → end ≡ length stands → first ≡ get_or next end first → 0 <
      count → first < length stands
  first_fits end first at_end is some = by order ring.many ring.seats ring.linked
    where
      by : (line : List ℕ) → length line ≡ count → AreSeats (length stands) line →
          IsLinked next prev (length stands) line (length stands) → first < length stands
      by [] many are linked = absurd (omega arith)
      by (x ∷ xs) many are linked =
          grind (arith, are.0, linked.0, ring.next_size, get_or_default_zero next end first)

  no_end : stands_in order (length stands) ≡ false
  no_end = grind (arith, nat_tests, stands_below (length stands) order (length stands) ring.seats)

  -- when a seat links itself in after the last, the links are a ring of one seat more
  pub ring_join : (seat last end : ℕ) → end ≡ length stands → seat < length stands → last ≡
      get_or prev end last → stands_in order seat ≡ false →
      IsRing (set (set next last seat) seat end) (set (set prev seat last) end seat)
      (set stands seat true) (count + 1) (order ++ seat ∷ [])
  ring_join seat last end is within told new =
      let is_last : last ≡ slice_index prev end = told ∙
      get_or_default_zero prev end last (omega (arith, ring.prev_size)) in
      record {
        few = grind (arith, length-set, ring.few);
        next_size = grind (arith, length-set, ring.next_size);
        prev_size = grind (arith, length-set, ring.prev_size);
        many = omega (arith, length_join order seat, ring.many);
        counted = one_more stands seat within (ring.told seat within ∙ new) ∙
            ap (λ n. n + 1) ring.counted;
        seats = rw length-set (seats_join (length stands) order seat ring.seats within new);
        linked = rw (length-set, ← is) (linked_join next prev (length stands) end order end seat
            last is_last
            (omega (arith, ring.next_size)) (omega (arith, ring.next_size))
            (omega (arith, ring.prev_size)) (omega (arith, ring.prev_size)) (omega arith)
            (omega arith) (omega arith) (omega (arith, ring.next_size)) ring.seats new
            (ap (stands_in order) is ∙ no_end) (rw is ring.linked));
        told = λ other inside. grind (
          arith,
          nat_tests,
          length-set,
          get_or-set_at,
          get_or-set_other,
          ring.told other,
          joined_same order seat,
          joined_other order seat other,
        );
      }

  -- when a seat in line links those before and after it to each other, they are a ring of one seat
  -- less
  pub ring_leave : (seat before after : ℕ) → seat < length stands → before ≡
      get_or prev seat before → after ≡ get_or next seat after → stands_in order seat ≡ true →
      IsRing (set next before after) (set prev after before) (set stands seat false) (count - 1)
      (without seat order)
  ring_leave seat before after within before_told after_told there =
      let is_before : before ≡ slice_index prev seat = before_told ∙
      get_or_default_zero prev seat before (omega (arith, ring.prev_size)) in
      let is_after : after ≡ slice_index next seat = after_told ∙
      get_or_default_zero next seat after (omega (arith, ring.next_size)) in
      let fewer = one_fewer stands seat within (ring.told seat within ∙ there) in
      record {
        few = grind (arith, length-set, ring.few);
        next_size = grind (arith, length-set, ring.next_size);
        prev_size = grind (arith, length-set, ring.prev_size);
        many = omega (arith, length_without order seat there, ring.many);
        counted = omega (arith, fewer, ring.counted);
        seats = rw length-set (seats_without (length stands) order seat ring.seats);
        linked = rw length-set (linked_without next prev (length stands) (length stands) order
            (length stands) seat before after is_before is_after
            (omega (arith, ring.next_size)) (omega (arith, ring.next_size))
            (omega (arith, ring.prev_size)) (omega arith) ring.seats no_end ring.linked there);
        told = λ other inside. grind (
          arith,
          nat_tests,
          length-set,
          get_or-set_at,
          get_or-set_other,
          ring.told other,
          left_same (length stands) order seat ring.seats,
          left_other order seat other,
        );
      }

-- two lines of as many seats in the same order are the same
pub same_line : (one other : Queue) → one.seats ≡ other.seats → one.order ≡ other.order → one
    ≡ other
same_line one other seats order = λ k. record { seats = seats k; order = order k }

-- ---- a walk along the line

-- one place more of a walk is a place less to go
pub walked_more : (next : List ℕ) (from left : ℕ) (so_far whole : List ℕ) → 0 < left
    → so_far ++ walk next from left ≡ whole
    → (so_far ++ slice_index next from ∷ []) ++ walk next (slice_index next from) (left - 1)
    ≡ whole
walked_more next from zero so_far whole some is = absurd (omega arith)
walked_more next from (suc left) so_far whole some is =
    let here : List ℕ = slice_index next from ∷ [] in
    let fewer : suc left - 1 ≡ left = omega arith in
    ap (λ n. (so_far ++ here) ++ walk next (slice_index next from) n) fewer
    ∙ (append_assoc so_far here (walk next (slice_index next from) left) ∙ is)
