-- What a seat learns from the words of the ring.
use Rattle.std.proofs.Common.{◌≡◌, ◌⊎◌, inl, inr, ⊎_elim, ℕ, ◌+◌, ◌*◌, ◌/◌, ◌%◌, ◌<◌, ◌≤◌, Bool}
use Rattle.std.proofs.Common.{List, length, get_or, refl, sym, ap, subst, ◌∙◌, arith, Option, Some}
use Rattle.std.proofs.Common.{None}
use Rattle.std.proofs.Common.{lt_of_not-le}
use Rattle.std.specs.Prelude.{slice_get}
use Rattle.std.proofs.Math.Nat.{mul-add-mod_self_left, mod-eq_of_lt, div-add-mod, div-eq_of_lt}
use Rattle.std.proofs.Math.Nat.{mul-add-div, mul-add, mul-le-mul_left}
use Rattle.std.proofs.lemmas.Nat.{mod_below}
use Rattle.std.proofs.lemmas.Option.{slice_get_cases}
use native.Mathlib.Decide.{dec_le, ℕ_discrete}
use mathlib.Core.Logic.{dite}
use Rattle.atomic_table.proofs.Lists.{one_turn}
use Rattle.sync_base.specs.Write.{Write}
use Rattle.block_queue.specs.History.{QueueState}
use Rattle.block_queue.specs.Places.{Homes, AreWords, IsQueueState, IsUnstored, place_of}
use Rattle.block_queue.specs.Places.{sequence_of, free_word, stored_word}

-- ---- numbers

-- a number with this quotient and this remainder
divided : (n q r : ℕ) → r < n → ((n * q + r) % n ≡ r) × ((n * q + r) / n ≡ q)
divided n q r below = (
  mul-add-mod_self_left n q r ∙ mod-eq_of_lt below,
  mul-add-div (omega arith) q r ∙ ap (λ (x : ℕ). q + x) (div-eq_of_lt below) ∙ omega arith,
)

-- each place has a write in the window of those that no read has begun
pub in_window : (n from t : ℕ) → 0 < n → (c : ℕ) × (from ≤ c) × (c < from + n) × (c % n ≡ t % n)
in_window n from t some = ⊎_elim low high (ordered (from % n) (t % n))
  where
    ordered : (a b : ℕ) → (a ≤ b) ⊎ (b < a)
    ordered a b = dite (dec_le a b) (λ le. inl le) (λ not. inr (lt_of_not-le not))

    p : ℕ
    p = t % n

    below : p < n
    below = mod_below t n some

    below' : from % n < n
    below' = mod_below from n some

    parts : n * (from / n) + from % n ≡ from
    parts = div-add-mod from n

    low : from % n ≤ p → (c : ℕ) × (from ≤ c) × (c < from + n) × (c % n ≡ t % n)
    low le = (n * (from / n) + p, omega arith, omega arith, (divided n (from / n) p below).0)

    high : p < from % n → (c : ℕ) × (from ≤ c) × (c < from + n) × (c % n ≡ t % n)
    high lt = let one_more : n * (from / n + 1) ≡ n * (from / n) + n * 1 =
        mul-add n (from / n) 1 in (
          n * (from / n + 1) + p,
          omega arith,
          omega arith,
          (divided n (from / n + 1) p below).0,
        )

-- of two writes with one place the later one is a lap or more after
pub later_lap : (n t c : ℕ) → t < c → c % n ≡ t % n → t / n < c / n
later_lap n t c lt same =
    dite (dec_le (c / n) (t / n))
    (λ le.
    let less : n * (c / n) ≤ n * (t / n) = mul-le-mul_left n le in
    let at_c : n * (c / n) + c % n ≡ c = div-add-mod c n in
    let at_t : n * (t / n) + t % n ≡ t = div-add-mod t n in
    absurd (omega arith))
    (λ not. lt_of_not-le not)

-- a lap later the place is the same
pub next_lap : (n c : ℕ) → 0 < n → ((c + n) % n ≡ c % n) × ((c + n) / n ≡ c / n + 1)
next_lap n c some =
    let below = mod_below c n some in
    let parts : n * (c / n) + c % n ≡ c = div-add-mod c n in
    let one_more : n * (c / n + 1) ≡ n * (c / n) + n * 1 = mul-add n (c / n) 1 in
    let sum : n * (c / n + 1) + c % n ≡ c + n = omega arith in
    let both = divided n (c / n + 1) (c % n) below in
    (subst (λ (x : ℕ). x % n ≡ c % n) sum both.0, subst (λ (x : ℕ). x / n ≡ c / n + 1) sum both.1)

-- two writes of one window with one place are one
pub same_write : (n from a b : ℕ) → from ≤ a → a < from + n → from ≤ b → b < from + n → a % n ≡
    b % n → a ≡ b
same_write n from a b low_a high_a low_b high_b same =
    dite (dec_le a b) (λ le. one_turn a b n le (omega arith) same) (λ not. let less =
    lt_of_not-le not in sym (one_turn b a n (omega arith) (omega arith) (sym same)))

-- ---- what the sequence word tells

-- a write is there, or none is yet
pub accepted_or_free : (s : QueueState) (c : ℕ) →
    ((write : Write) × (slice_get s.pipe.accepted c ≡ Some write)) ⊎ (length s.pipe.accepted ≤ c)
accepted_or_free s c = ⊎_elim (λ in_it. inl (in_it.0, in_it.2)) (λ past. inr past.0)
    (slice_get_cases s.pipe.accepted c).1

some_number : (a b : ℕ) → ◌≡◌ {A = Option ℕ} (Some a) (Some b) → a ≡ b
some_number a b same = cc

-- whether the put of a write has returned
pub unstored_or_stored : (first : ℕ) (s : QueueState) (write : Write) (c : ℕ) →
    IsUnstored first s write c ⊎ (IsUnstored first s write c → ⊥)
unstored_or_stored first s write c = of (s.putting (write.writer + 1)) refl
  where
    of : (number : Option ℕ) → s.putting (write.writer + 1) ≡ number → IsUnstored first s write c ⊎
        (IsUnstored first s write c → ⊥)
    of None is = inr (λ unstored. let none : ◌≡◌ {A = Option ℕ} None (Some (first + c + 1)) =
        sym is ∙ unstored in cc)
    of (Some number) is = dite (ℕ_discrete number (first + c + 1))
        (λ same. inl (is ∙ ap (λ (x : ℕ). Some x) same))
        (λ other. inr (λ unstored. other (some_number number (first + c + 1) (sym is ∙ unstored))))

module _ (limit first : ℕ) (s : QueueState) (out : Bool) (words : List ℕ) (homes : Homes) (ring :
    AreWords limit first s out words homes) where
  -- the word of a place in the window is one of two
  word_in_window : (c : ℕ) → s.pipe.read_whole ≤ c → c < s.pipe.read_whole + limit
      → (get_or words (sequence_of (place_of limit c)) 0 ≡ free_word limit c) ⊎
      (get_or words (sequence_of (place_of limit c)) 0 ≡ stored_word limit c)
  word_in_window c low high =
      let place = ring.places c low high in
      ⊎_elim
      (λ taken. ⊎_elim (λ unstored. inl (place.begun taken.0 taken.1 unstored))
      (λ stored. inr (place.stored taken.0 taken.1 stored))
      (unstored_or_stored first s taken.0 c))
      (λ past. inl (place.free past))
      (accepted_or_free s c)

  -- a write that was accepted before the window: its place went round since
  gone_round : (t : ℕ) → 0 < limit → t < s.pipe.read_whole → stored_word limit t <
      get_or words (sequence_of (place_of limit t)) 0
  gone_round t some before =
      let at = in_window limit s.pipe.read_whole t some in
      let c = at.0 in
      let later = later_lap limit t c (omega arith) at.3 in
      let word = word_in_window c at.1 at.2 in
      let place : place_of limit c ≡ place_of limit t = at.3 in
      let least : stored_word limit t < get_or words (sequence_of (place_of limit c)) 0 =
      ⊎_elim (λ free. omega arith) (λ stored. omega arith) word in
      subst (λ (p : ℕ). stored_word limit t < get_or words (sequence_of p) 0) place least

  -- the write that comes next where all places are taken: its place has the word of a lap before
  lap_before : (t : ℕ) → 0 < limit → t ≡ s.pipe.read_whole + limit →
      get_or words (sequence_of (place_of limit t)) 0 < free_word limit t
  lap_before t some full =
      let next = next_lap limit s.pipe.read_whole some in
      let word = word_in_window s.pipe.read_whole (omega arith) (omega arith) in
      let place : place_of limit s.pipe.read_whole ≡ place_of limit t = sym next.0 ∙
      ap (λ (x : ℕ). x % limit) (sym full) in
      let lap : t / limit ≡ s.pipe.read_whole / limit + 1 = ap (λ (x : ℕ). x / limit) full ∙
      next.1 in
      let most : get_or words (sequence_of (place_of limit s.pipe.read_whole)) 0 <
      free_word limit t = ⊎_elim (λ free. omega arith) (λ stored. omega arith) word in
      subst (λ (p : ℕ). get_or words (sequence_of p) 0 < free_word limit t) place most

  -- what the word of its place tells of a write that may come next
  pub put_sequence : (t : ℕ) → 0 < limit → IsQueueState limit first s → t ≤ length s.pipe.accepted →
      get_or words (sequence_of (place_of limit t)) 0 ≤ free_word limit t
      → ((get_or words (sequence_of (place_of limit t)) 0 ≡ free_word limit t) ×
      (s.pipe.read_whole ≤ t) × (t < s.pipe.read_whole + limit)) ⊎
      ((get_or words (sequence_of (place_of limit t)) 0 < free_word limit t) ×
      (t ≡ s.pipe.read_whole + limit) × (length s.pipe.accepted ≡ s.pipe.read_whole + limit))
  put_sequence t some fits accepted low =
      let room = fits.room in
      dite (dec_le s.pipe.read_whole t)
      (λ in_or_after. dite (ℕ_discrete t (s.pipe.read_whole + limit))
      (λ full. inr (lap_before t some full, full, omega arith))
      (λ not_full. inl (
        ⊎_elim (λ free. free) (λ stored. absurd (omega arith))
            (word_in_window t in_or_after (omega arith)),
        in_or_after,
        omega arith,
      )))
      (λ before. let less : t < s.pipe.read_whole = lt_of_not-le before in let round =
      gone_round t some less in absurd (omega arith))
