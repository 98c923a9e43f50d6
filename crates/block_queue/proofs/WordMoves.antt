-- What each step on the ring does to its words and slots: they stay those of the direction.
use Rattle.std.proofs.Common.{◌≡◌, ◌≢◌, ◌⊎◌, inl, inr, ⊎_elim, ℕ, zero, suc, ◌+◌, ◌*◌, ◌/◌, ◌%◌}
use Rattle.std.proofs.Common.{◌<◌, ◌≤◌, Bool, true, false, List, [], ◌∷◌, ◌++◌, length, get_or, set}
use Rattle.std.proofs.Common.{refl, sym, ap, subst, ◌∙◌, arith, length-append, length-set, eq-eqb}
use Rattle.std.proofs.Common.{ne_eqb, Option, Some, None}
use Rattle.std.specs.Prelude.{slice_get, bit_or, ◌^◌}
use Rattle.std.specs.Int.Bits.{bit_and, or_add_and}
use Rattle.std.proofs.lemmas.Nat.{mod_below}
use Rattle.std.proofs.lemmas.Nat.Bits.{and_pow}
use Rattle.std.proofs.lemmas.List.{get_or-set_other, get_or-set_same}
use Rattle.std.proofs.lemmas.Option.{slice_get_within, slice_get_past}
use native.Mathlib.Decide.{ℕ_discrete}
use mathlib.Core.Logic.{dite}
use mathlib.Core.Option.{none, some}
use mathlib.Core.Option as maybe
use lib.ListN.{get_elem?}
use Rattle.atomic_table.proofs.Lists.{set_here, set_else}
use Rattle.sync_base.specs.Pipe.{next_write, begun_number}
use Rattle.sync_base.specs.Write.{Write}
use Rattle.block_queue.specs.declared.places.TheConstants.{MARK}
use Rattle.block_queue.specs.declared.entry.Entry.TheVariants.{Taken, Stood, Block, Hung}
use Rattle.block_queue.specs.History.{QueueState, IsUnready, after_entry, with_put}
use Rattle.block_queue.specs.Places.{Homes, IsPlace, AreWords, IsQueueState, IsUnstored, place_of}
use Rattle.block_queue.specs.Places.{sequence_of, stored_word, tail_word}
use Rattle.block_queue.proofs.StateLemmas.{begun_is}
use Rattle.block_queue.proofs.PlaceLemmas.{accepted_or_free, unstored_or_stored, same_write}
use Rattle.block_queue.proofs.PlaceLemmas.{next_lap}

-- ---- lists

-- an element more after a list leaves each index what it has
pub slice_get_snoc : {A : Type 0} (xs : List A) (x : A) (i : ℕ) → i < length xs →
    slice_get (xs ++ x ∷ []) i ≡ slice_get xs i
slice_get_snoc [] x i below = absurd (omega arith)
slice_get_snoc (y ∷ xs) x zero below = refl
slice_get_snoc (y ∷ xs) x (suc i) below = slice_get_snoc xs x i (omega arith)

-- at the index of the old length stands the new element
pub slice_get_last : {A : Type 0} (xs : List A) (x : A) → slice_get (xs ++ x ∷ []) (length xs) ≡
    Some x
slice_get_last [] x = refl
slice_get_last (y ∷ xs) x = slice_get_last xs x

-- two that are there and equal are of equal values
pub same_some : {A : Type 0} (a b : A) → Some a ≡ Some b → a ≡ b
same_some a b same = cc

-- the put of this seat and of another after one was set
pub put_here : (seat : ℕ) (number : Option ℕ) (putting : ℕ → Option ℕ) →
    with_put seat number putting seat ≡ number
put_here seat number putting = rw (eq-eqb seat seat refl) refl

-- the puts of all other seats are as they were
pub put_else : (seat other : ℕ) (number : Option ℕ) (putting : ℕ → Option ℕ) → other ≢ seat →
    with_put seat number putting other ≡ putting other
put_else seat other number putting apart = rw (ne_eqb other seat apart) refl

-- ---- the mark

-- the mark on a word below it adds itself
pub marked : (n : ℕ) → n < MARK → bit_or n MARK ≡ n + MARK
marked n low =
    let bit : bit_and n MARK ≡ n / 2 ^ 63 % 2 * 2 ^ 63 = and_pow n 63 in
    let none : n / 2 ^ 63 ≡ 0 = omega arith in
    let both : bit_or n MARK + bit_and n MARK ≡ n + MARK = or_add_and n MARK in
    omega arith

-- a marked word is not changed by the mark
pub marked_again : (n : ℕ) → n < MARK → bit_or (n + MARK) MARK ≡ n + MARK
marked_again n low =
    let bit : bit_and (n + MARK) MARK ≡ (n + MARK) / 2 ^ 63 % 2 * 2 ^ 63 = and_pow (n + MARK) 63 in
    let one : (n + MARK) / 2 ^ 63 ≡ 1 = omega arith in
    let both : bit_or (n + MARK) MARK + bit_and (n + MARK) MARK ≡ n + MARK + MARK =
    or_add_and (n + MARK) MARK in
    omega arith

-- ---- a place that a step leaves as it was

module _ (limit first : ℕ) (s s' : QueueState) (out out' : Bool) (words words' :
    List ℕ) (homes homes' : Homes) (c : ℕ) where
  place_moves : IsPlace limit first s out words homes c
      → get_or words' (sequence_of (place_of limit c)) 0 ≡
      get_or words (sequence_of (place_of limit c)) 0
      → get_elem? homes' (place_of limit c) ≡ get_elem? homes (place_of limit c)
      → (length s'.pipe.accepted ≤ c → length s.pipe.accepted ≤ c)
      → ((write : Write) → slice_get s'.pipe.accepted c ≡ Some write → slice_get s.pipe.accepted c ≡
      Some write)
      → ((write : Write) → slice_get s'.pipe.accepted c ≡ Some write → IsUnstored first s' write c →
      IsUnstored first s write c)
      → ((write : Write) → slice_get s'.pipe.accepted c ≡ Some write → IsUnstored first s write c →
      IsUnstored first s' write c)
      → ((out' ≡ false) ⊎ (c ≢ s'.pipe.read_whole) → (out ≡ false) ⊎ (c ≢ s.pipe.read_whole))
      → IsPlace limit first s' out' words' homes' c
  place_moves place word home free accepted was is away =
      record {
        free = λ past. word ∙ place.free (free past);
        empty = λ past. home ∙ place.empty (free past);
        begun = λ write at unstored. word ∙
            place.begun write (accepted write at) (was write at unstored);
        stored = λ write at stored. word ∙
            place.stored write (accepted write at) (λ unstored. stored (is write at unstored));
        full = λ write at stored there. home ∙ place.full write (accepted write at)
            (λ unstored. stored (is write at unstored)) (away there);
      }

module _ (limit first : ℕ) (s : QueueState) (out : Bool) (words : List ℕ) (homes :
    Homes) (some_limit : 0 < limit) (fits : IsQueueState limit first s) (ring :
    AreWords limit first s out words homes) where
  -- ---- take

  -- the word of the next place says that its write does not stand
  pub no_block : get_or words (sequence_of (place_of limit s.pipe.read_whole)) 0 ≢ stored_word limit
      s.pipe.read_whole
      → (next_write s.pipe ≡ None) ⊎ IsUnready s (begun_number first s.pipe + 1)
  no_block other =
      let place = ring.places s.pipe.read_whole (omega arith) (omega arith) in
      ⊎_elim
      (λ taken. ⊎_elim
      (λ unstored. inr record {
        write = taken.0;
        next = taken.1;
        returning = unstored ∙
            ap (λ (n : ℕ). Some (first + n + 1)) (sym (begun_is s.pipe fits.whole));
      })
      (λ stored. absurd (other (place.stored taken.0 taken.1 stored)))
      (unstored_or_stored first s taken.0 s.pipe.read_whole))
      (λ past. inl (slice_get_past s.pipe.accepted s.pipe.read_whole past))
      (accepted_or_free s s.pipe.read_whole)

  -- or that it does, and then its block is in the slot
  pub has_block : get_or words (sequence_of (place_of limit s.pipe.read_whole)) 0 ≡
      stored_word limit s.pipe.read_whole
      → (write : Write) × (next_write s.pipe ≡ Some write) ×
      (IsUnstored first s write s.pipe.read_whole → ⊥) × (out ≡ false →
      get_elem? homes (place_of limit s.pipe.read_whole) ≡ some (some (Some write)))
  has_block is =
      let place = ring.places s.pipe.read_whole (omega arith) (omega arith) in
      ⊎_elim
      (λ taken. ⊎_elim
      (λ unstored. let word = place.begun taken.0 taken.1 unstored in absurd (omega arith))
      (λ stored. (taken.0, taken.1, stored, λ home. place.full taken.0 taken.1 stored (inl home)))
      (unstored_or_stored first s taken.0 s.pipe.read_whole))
      (λ past. let word = place.free past in absurd (omega arith))
      (accepted_or_free s s.pipe.read_whole)

  -- another write of the window has another place
  apart : (a b : ℕ) → s.pipe.read_whole ≤ a → a < s.pipe.read_whole + limit → s.pipe.read_whole ≤
      b → b < s.pipe.read_whole + limit → a ≢ b → place_of limit a ≢ place_of limit b
  apart a b low_a high_a low_b high_b other same =
      other (same_write limit s.pipe.read_whole a b low_a high_a low_b high_b same)

  -- a step on the tail leaves the words of the places
  after_tail : (n place : ℕ) → get_or (set words 0 n) (sequence_of place) 0 ≡
      get_or words (sequence_of place) 0
  after_tail n place = get_or-set_other words 0 (sequence_of place) n 0 (λ same. omega arith)

  tail_after : (n : ℕ) → get_or (set words 0 n) 0 0 ≡ n
  tail_after n = let count = ring.word_count in get_or-set_same words 0 n 0 (omega arith)

  -- a step on the word of a write's place
  word_after : (a n : ℕ) →
      get_or (set words (sequence_of (place_of limit a)) n) (sequence_of (place_of limit a)) 0 ≡ n
  word_after a n = let count = ring.word_count in let below =
      mod_below a limit some_limit in get_or-set_same words (sequence_of (place_of limit a)) n 0
      (omega arith)

  word_else : (a c n : ℕ) → place_of limit c ≢ place_of limit a →
      get_or (set words (sequence_of (place_of limit a)) n) (sequence_of (place_of limit c)) 0 ≡
      get_or words (sequence_of (place_of limit c)) 0
  word_else a c n other = get_or-set_other words (sequence_of (place_of limit a))
      (sequence_of (place_of limit c)) n 0 (λ same. other (omega arith))

  tail_kept : (a n : ℕ) → get_or (set words (sequence_of (place_of limit a)) n) 0 0 ≡
      get_or words 0 0
  tail_kept a n = get_or-set_other words (sequence_of (place_of limit a)) 0 n 0
      (λ same. omega arith)

  home_after : (a : ℕ) (home : maybe.Option (Option Write)) →
      get_elem? (set homes (place_of limit a) home) (place_of limit a) ≡ some home
  home_after a home = let count = ring.slot_count in let below =
      mod_below a limit some_limit in set_here homes (place_of limit a) home (omega arith)

  home_else : (a c : ℕ) (home : maybe.Option (Option Write)) → place_of limit c ≢ place_of limit a →
      get_elem? (set homes (place_of limit a) home) (place_of limit c) ≡
      get_elem? homes (place_of limit c)
  home_else a c home other = set_else homes (place_of limit a) (place_of limit c) home other

  -- the reader takes the slot of the next write
  pub reader_takes : s.pipe.read_whole < length s.pipe.accepted →
      AreWords limit first s true words (set homes (place_of limit s.pipe.read_whole) none)
  reader_takes some_write =
      record {
        word_count = ring.word_count;
        slot_count = length-set homes (place_of limit s.pipe.read_whole) none ∙ ring.slot_count;
        tail = ring.tail;
        places = λ c low high. dite (ℕ_discrete c s.pipe.read_whole) (λ same. next c same)
            (λ other. others c low high other);
      }
    where
      next : (c : ℕ) → c ≡ s.pipe.read_whole →
          IsPlace limit first s true words (set homes (place_of limit s.pipe.read_whole) none) c
      next c same =
          let place = ring.places c (omega arith) (omega arith) in
          record {
            free = place.free;
            empty = λ past. absurd (omega arith);
            begun = place.begun;
            stored = place.stored;
            full = λ write at stored there. absurd (⊎_elim
                (λ no. let false_is : true ≡ false = no in cc) (λ away. away same) there);
          }

      others : (c : ℕ) → s.pipe.read_whole ≤ c → c < s.pipe.read_whole + limit →
          c ≢ s.pipe.read_whole →
          IsPlace limit first s true words (set homes (place_of limit s.pipe.read_whole) none) c
      others c low high other =
          place_moves limit first s s out true words words homes
          (set homes (place_of limit s.pipe.read_whole) none) c (ring.places c low high) refl
          (home_else s.pipe.read_whole c none (apart c s.pipe.read_whole low high (omega arith)
          (omega arith) other))
          (λ past. past) (λ write at. at) (λ write at unstored. unstored)
          (λ write at unstored. unstored)
          (λ there. inr other)

  -- ---- a write is accepted

  module _ (writer : ℕ) (block : List ℕ) (not_hung : s.pipe.hung ≡ false) (room :
      length s.pipe.accepted < s.pipe.read_whole + limit) (in_turn : s.putting (writer + 1) ≡
      None) where
    abbrev write : Write
    write = record { writer = writer; bytes = block }

    abbrev last : ℕ
    last = length s.pipe.accepted

    abbrev taken : QueueState
    taken = after_entry s (Taken writer block (first + last + 1))

    longer : length taken.pipe.accepted ≡ last + 1
    longer = length-append s.pipe.accepted (write ∷ [])

    -- the slot that the put takes
    pub empty_home : get_elem? homes (place_of limit (length s.pipe.accepted)) ≡ some (some None)
    empty_home = let within =
        fits.within in (ring.places last (omega arith) (omega arith)).empty (omega arith)

    -- an older write stands, or does not, as before
    stays_unstored : (other : Write) (c : ℕ) → c < last → IsUnstored first taken other c →
        IsUnstored first s other c
    stays_unstored other c below unstored =
        dite (ℕ_discrete (other.writer + 1) (writer + 1))
        (λ same.
        let new : taken.putting (other.writer + 1) ≡ Some (first + last + 1) =
        ap taken.putting same ∙ put_here (writer + 1) (Some (first + last + 1)) s.putting in
        let number : first + last + 1 ≡ first + c + 1 =
        same_some (first + last + 1) (first + c + 1) (sym new ∙ unstored) in
        absurd (omega arith))
        (λ apart. sym (put_else (writer + 1) (other.writer +
        1) (Some (first + last + 1)) s.putting apart) ∙ unstored)

    was_unstored : (other : Write) (c : ℕ) → IsUnstored first s other c →
        IsUnstored first taken other c
    was_unstored other c unstored =
        dite (ℕ_discrete (other.writer + 1) (writer + 1))
        (λ same. let none_is : None ≡ Some (first + c + 1) = sym in_turn ∙ ap s.putting (sym same) ∙
        unstored in cc)
        (λ apart. put_else (writer + 1) (other.writer + 1) (Some (first + last + 1)) s.putting apart
        ∙ unstored)

    older : (c : ℕ) (other : Write) → c ≢ last → slice_get taken.pipe.accepted c ≡ Some other →
        (slice_get s.pipe.accepted c ≡ Some other) × (c < last)
    older c other not_last at =
        let below : c < length taken.pipe.accepted =
        slice_get_within taken.pipe.accepted c other at in
        let less : c < last = let long = longer in omega arith in
        (sym (slice_get_snoc s.pipe.accepted write c less) ∙ at, less)

    -- an accepted write makes the tail one more, and its place's slot goes to the writer
    pub put_accepts : AreWords limit first (after_entry s
        (Taken writer block (first + length s.pipe.accepted + 1))) out
        (set words 0 (length s.pipe.accepted + 1)) (set homes
        (place_of limit (length s.pipe.accepted)) none)
    put_accepts =
        record {
          word_count = length-set words 0 (last + 1) ∙ ring.word_count;
          slot_count = length-set homes (place_of limit last) none ∙ ring.slot_count;
          tail = tail_after (last + 1) ∙ sym (rw not_hung longer);
          places = λ c low high. dite (ℕ_discrete c last) (λ same. its_place c same)
              (λ other. others c low high other);
        }
      where
        its_place : (c : ℕ) → c ≡ last → IsPlace limit first taken out (set words 0 (last + 1))
            (set homes (place_of limit last) none) c
        its_place c same =
            let within = fits.within in
            let place = ring.places c (omega arith) (omega arith) in
            let long = longer in
            record {
              free = λ past. absurd (omega arith);
              empty = λ past. absurd (omega arith);
              begun = λ other at unstored. after_tail (last + 1) (place_of limit c) ∙
                  place.free (omega arith);
              stored = λ other at stored. absurd (stored (unstored_here c other same at));
              full = λ other at stored there. absurd (stored (unstored_here c other same at));
            }
          where
            unstored_here : (c : ℕ) (other : Write) → c ≡ last → slice_get taken.pipe.accepted c ≡
                Some other → IsUnstored first taken other c
            unstored_here c other same at =
                let is : write ≡ other = same_some write other
                (sym (slice_get_last s.pipe.accepted write) ∙
                ap (slice_get taken.pipe.accepted) (sym same) ∙ at) in
                ap (λ (w : Write). taken.putting (w.writer + 1)) (sym is) ∙
                put_here (writer + 1) (Some (first + last + 1)) s.putting ∙
                ap (λ (n : ℕ). Some (first + n + 1)) (sym same)

        others : (c : ℕ) → s.pipe.read_whole ≤ c → c < s.pipe.read_whole + limit → c ≢ last →
            IsPlace limit first taken out (set words 0 (last + 1))
            (set homes (place_of limit last) none) c
        others c low high other =
            let within = fits.within in
            let long = longer in
            place_moves limit first s taken out out words (set words 0 (last + 1)) homes
            (set homes (place_of limit last) none) c (ring.places c low high)
            (after_tail (last + 1) (place_of limit c))
            (home_else last c none (apart c last low high (omega arith) (omega arith) other))
            (λ past. omega arith)
            (λ w at. (older c w other at).0)
            (λ w at unstored. stays_unstored w c (older c w other at).1 unstored)
            (λ w at unstored. was_unstored w c unstored)
            (λ there. there)

  -- ---- a write stands

  module _ (write : Write) (a : ℕ) (low_a : s.pipe.read_whole ≤ a) (at_a :
      slice_get s.pipe.accepted a ≡ Some write) (unstored_a : IsUnstored first s write a) where
    abbrev stood : QueueState
    stood = after_entry s (Stood write.writer (first + a + 1))

    high_a : a < s.pipe.read_whole + limit
    high_a = let below = slice_get_within s.pipe.accepted a write at_a in let room =
        fits.room in omega arith

    -- no other write of its writer is unstored
    other_unstored : (other : Write) (c : ℕ) → c ≢ a → IsUnstored first s other c → other.writer +
        1 ≢ write.writer + 1
    other_unstored other c apart unstored same =
        let number : first + c + 1 ≡ first + a + 1 = same_some (first + c + 1) (first + a +
        1) (sym unstored ∙ ap s.putting same ∙ unstored_a) in
        apart (omega arith)

    was_put : (other : Write) (c : ℕ) → IsUnstored first stood other c →
        (other.writer + 1 ≢ write.writer + 1) × IsUnstored first s other c
    was_put other c unstored =
        dite (ℕ_discrete (other.writer + 1) (write.writer + 1))
        (λ same. let none_is : None ≡ Some (first + c + 1) =
        sym (put_here (write.writer + 1) None s.putting) ∙ ap stood.putting (sym same) ∙
        unstored in cc)
        (λ apart. (
          apart,
          sym (put_else (write.writer + 1) (other.writer + 1) None s.putting apart)
              ∙ unstored,
        ))

    -- a write that stands has its block in its place's slot, and the sequence word says so
    pub put_stands : AreWords limit first (after_entry s (Stood write.writer (first + a + 1))) out
        (set words (sequence_of (place_of limit a)) (stored_word limit a))
        (set homes (place_of limit a) (some (Some write)))
    put_stands =
        record {
          word_count = length-set words (sequence_of (place_of limit a)) (stored_word limit a) ∙
              ring.word_count;
          slot_count = length-set homes (place_of limit a) (some (Some write)) ∙ ring.slot_count;
          tail = tail_kept a (stored_word limit a) ∙ ring.tail;
          places = λ c low high. dite (ℕ_discrete c a) (λ same. its_place c same)
              (λ other. others c low high other);
        }
      where
        its_place : (c : ℕ) → c ≡ a → IsPlace limit first stood out
            (set words (sequence_of (place_of limit a)) (stored_word limit a))
            (set homes (place_of limit a) (some (Some write))) c
        its_place c same = subst (λ (n : ℕ). IsPlace limit first stood out
            (set words (sequence_of (place_of limit a)) (stored_word limit a))
            (set homes (place_of limit a) (some (Some write))) n) (sym same)
            record {
              free = λ past. let below =
                  slice_get_within s.pipe.accepted a write at_a in absurd (omega arith);
              empty = λ past. let below =
                  slice_get_within s.pipe.accepted a write at_a in absurd (omega arith);
              begun = λ other at unstored. absurd ((was_put other a unstored).0
                  (ap (λ (w : Write). w.writer + 1) (same_some other write (sym at ∙ at_a))));
              stored = λ other at stored. word_after a (stored_word limit a);
              full = λ other at stored there. home_after a (some (Some write)) ∙
                  ap (λ (w : Write). some (some (Some w))) (same_some write other (sym at_a ∙ at));
            }

        others : (c : ℕ) → s.pipe.read_whole ≤ c → c < s.pipe.read_whole + limit → c ≢ a →
            IsPlace limit first stood out (set words (sequence_of (place_of limit a))
            (stored_word limit a)) (set homes (place_of limit a) (some (Some write))) c
        others c low high other =
            let place = apart c a low high low_a high_a other in
            place_moves limit first s stood out out words
            (set words (sequence_of (place_of limit a)) (stored_word limit a)) homes
            (set homes (place_of limit a) (some (Some write))) c (ring.places c low high)
            (word_else a c (stored_word limit a) place)
            (home_else a c (some (Some write)) place)
            (λ past. past)
            (λ w at. at)
            (λ w at unstored. (was_put w c unstored).1)
            (λ w at unstored. put_else (write.writer + 1) (w.writer +
            1) None s.putting (other_unstored w c other unstored) ∙ unstored)
            (λ there. there)

  -- ---- a block is taken out

  -- a block that was taken out leaves its slot empty, and the sequence word a lap later
  pub take_frees : (writer : ℕ) (block : List ℕ) (number : ℕ) → s.pipe.read_whole <
      length s.pipe.accepted
      → AreWords limit first (after_entry s (Block writer block number)) false
      (set words (sequence_of (place_of limit s.pipe.read_whole))
      (stored_word limit s.pipe.read_whole + 1)) (set homes (place_of limit s.pipe.read_whole)
      (some None))
  take_frees writer block number some_write =
      record {
        word_count = length-set words (sequence_of (place_of limit s.pipe.read_whole))
            (stored_word limit s.pipe.read_whole + 1) ∙ ring.word_count;
        slot_count = length-set homes (place_of limit s.pipe.read_whole) (some None) ∙
            ring.slot_count;
        tail = tail_kept s.pipe.read_whole (stored_word limit s.pipe.read_whole + 1) ∙ ring.tail;
        places = λ c low high. dite (ℕ_discrete c (s.pipe.read_whole + limit))
            (λ same. new_place c same) (λ other. others c low high other);
      }
    where
      taken_out : QueueState
      taken_out = after_entry s (Block writer block number)

      new_place : (c : ℕ) → c ≡ s.pipe.read_whole + limit →
          IsPlace limit first taken_out false (set words
          (sequence_of (place_of limit s.pipe.read_whole)) (stored_word limit s.pipe.read_whole +
          1)) (set homes (place_of limit s.pipe.read_whole) (some None)) c
      new_place c same =
          let next = next_lap limit s.pipe.read_whole some_limit in
          let room = fits.room in
          let place : place_of limit s.pipe.read_whole ≡ place_of limit c = sym next.0 ∙
          ap (λ (x : ℕ). x % limit) (sym same) in
          let lap : c / limit ≡ s.pipe.read_whole / limit + 1 = ap (λ (x : ℕ). x / limit) same ∙
          next.1 in
          let word : get_or (set words (sequence_of (place_of limit s.pipe.read_whole))
          (stored_word limit s.pipe.read_whole + 1)) (sequence_of (place_of limit c)) 0 ≡
          stored_word limit s.pipe.read_whole + 1 =
          subst (λ (p : ℕ). get_or (set words (sequence_of (place_of limit s.pipe.read_whole))
          (stored_word limit s.pipe.read_whole + 1)) (sequence_of p) 0 ≡
          stored_word limit s.pipe.read_whole + 1) place
          (word_after s.pipe.read_whole (stored_word limit s.pipe.read_whole + 1)) in
          let home : get_elem? (set homes (place_of limit s.pipe.read_whole) (some None))
          (place_of limit c) ≡ some (some None) =
          subst (λ (p : ℕ). get_elem? (set homes (place_of limit s.pipe.read_whole) (some None)) p ≡
          some (some None)) place (home_after s.pipe.read_whole (some None)) in
          let past_all : (w : Write) → slice_get s.pipe.accepted c ≡ Some w → ⊥ =
          λ w at. let below = slice_get_within s.pipe.accepted c w at in omega arith in
          record {
            free = λ past. word ∙ omega arith;
            empty = λ past. home;
            begun = λ w at unstored. absurd (past_all w at);
            stored = λ w at stored. absurd (past_all w at);
            full = λ w at stored there. absurd (past_all w at);
          }

      others : (c : ℕ) → s.pipe.read_whole + 1 ≤ c → c < s.pipe.read_whole + 1 + limit →
          c ≢ s.pipe.read_whole + limit → IsPlace limit first taken_out false
          (set words (sequence_of (place_of limit s.pipe.read_whole))
          (stored_word limit s.pipe.read_whole + 1)) (set homes (place_of limit s.pipe.read_whole)
          (some None)) c
      others c low high other =
          let after : c ≢ s.pipe.read_whole = λ same. omega arith in
          let place = apart c s.pipe.read_whole (omega arith) (omega arith) (omega arith)
          (omega arith) after in
          place_moves limit first s taken_out out false words
          (set words (sequence_of (place_of limit s.pipe.read_whole))
          (stored_word limit s.pipe.read_whole + 1)) homes
          (set homes (place_of limit s.pipe.read_whole) (some None)) c
          (ring.places c (omega arith) (omega arith))
          (word_else s.pipe.read_whole c (stored_word limit s.pipe.read_whole + 1) place)
          (home_else s.pipe.read_whole c (some None) place)
          (λ past. past)
          (λ w at. at)
          (λ w at unstored. unstored)
          (λ w at unstored. unstored)
          (λ there. inr after)

  -- ---- the queue is hung up

  -- a hangup sets the mark on the tail, and changes no other word and no slot
  pub hang_marks : (seat : ℕ) → AreWords limit first (after_entry s (Hung seat)) out
      (set words 0 (bit_or (get_or words 0 0) MARK)) homes
  hang_marks seat =
      record {
        word_count = length-set words 0 (bit_or (get_or words 0 0) MARK) ∙ ring.word_count;
        slot_count = ring.slot_count;
        tail = tail_after (bit_or (get_or words 0 0) MARK) ∙
            ap (λ (n : ℕ). bit_or n MARK) ring.tail ∙ of s.pipe.hung refl;
        places = λ c low high. place_moves limit first s (after_entry s (Hung seat)) out out words
            (set words 0 (bit_or (get_or words 0 0) MARK)) homes homes c (ring.places c low high)
            (after_tail (bit_or (get_or words 0 0) MARK) (place_of limit c)) refl (λ past. past)
            (λ w at. at) (λ w at unstored. unstored) (λ w at unstored. unstored) (λ there. there);
      }
    where
      low : length s.pipe.accepted < MARK
      low = let given = fits.given in omega arith

      of : (hung : Bool) → s.pipe.hung ≡ hung → bit_or (tail_word s.pipe) MARK ≡
          length s.pipe.accepted + MARK
      of true is = rw is (marked_again (length s.pipe.accepted) low)
      of false is = rw is (marked (length s.pipe.accepted) low)
