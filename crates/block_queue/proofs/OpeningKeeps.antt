-- The rule holds when the queue is made: the history is empty, and all places are free.
use Rattle.std.proofs.Common.{◌≡◌, ℕ, zero, suc, false, ◌/◌, ◌%◌, ◌<◌, ◌≤◌, List, [], ◌∷◌}
use Rattle.std.proofs.Common.{length, get_or, map, refl, sym, subst, ◌∙◌, arith, None, Some}
use Rattle.std.specs.Prelude.{replicate, Option, slice_get}
use Rattle.std.specs.List.{AllByRecursion}
use Rattle.std.proofs.Math.Nat.{div-eq_of_lt, mod-eq_of_lt}
use mathlib.Core.Option.{some, some-injective, some-ne-none}
use lib.ListN.{get_elem?}
use Rattle.atomic_table.specs.Table as table
use Rattle.histories.specs.declared.account.Share.{Share}
use Rattle.histories.specs.Account.{unused_share, numbers_from}
use Rattle.histories.specs.History.{IsPast}
use Rattle.histories.specs.Ledger.{opening_ledger}
use Rattle.histories.proofs.SeatsKeep.{seats_open}
use Rattle.sync_base.specs.Write.{Write}
use Rattle.sync_base.specs.declared.limits.TheConstants.{LAST_WRITE}
use Rattle.block_queue.specs.declared.entry.Entry.{Entry}
use Rattle.block_queue.specs.declared.view.Key.{Key}
use Rattle.block_queue.specs.declared.view.View.{View}
use Rattle.block_queue.specs.History.{seat_of, opening_state}
use Rattle.block_queue.specs.Places.{Homes, IsPlace, AreWords, place_of, sequence_of, ring_words}
use Rattle.block_queue.specs.Rule.{IsOneQueue, FitsView, account_of, first_view}

abbrev no_block : Option Write
no_block = None

zero_there : (n i : ℕ) → ◌≡◌ {A = ℕ} (get_or (replicate n 0) i 0) 0
zero_there zero i = refl
zero_there (suc n) zero = refl
zero_there (suc n) (suc i) = zero_there n i

empty_there : (n i : ℕ) → i < n → get_elem? (map some (replicate n no_block)) i ≡ some (some None)
empty_there zero i below = absurd (omega arith)
empty_there (suc n) zero below = refl
empty_there (suc n) (suc i) below = empty_there n i (omega arith)

length-replicate : {A : Type 0} (n : ℕ) (a : A) → length (replicate n a) ≡ n
length-replicate zero a = refl
length-replicate (suc n) a = let e = length-replicate n a in omega arith

length-homes : (n : ℕ) → length (map some (replicate n no_block)) ≡ n
length-homes zero = refl
length-homes (suc n) = let e = length-homes n in omega arith

no_puts_yet : (numbers : List ℕ) → AllByRecursion
    (λ (share : Share Entry). ◌≡◌ {A = Option ℕ} None None) (map unused_share numbers)
no_puts_yet [] = tt
no_puts_yet (number ∷ numbers) = (refl, no_puts_yet numbers)

module _ (key : Key) (some_room : 0 < key.limit) (given : key.first ≤ LAST_WRITE) where
  abbrev words : List ℕ
  words = replicate (ring_words key.limit) 0

  abbrev homes : Homes
  homes = map some (replicate key.limit no_block)

  opening_words : AreWords key.limit key.first (opening_state key.limit) false words homes
  opening_words =
      record {
        word_count = length-replicate (ring_words key.limit) 0;
        slot_count = length-homes key.limit;
        tail = zero_there (ring_words key.limit) 0;
        places = λ count low high. place count (omega arith);
      }
    where
      no_write : (count : ℕ) (write : Write) → slice_get [] count ≡ Some write → ⊥
      no_write zero write at = cc
      no_write (suc count) write at = cc

      place : (count : ℕ) → count < key.limit →
          IsPlace key.limit key.first (opening_state key.limit) false words homes count
      place count below =
          let lap : count / key.limit ≡ 0 = div-eq_of_lt below in
          let same : count % key.limit ≡ count = mod-eq_of_lt below in
          record {
            free = λ past.
                zero_there (ring_words key.limit) (sequence_of (place_of key.limit count)) ∙
                omega arith;
            empty = λ past. empty_there key.limit (count % key.limit) (omega arith);
            begun = λ write at unstored. absurd (no_write count write at);
            stored = λ write at stored. absurd (no_write count write at);
            full = λ write at stored there. absurd (no_write count write at);
          }

  -- words of zero, empty slots and the one seat that has all numbers keep the rule
  pub opening_keeps : IsOneQueue key (table.opening (replicate (ring_words key.limit) 0)
      (replicate key.limit None) (first_view key))
  opening_keeps =
      record {
        ledger = opening_ledger key.writers;
        out = false;
        some_room = some_room;
        first_given = given;
        legal = tt;
        writers = omega arith;
        words = opening_words;
        seats = seats_open seat_of account_of key.writers (first_view key) refl;
        views = each;
        pasts = none;
      }
    where
      first_fits : FitsView key.limit key.first (opening_state key.limit) false 0 0 (first_view key)
      first_fits =
          record {
            puts = (refl, no_puts_yet (numbers_from 1 key.writers));
            reader_knows = λ reader. record { taken = refl; out_is = refl };
            stage = tt;
          }

      none : (seat : ℕ) (view : View) → get_elem? (first_view key ∷ []) seat ≡ some view →
          AllByRecursion (λ past. IsPast past []) view.pasts
      none zero view at = subst (λ (v : View). AllByRecursion (λ past. IsPast past []) v.pasts)
          (some-injective (first_view key) view at) tt
      none (suc seat) view at = absurd (some-ne-none view (sym at))

      each : (seat : ℕ) (view : View) → get_elem? (first_view key ∷ []) seat ≡ some view →
          FitsView key.limit key.first (opening_state key.limit) false 0 seat view
      each zero view at = subst (λ (v : View). FitsView key.limit key.first
          (opening_state key.limit) false 0 0 v) (some-injective (first_view key) view at)
          first_fits
      each (suc seat) view at = absurd (some-ne-none view (sym at))
