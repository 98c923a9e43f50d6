-- The rule holds when the lock is made: the history is empty, and the object is at home.
use Rattle.std.proofs.Common.{◌≡◌, ℕ, zero, suc, ◌<◌, List, [], ◌∷◌, refl, sym, ap, subst}
use Rattle.std.proofs.Common.{arith}
use Rattle.std.proofs.Common.{Some}
use mathlib.Core.Option.{some, some-injective, some-ne-none}
use lib.ListN.{get_elem?}
use Rattle.atomic_table.specs.Table as table
use Rattle.histories.specs.Ledger.{opening_ledger}
use Rattle.histories.proofs.SeatsKeep.{seats_open}
use Rattle.kernel_lock.specs.declared.view.Guarded.{Guarded}
use Rattle.kernel_lock.specs.declared.view.Key.{Key}
use Rattle.kernel_lock.specs.declared.view.View.{View}
use Rattle.kernel_lock.specs.Definition.{Definition, server}
use Rattle.kernel_lock.specs.Rule.{LockState, FitsLock, IsOneHistory}
use Rattle.kernel_lock.specs.Steps.{Slot}
use Rattle.kernel_lock.specs.View.{account_of, first_view}

module _ {Object State Call Reply : Type 0}
    (definition : Definition Object State Call Reply) where
  opening_keeps : (key : Key Object) (guarded : Guarded Object) →
      guarded.object ≡ key.opening.value → guarded.next ≡ 1 → 0 < key.limit →
      IsOneHistory definition key
      (table.opening (0 ∷ []) (Some guarded ∷ []) (first_view key))
  opening_keeps key guarded object_is next_is within =
      record {
        ledger = opening_ledger 0;
        holder = 0;
        one_word = refl;
        legal = tt;
        limit = omega arith;
        home = λ free. record {
          guarded = guarded;
          there = refl;
          object = ap definition.state object_is;
          next_is = next_is;
        };
        seats = seats_open server account_of 0 (first_view key) refl;
        each_seat = each_seat;
      }
    where
      now : LockState Call Reply
      now = record { ledger = opening_ledger 0; holder = 0; word = 0 }

      each_seat : (seat : ℕ) (view : View Object Call Reply) →
          get_elem? (first_view key ∷ []) seat ≡ some view → FitsLock now seat view
      each_seat zero view at =
          subst (λ (v : View Object Call Reply). FitsLock now 0 v)
          (some-injective (first_view key) view at) record { given = omega arith; stage = tt }
      each_seat (suc seat) view at = absurd (some-ne-none view (sym at))

  -- a table with word 0, the object in its slot and the first seat alone fits the empty history
  pub opened_keeps : (key : Key Object) (guarded : Guarded Object) (slots : List (Slot Object)) →
      slots ≡ Some guarded ∷ [] → guarded.object ≡ key.opening.value →
      guarded.next ≡ 1 → 0 < key.limit →
      IsOneHistory definition key (table.opening (0 ∷ []) slots (first_view key))
  opened_keeps key guarded slots slots_are object_is next_is within =
      subst
      (λ (xs : List (Slot Object)). IsOneHistory definition key
      (table.opening (0 ∷ []) xs (first_view key)))
      (sym slots_are) (opening_keeps key guarded object_is next_is within)
