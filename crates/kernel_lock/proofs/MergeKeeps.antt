-- The step Merge keeps the rule: the joined seat has the numbers of both, and both had seen pasts
-- of the history.
use Rattle.std.proofs.Common.{◌≡◌, ◌≢◌, ℕ, set, get_or, refl, sym, ◌∙◌, arith}
use mathlib.Core.Option.{some}
use lib.ListN.{get_elem?}
use Rattle.atomic_table.specs.Table as table
use Rattle.histories.specs.Ledger.{ledger_joined}
use Rattle.histories.proofs.ListLemmas.{each_set, set_else}
use Rattle.histories.proofs.SeatsKeep.{seats_join, seen_before_join}
use Rattle.kernel_lock.specs.declared.view.Key.{Key}
use Rattle.kernel_lock.specs.declared.view.View.{View}
use Rattle.kernel_lock.specs.Definition.{Definition, server}
use Rattle.kernel_lock.specs.Rule.{LockState, FitsLock, IsOneHistory}
use Rattle.kernel_lock.specs.View.{account_of, joined_view, spent_view}
use Rattle.kernel_lock.proofs.RuleLemmas.{lock_stays}

module _ {Object State Call Reply : Type 0}
    (definition : Definition Object State Call Reply) where
  -- of two seats one may be made that has the numbers of both, while the other is spent
  pub merge_keeps : (key : Key Object) (id : ℕ) (first : View Object Call Reply) (other : ℕ)
      (second : View Object Call Reply) →
      table.Joins (IsOneHistory definition key) id first other second (joined_view first second)
      spent_view
  merge_keeps key id first other second s rule at apart there =
      record {
        ledger = ledger_joined id other rule.ledger;
        holder = rule.holder;
        one_word = rule.one_word;
        legal = rule.legal;
        limit = rule.limit;
        home = λ free.
            let home = rule.home free in
            record {
              guarded = home.guarded;
              there = home.there;
              object = home.object;
              next_is = home.next_is;
            };
        seats = seats_join server account_of rule.ledger s.views id other first second
            (joined_view first second) spent_view rule.seats at apart at_other refl refl;
        each_seat = each_set (λ seat view. FitsLock after seat view)
            (set s.views id (joined_view first second)) other spent_view
            record { given = omega arith; stage = tt }
            (λ seat view unspent at_seat.
            each_set (λ place its. FitsLock after place its) s.views id (joined_view first second)
            joined others seat view at_seat);
      }
    where
      at_other : get_elem? s.views other ≡ some second
      at_other = sym (set_else s.views id other (joined_view first second) apart) ∙ there

      now : LockState Call Reply
      now = record { ledger = rule.ledger; holder = rule.holder; word = get_or s.words 0 0 }

      after : LockState Call Reply
      after =
          record {
            ledger = ledger_joined id other rule.ledger;
            holder = rule.holder;
            word = get_or s.words 0 0;
          }

      joined : FitsLock after id (joined_view first second)
      joined =
          let one = (rule.each_seat id first at).given in
          let two = (rule.each_seat other second at_other).given in
          record {
            given = omega arith;
            stage = (seen_before_join server account_of rule.ledger s.views id other first second
                (joined_view first second) spent_view rule.seats at apart at_other refl
                refl).shorter;
          }

      others : (seat : ℕ) (view : View Object Call Reply) → seat ≢ id →
          get_elem? s.views seat ≡ some view → FitsLock after seat view
      others seat view apart at_seat =
          lock_stays now after.ledger.owner after.ledger.parent seat view
          (rule.each_seat seat view at_seat)
