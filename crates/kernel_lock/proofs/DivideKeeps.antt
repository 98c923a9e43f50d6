-- The step Divide keeps the rule: the seat inside gives the next number, which nobody has,
-- to a new seat.
use Rattle.std.proofs.Common.{◌≡◌, ◌≢◌, ℕ, ◌+◌, ◌<◌, List, length, set, get_or}
use Rattle.std.proofs.Common.{sym, ap, subst, ◌∙◌, arith}
use mathlib.Core.Option.{some}
use lib.ListN.{get_elem?}
use Rattle.atomic_table.specs.Table as table
use Rattle.histories.specs.Changes.{parent_account, child_account}
use Rattle.histories.specs.Ledger.{ledger_gave}
use Rattle.histories.proofs.ListLemmas.{past_refl, each_set, each_end}
use Rattle.histories.proofs.SeatsKeep.{seats_split}
use Rattle.kernel_lock.specs.declared.view.Key.{Key}
use Rattle.kernel_lock.specs.declared.view.Operation.{Operation}
use Rattle.kernel_lock.specs.declared.view.Stage.{Stage}
use Rattle.kernel_lock.specs.declared.view.Stage.TheVariants.{Inside}
use Rattle.kernel_lock.specs.declared.view.View.{View}
use Rattle.kernel_lock.specs.Definition.{Definition, server}
use Rattle.kernel_lock.specs.Rule.{LockState, IsInside, FitsStage, FitsLock, IsOneHistory}
use Rattle.kernel_lock.specs.View.{HasOwn, account_of, parent_view, child_view}
use Rattle.kernel_lock.proofs.RuleLemmas.{lock_moves}

module _ {Object State Call Reply : Type 0}
    (definition : Definition Object State Call Reply) where
  -- a seat that is inside and knows of room below the limit may give the next number to a new seat
  pub divide_keeps : (key : Key Object) (id : ℕ) (before : View Object Call Reply)
      (history : List (Operation Call Reply)) → before.stage ≡ Inside history →
      before.given < key.limit → HasOwn before →
      table.Splits (IsOneHistory definition key) id before (parent_view before) (child_view before)
  divide_keeps key id before history stage_is room own s rule at =
      record {
        ledger = ledger_gave before.account.number new_seat rule.ledger;
        holder = rule.holder;
        one_word = rule.one_word;
        legal = rule.legal;
        limit = omega (arith, inside.given_is);
        home = λ free. let word_is = inside.word_is in absurd (omega arith);
        seats = seats_split server account_of rule.ledger s.views id before.account.number before
            (parent_view before) (child_view before) rule.seats at own
            (ap (λ (n : ℕ). parent_account n before.account) inside.given_is)
            (ap (λ (n : ℕ). child_account n before.account) inside.given_is);
        each_seat = each_end (λ seat view. FitsLock after seat view)
            (set s.views id (parent_view before)) (child_view before)
            record { given = omega (arith, inside.given_is); stage = tt }
            (each_set (λ seat view. FitsLock after seat view) s.views id (parent_view before)
            parent_fits others);
      }
    where
      now : LockState Call Reply
      now = record { ledger = rule.ledger; holder = rule.holder; word = get_or s.words 0 0 }

      new_seat : ℕ
      new_seat = length (set s.views id (parent_view before))

      after : LockState Call Reply
      after =
          record {
            ledger = ledger_gave before.account.number new_seat rule.ledger;
            holder = rule.holder;
            word = get_or s.words 0 0;
          }

      inside : IsInside now id history before.given
      inside =
          subst (λ (stage : Stage Call Reply). FitsStage now id before.given stage) stage_is
          (rule.each_seat id before at).stage

      parent_fits : FitsLock after id (parent_view before)
      parent_fits =
          record {
            given = omega (arith, inside.given_is);
            stage = subst (λ (stage : Stage Call Reply). FitsStage after id
                (before.given + 1) stage)
                (sym stage_is)
                record {
                  history_is = inside.history_is;
                  given_is = ap (λ (n : ℕ). n + 1) inside.given_is;
                  holder_is = inside.holder_is;
                  word_is = inside.word_is;
                };
          }

      others : (seat : ℕ) (view : View Object Call Reply) → seat ≢ id →
          get_elem? s.views seat ≡ some view → FitsLock after seat view
      others seat view other there =
          lock_moves now after seat view (rule.each_seat seat view there)
          (past_refl rule.ledger.history) (omega arith)
          (λ holder one. other (holder ∙ sym inside.holder_is))
