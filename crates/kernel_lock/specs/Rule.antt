-- The rule of the lock's table, which holds between any two atomic steps.
use Rattle.std.specs.Prelude.{◌≡◌, ℕ, ◌≤◌, List, Option, Some, length, slice_index, ⊤}
use mathlib.Core.Option.{some}
use mathlib.Core.Option as maybe
use lib.ListN.{get_elem?}
use Rattle.atomic_table.specs.Table as table
use Rattle.histories.specs.History.{IsPast, IsLegal, state_after}
use Rattle.histories.specs.Ledger.{Ledger, AreSeats}
use Rattle.kernel_lock.specs.declared.view.Guarded.{Guarded}
use Rattle.kernel_lock.specs.declared.view.Key.{Key}
use Rattle.kernel_lock.specs.declared.view.Operation.{Operation}
use Rattle.kernel_lock.specs.declared.view.Stage.{Stage}
use Rattle.kernel_lock.specs.declared.view.Stage.TheVariants.{Outside, Inside, Joining}
use Rattle.kernel_lock.specs.declared.view.View.{View}
use Rattle.kernel_lock.specs.Definition.{Definition, server, meaning_of, opening_state}
use Rattle.kernel_lock.specs.View.{account_of}

-- the state of a lock: the one history with its numbers, the seat that is inside, and the word
pub record LockState (Call Reply : Type 0) : Type 0 where
  pub ledger : Ledger (Operation Call Reply)
  pub holder : ℕ
  pub word : ℕ

module _ {Call Reply : Type 0} (now : LockState Call Reply) (seat : ℕ) where
  -- the seat is the one that is inside: the word is 1, and it knows the history
  -- and how many seats were given
  pub record IsInside (known : List (Operation Call Reply)) (given : ℕ) : Type 0 where
    pub history_is : known ≡ now.ledger.history
    pub given_is : given ≡ now.ledger.next
    pub holder_is : seat ≡ now.holder
    pub word_is : now.word ≡ 1

  abbrev pub FitsStage : ℕ → Stage Call Reply → Type 0
  FitsStage given Outside = ⊤
  FitsStage given (Inside known) = IsInside known given
  FitsStage given (Joining other) = IsPast other now.ledger.history

  pub record FitsLock {Object : Type 0} (view : View Object Call Reply) : Type 0 where
    -- the seat knows of no more seats than were given
    pub given : view.given ≤ now.ledger.next
    -- a seat that is inside is the only one; a joined seat saw a past of the history also before
    pub stage : FitsStage view.given view.stage

module _ {Object State Call Reply : Type 0}
    (definition : Definition Object State Call Reply) where
  -- the object lies in the slot as the history leaves it, and beside it lies the next number
  pub record IsAtHome (key : Key Object) (ledger : Ledger (Operation Call Reply))
      (homes : List (maybe.Option (Option (Guarded Object)))) : Type 0 where
    pub guarded : Guarded Object
    pub there : get_elem? homes 0 ≡ some (some (Some guarded))
    pub object : definition.state guarded.object ≡
        state_after (meaning_of definition) (opening_state definition key) ledger.history
    pub next_is : guarded.next ≡ ledger.next

  -- one legal history, which each seat has seen in part, and which has the seat's requests once
  -- each
  pub record IsOneHistory (key : Key Object)
      (s : table.State (Option (Guarded Object)) (View Object Call Reply)) : Type 0 where
    -- the history, and who has which number
    pub ledger : Ledger (Operation Call Reply)
    -- the seat that is inside, where there is one
    pub holder : ℕ
    -- the table has one word
    pub one_word : length s.words ≡ 1
    -- the history is legal from the opening on
    pub legal : IsLegal (meaning_of definition) (opening_state definition key) ledger.history
    -- no more numbers were given than the lock may give
    pub limit : ledger.next ≤ key.limit
    -- where the word is 0 the object is at home
    pub home : slice_index s.words 0 ≡ 0 → IsAtHome key ledger s.homes
    -- all seats fit the one history, and no number comes from nowhere
    pub seats : AreSeats server account_of ledger s.views
    -- each seat fits the lock
    pub each_seat : (seat : ℕ) (view : View Object Call Reply) →
        get_elem? s.views seat ≡ some view →
        FitsLock record { ledger = ledger; holder = holder; word = slice_index s.words 0 } seat view
