-- Facts on the rule: a seat that makes no step still fits, what the rule says of one seat,
-- and how the rule is put together again after a step.
use Rattle.std.proofs.Common.{◌≡◌, ◌≢◌, ℕ, ◌≤◌, List, length, set, get_or, sym, subst, ◌∙◌}
use Rattle.std.proofs.Common.{arith, length-set, get_or-set_same, Option}
use mathlib.Core.Option.{some}
use mathlib.Core.Option as maybe
use lib.ListN.{get_elem?}
use Rattle.atomic_table.specs.Table as table
use Rattle.histories.specs.History.{IsPast, IsLegal}
use Rattle.histories.specs.Account.{KnowsHistory}
use Rattle.histories.specs.Ledger.{Ledger, AreSeats}
use Rattle.histories.proofs.ListLemmas.{past_trans, each_set}
use Rattle.histories.proofs.SeatsKeep as seats
use Rattle.kernel_lock.specs.declared.view.Guarded.{Guarded}
use Rattle.kernel_lock.specs.declared.view.Key.{Key}
use Rattle.kernel_lock.specs.declared.view.Operation.{Operation}
use Rattle.kernel_lock.specs.declared.view.Stage.{Stage}
use Rattle.kernel_lock.specs.declared.view.Stage.TheVariants.{Outside, Inside, Joining}
use Rattle.kernel_lock.specs.declared.view.View.{View}
use Rattle.kernel_lock.specs.Definition.{Definition, server, meaning_of, opening_state}
use Rattle.kernel_lock.specs.Rule.{LockState, FitsStage, FitsLock, IsAtHome, IsOneHistory}
use Rattle.kernel_lock.specs.View.{account_of}

module _ {Call Reply : Type 0} where
  -- a stage of a seat that is not inside still fits when the history grows
  pub stage_moves : (now now' : LockState Call Reply) (seat given : ℕ)
      (stage : Stage Call Reply) → FitsStage now seat given stage →
      IsPast now.ledger.history now'.ledger.history → (seat ≡ now.holder → now.word ≡ 1 → ⊥) →
      FitsStage now' seat given stage
  stage_moves now now' seat given Outside fits grows not_inside = tt
  stage_moves now now' seat given (Inside known) fits grows not_inside =
      absurd (not_inside fits.holder_is fits.word_is)
  stage_moves now now' seat given (Joining other) fits grows not_inside =
      past_trans other now.ledger.history now'.ledger.history fits grows

  -- and so does what it knows of the lock
  pub lock_moves : {Object : Type 0} (now now' : LockState Call Reply) (seat : ℕ)
      (view : View Object Call Reply) → FitsLock now seat view →
      IsPast now.ledger.history now'.ledger.history → now.ledger.next ≤ now'.ledger.next →
      (seat ≡ now.holder → now.word ≡ 1 → ⊥) → FitsLock now' seat view
  lock_moves now now' seat view fits grows more not_inside =
      let given = fits.given in
      record {
        given = omega arith;
        stage = stage_moves now now' seat view.given view.stage fits.stage grows not_inside;
      }

  -- who has which number is nothing to them
  stage_stays : (now : LockState Call Reply) (owner parent : ℕ → ℕ) (seat given : ℕ)
      (stage : Stage Call Reply) → FitsStage now seat given stage →
      FitsStage
      record {
        ledger = record now.ledger { owner = owner; parent = parent };
        holder = now.holder;
        word = now.word;
      }
      seat given stage
  stage_stays now owner parent seat given Outside fits = tt
  stage_stays now owner parent seat given (Inside known) fits =
      record {
        history_is = fits.history_is;
        given_is = fits.given_is;
        holder_is = fits.holder_is;
        word_is = fits.word_is;
      }
  stage_stays now owner parent seat given (Joining other) fits = fits

  -- a seat that fits the lock still fits where numbers change their owner or their parent
  pub lock_stays : {Object : Type 0} (now : LockState Call Reply) (owner parent : ℕ → ℕ)
      (seat : ℕ) (view : View Object Call Reply) → FitsLock now seat view →
      FitsLock
      record {
        ledger = record now.ledger { owner = owner; parent = parent };
        holder = now.holder;
        word = now.word;
      }
      seat view
  lock_stays now owner parent seat view fits =
      record {
        given = fits.given;
        stage = stage_stays now owner parent seat view.given view.stage fits.stage;
      }

module _ {Object State Call Reply : Type 0}
    (definition : Definition Object State Call Reply) where
  -- the lock's table at any moment: its words, its slots, and what each seat knows
  abbrev pub Table : Type 0
  Table = table.State (Option (Guarded Object)) (View Object Call Reply)

  -- what a seat knows is a past of the one history
  pub knows_history : (key : Key Object) (s : Table) (rule : IsOneHistory definition key s)
      (id : ℕ) (view : View Object Call Reply) → get_elem? s.views id ≡ some view →
      KnowsHistory (meaning_of definition) (opening_state definition key) key.limit view.account
  knows_history key s rule id view at =
      seats.knows_history (meaning_of definition) (opening_state definition key) key.limit
      rule.ledger id view.account rule.legal rule.seats.by_given rule.limit
      (rule.seats.each_seat id view at)

  -- the rule after a step of one seat that stores a number into the word
  pub rule_after : (key : Key Object) (s : Table)
      (homes : List (maybe.Option (Option (Guarded Object)))) (id n : ℕ)
      (after : View Object Call Reply) (ledger : Ledger (Operation Call Reply)) (holder : ℕ) →
      length s.words ≡ 1 →
      IsLegal (meaning_of definition) (opening_state definition key) ledger.history →
      ledger.next ≤ key.limit → (n ≡ 0 → IsAtHome definition key ledger homes) →
      AreSeats server account_of ledger (set s.views id after) →
      FitsLock record { ledger = ledger; holder = holder; word = n } id after →
      ((seat : ℕ) (view : View Object Call Reply) → seat ≢ id →
      get_elem? s.views seat ≡ some view →
      FitsLock record { ledger = ledger; holder = holder; word = n } seat view) →
      IsOneHistory definition key
      record { words = set s.words 0 n; homes = homes; views = set s.views id after }
  rule_after key s homes id n after ledger holder one_word legal limit home all own others =
      record {
        ledger = ledger;
        holder = holder;
        one_word = length-set s.words 0 n ∙ one_word;
        legal = legal;
        limit = limit;
        home = λ free. home (sym word ∙ free);
        seats = all;
        each_seat = λ seat view at.
            subst
            (λ (w : ℕ). FitsLock record { ledger = ledger; holder = holder; word = w } seat view)
            (sym word)
            (each_set (λ place its. FitsLock record { ledger = ledger; holder = holder; word = n }
            place its) s.views id after own others seat view at);
      }
    where
      word : get_or (set s.words 0 n) 0 0 ≡ n
      word = get_or-set_same s.words 0 n 0 (omega arith)

  -- a step that leaves the word, and the seat's account
  pub sits : (key : Key Object) (s : Table) (rule : IsOneHistory definition key s) (id : ℕ)
      (before after : View Object Call Reply) → get_elem? s.views id ≡ some before →
      after.account ≡ before.account →
      FitsLock record { ledger = rule.ledger; holder = rule.holder; word = get_or s.words 0 0 }
      id after →
      IsOneHistory definition key record {
        words = set s.words 0 (get_or s.words 0 0);
        homes = s.homes;
        views = set s.views id after;
      }
  sits key s rule id before after at same fits =
      rule_after key s s.homes id (get_or s.words 0 0) after rule.ledger rule.holder rule.one_word
      rule.legal rule.limit rule.home
      (seats.seats_stay server account_of rule.ledger s.views id before after rule.seats at same)
      fits (λ seat view other there. rule.each_seat seat view there)
