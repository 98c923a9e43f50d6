-- What the seat that gathers learns from its steps.
use Rattle.std.specs.Prelude.{◌≡◌, ℕ, ◌≤◌, List, None}
use Rattle.std.specs.List.{AllByRecursion}
use Rattle.histories.specs.Account.{HasAllNumbers}
use Rattle.histories.specs.History.{IsPast}
use Rattle.sync_base.specs.declared.limits.TheConstants.{LAST_WRITE}
use Rattle.block_queue.specs.declared.entry.Entry.{Entry}
use Rattle.block_queue.specs.declared.view.Key.{Key}
use Rattle.block_queue.specs.declared.view.View.{View}
use Rattle.block_queue.specs.Meaning.{KnowsQueue, queue_after}
use Rattle.block_queue.specs.Places.{tail_word}
use Rattle.block_queue.specs.Steps.{Seated}

-- the tail and the seat give the state that this history leaves, and no put is under way
pub record KnowsState (key : Key) (view : View) (found : ℕ) (history : List Entry) : Type 0 where
  pub tail : found ≡ tail_word (queue_after key history).pipe
  pub taken : view.taken ≡ (queue_after key history).pipe.read_whole
  pub puts : (number : ℕ) → (queue_after key history).putting number ≡ None
  pub given : key.first ≤ LAST_WRITE
  -- what the joined seats had seen are pasts of the history too
  pub pasts : AllByRecursion (λ past. IsPast past history) view.pasts

-- Survey: a seat that has all the numbers has seen the whole history, and the tail gives its state
pub record HasSurveyed (key : Key) (before : Seated) (found : ℕ) (after : Seated) : Type 0 where
  pub same : after ≡ before
  pub knows : KnowsQueue key before.0.account
  pub alone : HasAllNumbers before.0.account → KnowsState key before.0 found before.0.account.seen
