-- What the entries of a queue mean, in the words of all histories.
use Rattle.std.specs.Prelude.{ℕ, ◌+◌, List}
use Rattle.histories.specs.declared.account.Account.{Account}
use Rattle.histories.specs.Account.{KnowsHistory}
use Rattle.histories.specs.Changes.{AddsEntry}
use Rattle.histories.specs.History.{Meaning, state_after}
use Rattle.block_queue.specs.declared.entry.Entry.{Entry}
use Rattle.block_queue.specs.declared.view.Key.{Key}
use Rattle.block_queue.specs.History.{QueueState, IsRight, seat_of, after_entry, opening_state}

abbrev pub queue_meaning : ℕ → Meaning QueueState Entry
queue_meaning first = record { by = seat_of; IsRight = IsRight first; after = after_entry }

-- the state that a history of this queue leaves
abbrev pub queue_after : Key → List Entry → QueueState
queue_after key history = state_after (queue_meaning key.first) (opening_state key.limit) history

-- what the seat has seen is a legal history of the queue, with each of its own entries once
abbrev pub KnowsQueue : Key → Account Entry → Type 0
KnowsQueue key account =
    KnowsHistory (queue_meaning key.first) (opening_state key.limit) (key.writers + 1) account

-- the seat made this entry: what it has seen ends with it, and is legal
pub record Enters (key : Key) (entry : Entry) (old new : Account Entry) : Type 0 where
  pub adds : AddsEntry seat_of entry old new
  pub knows : KnowsQueue key new
