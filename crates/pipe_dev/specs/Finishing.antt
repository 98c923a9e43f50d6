-- What is held when all ends of a direction are given back, and what was accepted from each writer.
use Rattle.std.specs.Prelude.{◌≡◌, ◌+◌, ℕ, Bool, List, [], ◌∷◌, ◌++◌, drop, Option, Some, None}
use Rattle.std.specs.List.{AllByRecursion}
use Rattle.histories.specs.declared.account.Share.{Share}
use Rattle.histories.specs.History.{IsPast, IsHistory, entries_by}
use Rattle.histories.specs.Account.{HasItsEntries}
use Rattle.sync_base.specs.Pipe.{PipeState}
use Rattle.sync_base.specs.Write.{Write}
use Rattle.block_queue.specs.declared.entry.Entry.{Entry}
use Rattle.block_queue.specs.declared.entry.Entry.TheVariants.{Taken}
use Rattle.block_queue.specs.declared.view.Key.{Key}
use Rattle.block_queue.specs.History.{seat_of, opening_state}
use Rattle.block_queue.specs.Meaning.{queue_meaning, queue_after}
use Rattle.block_queue.specs.Seats.{key_of}
use Rattle.pipe_dev.specs.declared.closing.Held.{Held}
use Rattle.pipe_dev.specs.Ends.{ReadSide, WriteSide, reading_of}
use Rattle.pipe_dev.specs.Parts.{Part}
use Rattle.pipe_dev.specs.Reading.{Reading}

-- what the direction holds: the rest of a write that was begun, the writes that no read has begun,
-- the oldest first, and whether it is hung up
pub record Holdings : Type 0 where
  pub rest : List ℕ
  pub writes : List Write
  pub hung : Bool

abbrev pub rest_bytes : Option Part → List ℕ
rest_bytes None = []
rest_bytes (Some rest) = rest.bytes

abbrev pub holdings_of : Held → Holdings
holdings_of held =
    record { rest = held.rest; writes = held.writes.items; hung = held.hung }

-- the numbers of the write ends, each with its entries
abbrev pub shares_of : List WriteSide → List (Share Entry)
shares_of [] = []
shares_of (write ∷ writes) = write.account.shares ++ shares_of writes

-- the writes that a writer's entries say were accepted, the oldest first
abbrev pub accepted_in : List Entry → List (List ℕ)
accepted_in [] = []
accepted_in (Taken writer block number ∷ past) = accepted_in past ++ block ∷ []
accepted_in (entry ∷ past) = accepted_in past

-- the state of the direction that a history leaves
abbrev pub left_state : Key → List Entry → PipeState
left_state key history = (queue_after key history).pipe

-- All ends of a direction are given back: there is one legal history, with just the entries of each
-- writer; the read end saw a past of it, with all entries of the reader; and what is held is what
-- that history leaves.
pub record Finishes (key : Key) (reading : Reading) (writers : List (Share Entry))
    (held : Holdings) : Type 0 where
  pub history : List Entry
  pub legal : IsHistory (queue_meaning key.first) (opening_state key.limit) (key.writers + 1)
      history
  pub seen : IsPast reading.account.seen history
  pub no_more_read : entries_by seat_of 0 history ≡ entries_by seat_of 0 reading.account.seen
  pub shares : AllByRecursion (HasItsEntries seat_of history) writers
  pub rest : held.rest ≡ rest_bytes reading.rest
  pub writes : held.writes ≡
      drop (left_state key history).read_whole (left_state key history).accepted
  pub hung : held.hung ≡ (left_state key history).hung

-- what each of these write ends has seen is a past of the history
abbrev pub HaveSeen : List Entry → List WriteSide → Type 0
HaveSeen history writes = AllByRecursion (λ write. IsPast write.account.seen history) writes

-- all ends of a direction are given back, and what each write end has seen is a past of the history
-- too
pub record FinishesEnds (read : ReadSide) (parts : List Part) (writes : List WriteSide)
    (held : Held) : Type 0 where
  pub finishes : Finishes (key_of read.queue) (reading_of read parts) (shares_of writes)
      (holdings_of held)
  pub writers_seen : HaveSeen finishes.history writes

-- what a finish gave is what such ends hold, whatever parts the read end has read
abbrev pub GivesHeld : ReadSide → List WriteSide → Held → Type 0
GivesHeld read writes held = (parts : List Part) → FinishesEnds read parts writes held
