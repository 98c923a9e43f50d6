-- The moments of a ring's table, from step to step, and the order in time. Own: the rule holds at
-- each moment, and what a seat knows changes by its own steps alone, as the table promises.
use Rattle.std.specs.Prelude.{ℕ, ◌+◌, Option}
use Rattle.atomic_table.specs.Table as table
use Rattle.histories.specs.History.{IsHistory}
use Rattle.histories.specs.Time.{IsStep, IsLinearizable}
use Rattle.sync_base.specs.Write.{Write}
use Rattle.block_queue.specs.declared.view.Key.{Key}
use Rattle.block_queue.specs.declared.view.View.{View}
use Rattle.block_queue.specs.GatherSteps.{HasSurveyed}
use Rattle.block_queue.specs.History.{seat_of, opening_state}
use Rattle.block_queue.specs.Meaning.{queue_meaning}
use Rattle.block_queue.specs.Rule.{IsOneQueue, account_of, spent_view}
use Rattle.block_queue.specs.Steps.{Seated, Asked, HasPutTail, HasPutSequence, HasAccepted}
use Rattle.block_queue.specs.Steps.{HasStored, HasTakeReady, HasTakeTail, HasTakeSequence}
use Rattle.block_queue.specs.Steps.{HasFreed, HasHung, keeper_view, handed_view, joined_view}

-- the ring's table between two steps
abbrev pub Moment : Type 0
Moment = table.State (Option Write) View

module _ (key : Key) where
  -- what a seat learns from a step of each kind; beside these a seat is handed, and two are joined
  pub data Learns (old : Seated) (found : ℕ) (new : Seated) : Type 0 where
    put_tail : (asked : Asked) → HasPutTail asked old found new → Learns old found new
    put_sequence : (asked : Asked) → HasPutSequence asked old found new → Learns old found new
    accept : (asked : Asked) → HasAccepted asked old found new → Learns old found new
    store : (asked : Asked) → HasStored asked old new → Learns old found new
    take_ready : HasTakeReady key old found new → Learns old found new
    take_tail : HasTakeTail key old found new → Learns old found new
    take_sequence : HasTakeSequence key old found new → Learns old found new
    free_place : (write : Write) → HasFreed key write old new → Learns old found new
    hang : HasHung key old new → Learns old found new
    survey : HasSurveyed key old found new → Learns old found new

  -- from one moment to the next
  abbrev pub Steps : Moment → Moment → Type 0
  Steps before after =
      IsStep Learns keeper_view handed_view joined_view spent_view before.views after.views

-- Own. Each ring is linearizable as a queue whose put is two entries, Taken and Stood: a put that
-- has returned may lie behind one that has not, and a take then answers NotYet.
abbrev pub RingsAreLinearizable : Type 0
RingsAreLinearizable = (key : Key) →
    IsLinearizable seat_of account_of (λ (moment : Moment). moment.views)
    (IsHistory (queue_meaning key.first) (opening_state key.limit) (key.writers + 1))
    (IsOneQueue key) (Steps key)
