-- The moments of a lock's table, from step to step, and the order in time. Own: the rule holds at
-- each moment, and what a seat knows changes by its own steps alone, as the table promises.
use Rattle.std.specs.Prelude.{ℕ, Option}
use Rattle.atomic_table.specs.Table as table
use Rattle.histories.specs.History.{IsHistory}
use Rattle.histories.specs.Time.{IsStep, IsLinearizable}
use Rattle.kernel_lock.specs.declared.view.Key.{Key}
use Rattle.kernel_lock.specs.declared.view.Operation.{Operation}
use Rattle.kernel_lock.specs.declared.view.View.{View}
use Rattle.kernel_lock.specs.Definition.{Definition, server, meaning_of, opening_state}
use Rattle.kernel_lock.specs.Rule.{IsOneHistory}
use Rattle.kernel_lock.specs.Steps.{Slot, Me, IsDue, HasAcquired, HasWatched, HasReleased}
use Rattle.kernel_lock.specs.Steps.{HasEntered, HasSettled}
use Rattle.kernel_lock.specs.View.{account_of, parent_view, child_view, joined_view, spent_view}

module _ {Object State Call Reply : Type 0}
    (definition : Definition Object State Call Reply) (key : Key Object) where
  -- the lock's table between two steps
  abbrev pub Moment : Type 0
  Moment = table.State (Slot Object) (View Object Call Reply)

  -- what a seat learns from a step of each kind; beside these a seat divides, and two merge
  pub data Learns (old : Me Object Call Reply) (found : ℕ) (new : Me Object Call Reply)
      : Type 0 where
    acquires : HasAcquired definition old found new → Learns old found new
    polls : HasWatched old new → Learns old found new
    releases : (served : Option (Operation Call Reply)) → IsDue definition key served old →
        HasReleased served old new → Learns old found new
    enters : (served : Option (Operation Call Reply)) → IsDue definition key served old →
        HasEntered definition served old new → Learns old found new
    settles : HasSettled definition old new → Learns old found new

  -- from one moment to the next
  abbrev pub Steps : Moment → Moment → Type 0
  Steps before after =
      IsStep Learns parent_view child_view joined_view spent_view before.views after.views

-- each lock of such objects is linearizable
abbrev pub LocksAreLinearizable : {Object State Call Reply : Type 0} →
    Definition Object State Call Reply → Type 0
LocksAreLinearizable definition = (key : Key _) →
    IsLinearizable server account_of (λ (moment : Moment definition key). moment.views)
    (IsHistory (meaning_of definition) (opening_state definition key) key.limit)
    (IsOneHistory definition key) (Steps definition key)
