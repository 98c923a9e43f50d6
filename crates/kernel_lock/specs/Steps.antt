-- What a seat learns from each kind of step, and what a release asks.
use Rattle.std.specs.Prelude.{◌≡◌, ◌≢◌, ℕ, ◌≤◌, List, [], ◌∷◌, length}
use Rattle.std.specs.Prelude.{Option, Some, IsTrue, IfSome}
use Rattle.atomic_table.specs.Table as table
use Rattle.histories.specs.History.{IsPast, IsHistory, state_after}
use Rattle.histories.specs.Account.{KnowsHistory, has_number}
use Rattle.histories.specs.Changes.{LooksAt, IsNext}
use Rattle.kernel_lock.specs.declared.view.Guarded.{Guarded}
use Rattle.kernel_lock.specs.declared.view.Key.{Key}
use Rattle.kernel_lock.specs.declared.view.Operation.{Operation}
use Rattle.kernel_lock.specs.declared.view.Stage.TheVariants.{Outside, Inside, Joining}
use Rattle.kernel_lock.specs.declared.view.View.{View}
use Rattle.kernel_lock.specs.Calls.{Serves}
use Rattle.kernel_lock.specs.Definition.{Definition, IsRight, server, meaning_of, opening_state}
use Rattle.kernel_lock.specs.View.{history_with, inside_view, outside_view, parent_view, child_view}
use Rattle.kernel_lock.specs.View.{joined_view, settled_view}

-- what lies in the slot
abbrev pub Slot : Type 0 → Type 0
Slot Object = Option (Guarded Object)

-- what a seat knows, and the slots that it has
abbrev pub Me : Type 0 → Type 0 → Type 0 → Type 0
Me Object Call Reply = table.Me (Slot Object) (View Object Call Reply)

module _ {Object Call Reply : Type 0} where
  -- Poll: nothing changed
  pub record HasWatched (before after : Me Object Call Reply) : Type 0 where
    pub same : after ≡ before

  -- Release: the seat is outside, and has seen the history with the request, if one was served
  pub record HasReleased (served : Option (Operation Call Reply))
      (before after : Me Object Call Reply) : Type 0 where
    pub view_is : (history : List (Operation Call Reply)) → before.0.stage ≡ Inside history →
        after.0 ≡ outside_view history served before.0
    pub slots_are : after.1 ≡ table.rest before.1

  -- Divide: the seat gave the next number to a new seat
  pub record HasDivided (before after child : Me Object Call Reply) : Type 0 where
    pub parent_is : after ≡ (parent_view before.0, before.1)
    pub child_is : child ≡ (child_view before.0, [])

  -- the seat has the slot alone, and the object lies in it
  pub record HasOnly (me : Me Object Call Reply) : Type 0 where
    pub guarded : Guarded Object
    pub slots_are : me.1 ≡ (0, Some guarded) ∷ []

  -- the seat is inside, and the number beside the object is the next one
  pub record IsInsideWith (me : Me Object Call Reply) : Type 0 where
    pub history : List (Operation Call Reply)
    pub guarded : Guarded Object
    pub stage_is : me.0.stage ≡ Inside history
    pub slots_are : me.1 ≡ (0, Some guarded) ∷ []
    pub next_is : guarded.next ≡ me.0.given

  -- the object in the slot is as it was, and beside it lies the next number
  pub record KeepsObject (before after : Me Object Call Reply) : Type 0 where
    pub found : Guarded Object
    pub left : Guarded Object
    pub found_is : before.1 ≡ (0, Some found) ∷ []
    pub left_is : after.1 ≡ (0, Some left) ∷ []
    pub object : left.object ≡ found.object
    pub next_is : left.next ≡ after.0.given

module _ {Object State Call Reply : Type 0}
    (definition : Definition Object State Call Reply) where
  -- what a seat finds inside: the object, as the history leaves it
  pub record FindsObject (key : Key Object) (view : View Object Call Reply)
      (history : List (Operation Call Reply)) (guarded : Guarded Object) : Type 0 where
    pub object : definition.state guarded.object ≡
        state_after (meaning_of definition) (opening_state definition key) history
    pub legal : IsHistory (meaning_of definition) (opening_state definition key) key.limit history
    pub limit : guarded.next ≤ key.limit
    pub knows : KnowsHistory (meaning_of definition) (opening_state definition key) key.limit
        view.account

  -- the seat is inside and has the slot, and knows the history and the next number
  pub record TakesLock (before after : Me Object Call Reply) : Type 0 where
    pub history : List (Operation Call Reply)
    pub guarded : Guarded Object
    pub view_is : after.0 ≡ inside_view history guarded.next before.0
    pub slots_are : after.1 ≡ (0, Some guarded) ∷ before.1
    pub looked : LooksAt server history before.0.account
    pub next : IsNext server before.0.account guarded.next
    pub given : before.0.given ≤ guarded.next
    pub finds : (key : Key Object) → before.0.key ≡ Some key →
        FindsObject key before.0 history guarded

  -- Acquire: where the lock was free the seat is inside, and else nothing changed
  pub record HasAcquired (before : Me Object Call Reply) (found : ℕ)
      (after : Me Object Call Reply) : Type 0 where
    pub free : found ≡ 0 → TakesLock before after
    pub taken : found ≢ 0 → after ≡ before

  -- the request was answered right, and is by one of the seat's numbers
  pub record IsOwnRight (key : Key Object) (history : List (Operation Call Reply))
      (view : View Object Call Reply) (served : Operation Call Reply) : Type 0 where
    pub right : IsRight definition
        (state_after (meaning_of definition) (opening_state definition key) history) served
    pub own : IsTrue (has_number view.account.shares served.by)

  -- Enter: as if the seat had given the lock back and had taken it again at once
  pub record HasEntered (served : Option (Operation Call Reply))
      (before after : Me Object Call Reply) : Type 0 where
    pub between : Me Object Call Reply
    pub released : HasReleased served before between
    pub taken : TakesLock between after
    -- nobody has entered the history between the two
    pub at_once : IfSome served (λ _. taken.history ≡ between.0.account.seen)

  -- what a release asks: the object in the slot is what the history and the request leave
  pub record IsDue (key : Key Object) (served : Option (Operation Call Reply))
      (me : Me Object Call Reply) : Type 0 where
    pub history : List (Operation Call Reply)
    pub guarded : Guarded Object
    pub others : List (ℕ × Slot Object)
    pub key_is : me.0.key ≡ Some key
    pub stage_is : me.0.stage ≡ Inside history
    pub slots_are : me.1 ≡ (0, Some guarded) ∷ others
    pub next_is : guarded.next ≡ me.0.given
    pub object : definition.state guarded.object ≡
        state_after (meaning_of definition) (opening_state definition key)
        (history_with served history)
    pub served_right : IfSome served (IsOwnRight key history me.0)

  -- the object answered a request as its definition says, and the next number stayed
  pub record HasAnswered (request : Call) (reply : Reply)
      (before after : Me Object Call Reply) : Type 0 where
    pub found : Guarded Object
    pub left : Guarded Object
    pub found_is : before.1 ≡ (0, Some found) ∷ []
    pub after_is : after ≡ (before.0, (0, Some left) ∷ [])
    pub next_is : left.next ≡ found.next
    pub object_is : definition.state left.object ≡
        definition.after (definition.state found.object) request
    pub reply_is : reply ≡ definition.answer (definition.state found.object) request

  -- a seat that was outside, and of which this number is one, has taken the lock
  pub record HasTaken (key : Key Object) (by : ℕ) (before after : Me Object Call Reply)
      : Type 0 where
    pub key_is : before.0.key ≡ Some key
    pub no_slot : before.1 ≡ []
    pub own : IsTrue (has_number before.0.account.shares by)
    pub taken : TakesLock before after

  -- the seat is outside again, after the request that it made inside, where it found this history
  pub record HasServed (key : Key Object) (history : List (Operation Call Reply))
      (served : Operation Call Reply) (before after : Me Object Call Reply) : Type 0 where
    -- it is still a seat of this lock
    pub key_is : after.0.key ≡ Some key
    pub stage_is : after.0.stage ≡ Outside
    pub no_slot : after.1 ≡ []
    -- its request's past continues what it had seen
    pub serves : Serves served before.0 after.0
    -- which is that history
    pub follows : after.0.account.seen ≡ served ∷ history
    -- and what it has seen now is a legal history, with its own requests once each
    pub knows : KnowsHistory (meaning_of definition) (opening_state definition key) key.limit
        after.0.account

  -- Settle: the seat is outside, and one of the two histories that it saw is a past of the other
  pub record HasSettled (before after : Me Object Call Reply) : Type 0 where
    pub view_is : after.0 ≡ settled_view before.0
    pub slots_are : after.1 ≡ before.1
    pub other : (other : List (Operation Call Reply)) → before.0.stage ≡ Joining other →
        length other ≤ length before.0.account.seen → IsPast other before.0.account.seen
    pub knows : (key : Key Object) → before.0.key ≡ Some key →
        KnowsHistory (meaning_of definition) (opening_state definition key) key.limit
        before.0.account

  -- Merge and Settle: one seat of two; both had seen a past of what it has seen
  pub record HasMerged (key : Key Object)
      (first second merged : View Object Call Reply) : Type 0 where
    pub view_is : merged ≡ settled_view (joined_view first second)
    pub first_past : IsPast first.account.seen merged.account.seen
    pub second_past : IsPast second.account.seen merged.account.seen
    pub knows : KnowsHistory (meaning_of definition) (opening_state definition key) key.limit
        merged.account
