-- What each call of a lock does to what its seat knows, and to the object. Of what a seat knows
-- these say the account and how many seats were given. The rest, the key and the stage, is said of
-- each seat between two calls, by `IsSeatOf`.
use Rattle.std.specs.Prelude.{◌≡◌, ℕ, ◌+◌, ◌<◌, ◌≤◌, List, [], ◌∷◌, max}
use Rattle.std.specs.Prelude.{Option, Some, None, unwrap_or}
use Rattle.histories.specs.History.{IsHistory, state_after}
use Rattle.histories.specs.Account.{KnowsHistory, unused_share}
use Rattle.histories.specs.Changes.{LooksAt, AddsEntry, IsNext, GivesNumber, JoinsAccounts}
use Rattle.kernel_lock.specs.declared.view.Key.{Key}
use Rattle.kernel_lock.specs.declared.view.Operation.{Operation}
use Rattle.kernel_lock.specs.declared.view.View.{View}
use Rattle.kernel_lock.specs.Definition.{Definition, server, meaning_of, opening_state}

module _ {Object Call Reply : Type 0} where
  -- a seat of a new lock: it has this number, nothing was served, it gave these numbers,
  -- and it knows how many seats were given
  pub record IsNew (number : ℕ) (gave : List ℕ) (given : ℕ)
      (view : View Object Call Reply) : Type 0 where
    pub account : view.account ≡
        record { number = number; shares = unused_share number ∷ []; seen = []; gave = gave }
    pub given_is : view.given ≡ given

  -- a request was served: its past continues what the seat had seen
  pub record Serves (served : Operation Call Reply)
      (old new : View Object Call Reply) : Type 0 where
    pub account : AddsEntry server served old.account new.account
    pub given : old.given ≤ new.given

  -- a split: the child has the next number, which its parent gave, and has seen what its parent has
  -- seen
  pub record GivesSeat (limit : ℕ) (old new child : View Object Call Reply) : Type 0 where
    pub account : GivesNumber server old.account new.account child.account
    pub later : old.given ≤ child.account.number
    pub limit_is : child.account.number < limit
    pub given : new.given ≡ child.account.number + 1
    pub child_given : child.given ≡ child.account.number + 1

  -- a split was refused: the next number is the limit, which the seat knows now,
  -- and nothing else changed
  pub record RefusesSeat (limit : ℕ) (old new : View Object Call Reply) : Type 0 where
    pub next : IsNext server old.account limit
    pub same : new ≡ record old { given = limit }

  -- a join: the seat has the numbers of both, and both had seen a past of what it has seen
  pub record JoinsSeats (first second joined : View Object Call Reply) : Type 0 where
    pub account : JoinsAccounts first.account second.account joined.account
    pub given : joined.given ≡ max first.given second.given

module _ {Object State Call Reply : Type 0}
    (definition : Definition Object State Call Reply) (key : Key Object) where
  -- two requests were served, the second right after the first
  pub record ServesBoth (first second : Operation Call Reply)
      (old new : View Object Call Reply) : Type 0 where
    -- what the seat knows between the two
    pub between : View Object Call Reply
    pub knows : KnowsHistory (meaning_of definition) (opening_state definition key) key.limit
        between.account
    pub first_served : Serves first old between
    pub second_served : Serves second between new
    -- no other request is between them
    pub at_once : new.account.seen ≡ second ∷ between.account.seen

  -- a request was served, and so was the request that followed its answer, if there was one, by the
  -- seat that it names or else by the seat's own number
  abbrev pub ServesThen : ℕ → Operation Call Reply → Option Call → Option Reply →
      View Object Call Reply → View Object Call Reply → Type 0
  ServesThen own first None None old new = Serves first old new
  ServesThen own first (Some next) (Some reply) old new =
      ServesBoth first
      (record { by = unwrap_or (definition.named next) own; request = next; reply = reply })
      old new
  ServesThen own first next reply old new = ⊥

-- the end: the object is what one legal history leaves, at which the seat looked for the last time
pub record EndsHistory {Object State Call Reply : Type 0}
    (definition : Definition Object State Call Reply) (opening : State) (limit : ℕ)
    (view : View Object Call Reply) (object : Object) : Type 0 where
  pub history : List (Operation Call Reply)
  pub looked : LooksAt server history view.account
  pub legal : IsHistory (meaning_of definition) opening limit history
  pub object_is : definition.state object ≡ state_after (meaning_of definition) opening history
