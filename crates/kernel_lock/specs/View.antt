-- What a seat knows, and how it comes to know it.
use Rattle.std.specs.Prelude.{ℕ, ◌+◌, max, List, [], ◌∷◌, Option, Some, None, IsTrue}
use Rattle.histories.specs.declared.account.Account.{Account}
use Rattle.histories.specs.Account.{first_account, spent_account, shorter_of, has_number}
use Rattle.histories.specs.Changes.{entered_account, parent_account, child_account, joined_account}
use Rattle.kernel_lock.specs.declared.view.Key.{Key}
use Rattle.kernel_lock.specs.declared.view.Operation.{Operation}
use Rattle.kernel_lock.specs.declared.view.Stage.TheVariants.{Outside, Inside, Joining}
use Rattle.kernel_lock.specs.declared.view.View.{View}
use Rattle.kernel_lock.specs.Definition.{server}

-- a history with the request that was served, if one was
abbrev pub history_with : {Call Reply : Type 0} → Option (Operation Call Reply) →
    List (Operation Call Reply) → List (Operation Call Reply)
history_with None history = history
history_with (Some served) history = served ∷ history

module _ {Object Call Reply : Type 0} where
  abbrev pub account_of : View Object Call Reply → Account (Operation Call Reply)
  account_of view = view.account

  -- a seat that was spent in a join: it has no number and has seen nothing
  abbrev pub spent_view : View Object Call Reply
  spent_view = record { key = None; account = spent_account; given = 0; stage = Outside }

  -- the first seat of a lock: it has the number 0, and no other was given
  abbrev pub first_view : Key Object → View Object Call Reply
  first_view key =
      record {
        key = Some key;
        account = first_account 0;
        given = 1;
        stage = Outside;
      }

  -- the seat is inside, and knows the history and how many seats were given
  abbrev pub inside_view : List (Operation Call Reply) → ℕ → View Object Call Reply →
      View Object Call Reply
  inside_view history given view = record view { given = given; stage = Inside history }

  -- the seat is outside again; if a request was served, it has seen the history with that request
  abbrev pub outside_view : List (Operation Call Reply) → Option (Operation Call Reply) →
      View Object Call Reply → View Object Call Reply
  outside_view history None view = record view { stage = Outside }
  outside_view history (Some served) view =
      record view { account = entered_account server served history view.account; stage = Outside }

  -- the seat gave the next number
  abbrev pub parent_view : View Object Call Reply → View Object Call Reply
  parent_view view =
      record view { account = parent_account view.given view.account; given = view.given + 1 }

  -- the seat that got the number: it has seen what its parent has, and has made no request
  abbrev pub child_view : View Object Call Reply → View Object Call Reply
  child_view view =
      record view {
        account = child_account view.given view.account;
        given = view.given + 1;
        stage = Outside;
      }

  -- its own number is one of its numbers
  abbrev pub HasOwn : View Object Call Reply → Type 0
  HasOwn view = IsTrue (has_number view.account.shares view.account.number)

  -- two seats become one, and what the other had seen is still to be compared
  abbrev pub joined_view : View Object Call Reply → View Object Call Reply →
      View Object Call Reply
  joined_view first second =
      record first {
        account = joined_account first.account second.account;
        given = max first.given second.given;
        stage = Joining (shorter_of first.account.seen second.account.seen);
      }

  -- nothing is left to be learned of a join
  abbrev pub settled_view : View Object Call Reply → View Object Call Reply
  settled_view view = record view { stage = Outside }

  -- the first of the views, where there is one
  abbrev pub head_view : List (View Object Call Reply) → View Object Call Reply
  head_view [] = spent_view
  head_view (view ∷ views) = view
