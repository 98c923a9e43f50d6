-- What a sequential object means, and so which histories it may have.
use Rattle.std.specs.Prelude.{◌≡◌, ℕ, Option, IfSome}
use Rattle.histories.specs.History.{Meaning}
use Rattle.kernel_lock.specs.declared.view.Key.{Key}
use Rattle.kernel_lock.specs.declared.view.Operation.{Operation}

pub record Definition (Object State Call Reply : Type 0) : Type 0 where
  -- what an object means
  pub state : Object → State
  -- in each state the reply to each request, and the state after it
  pub answer : State → Call → Reply
  pub after : State → Call → State
  -- the number of the seat that a request names
  pub named : Call → Option ℕ

-- the number of the seat that made the request
abbrev pub server : {Call Reply : Type 0} → Operation Call Reply → ℕ
server served = served.by

module _ {Object State Call Reply : Type 0}
    (definition : Definition Object State Call Reply) where
  -- the reply is the definition's in this state, and a request that names a seat is by that seat
  pub record IsRight (state : State) (served : Operation Call Reply) : Type 0 where
    pub reply : served.reply ≡ definition.answer state served.request
    pub named : IfSome (definition.named served.request) (λ number. number ≡ served.by)

  -- a history of served requests, newest first
  abbrev pub meaning_of : Meaning State (Operation Call Reply)
  meaning_of =
      record {
        by = server;
        IsRight = IsRight;
        after = λ state served. definition.after state served.request;
      }

  -- what the object meant when its lock was made
  abbrev pub opening_state : Key Object → State
  opening_state key = definition.state key.opening.value
