-- What a call that waits does again and again.
use Rattle.std.specs.Prelude.{◌≡◌, ℕ, zero, suc}

-- some rounds, and then one more
pub record OneMore {A : Type 0} (Before : A → Type 0) (Round : A → A → Type 0) (after : A) :
    Type 0 where
  pub between : A
  pub rounds : Before between
  pub last : Round between after

-- this many rounds, one after the other
abbrev pub Rounds : {A : Type 0} → (A → A → Type 0) → ℕ → A → A → Type 0
Rounds Round zero before after = after ≡ before
Rounds Round (suc times) before after = OneMore (Rounds Round times before) Round after
