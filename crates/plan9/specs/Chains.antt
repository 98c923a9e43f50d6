-- Seats of an object that were given one by another: of a semaphore, of a clock, of a tag space or
-- of an end. Own.
use Rattle.std.specs.Prelude.{◌≡◌, ◌⊎◌, ◌<◌, ◌≤◌, ◌+◌, ℕ, List, [], ◌∷◌, ◌++◌, length}
use Rattle.sync_base.specs.declared.fault.Fault.{Fault}
use Rattle.sync_base.specs.declared.fault.Fault.TheVariants as fault

-- one or more are asked for, and no more than there are
pub record MayHave (procs count : ℕ) : Type 0 where
  pub one : 0 < count
  pub within : count ≤ procs

-- why there is no room for so many, in this order: too many were asked for, or there is no memory
abbrev pub WhyNoRoom : ℕ → ℕ → Fault → Type 0
WhyNoRoom procs count fault.NoProc = ¬ MayHave procs count
WhyNoRoom procs count fault.Memory = MayHave procs count
WhyNoRoom procs count other = ⊥

module _ {Seat : Type 0} (Gives : Seat → Seat → Seat → Type 0) where
  -- each of these gave the next and no other, and the last of them gave the one that is left
  abbrev pub Chain : List Seat → Seat → Seat → Type 0
  Chain [] first last = last ≡ first
  Chain (seat ∷ others) first last =
      (next : Seat) × Gives first seat next × Chain others next last

  module _ (IsFirst : Seat → Type 0) where
    -- so many seats: the first one, and each other given by the one before it
    pub record AreChained (count : ℕ) (seats : List Seat) : Type 0 where
      pub count_is : length seats ≡ count
      pub first : Seat
      pub first_is : IsFirst first
      pub givers : List Seat
      pub last : Seat
      pub chain : Chain givers first last
      pub seats_are : seats ≡ givers ++ last ∷ []

    -- the first one was there, fewer than so many were given, and then the last could give none
    pub record RunsOut (KnowsNone : Seat → Seat → Type 0) (count : ℕ) : Type 0 where
      pub first : Seat
      pub first_is : IsFirst first
      pub givers : List Seat
      pub before : Seat
      pub after : Seat
      pub chain : Chain givers first before
      pub fewer : length givers + 1 < count
      pub none : KnowsNone before after

    -- why there are not so many, in this order: too many were asked for, there is no memory, or
    -- somebody had the first one; or all were given by others, as far as the last could know
    abbrev pub WhyNotMany : (Seat → Seat → Type 0) → Type 0 → ℕ → ℕ → Fault → Type 0
    WhyNotMany KnowsNone Taken procs count fault.NoProc =
        (¬ MayHave procs count) ⊎ (MayHave procs count × (Taken ⊎ RunsOut KnowsNone count))
    WhyNotMany KnowsNone Taken procs count fault.Memory = MayHave procs count
    WhyNotMany KnowsNone Taken procs count other = ⊥
