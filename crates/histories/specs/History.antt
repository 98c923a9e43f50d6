-- A history is the list of its entries, newest first: each entry is followed by its past.
use Rattle.std.specs.Prelude.{◌≡◌, ℕ, List, [], ◌∷◌, ◌++◌, ◌==◌, ◌<◌, ⊤}
use Rattle.std.specs.List.{filter, AllByRecursion}

-- what the entries of a history mean
pub record Meaning (State Entry : Type 0) : Type 1 where
  -- the number of the seat that made the entry
  pub by : Entry → ℕ
  -- the entry may be made in this state
  pub IsRight : State → Entry → Type 0
  -- the state after it
  pub after : State → Entry → State

-- the older history is what the newer one was before its latest entries
pub record IsPast {A : Type 0} (old new : List A) : Type 0 where
  pub since : List A
  pub new_is : new ≡ since ++ old

module _ {Entry : Type 0} (by : Entry → ℕ) where
  -- the entries by the seat with this number
  abbrev pub entries_by : ℕ → List Entry → List Entry
  entries_by number entries = filter (λ entry. by entry == number) entries

  -- each entry is by a number below this one
  abbrev pub AreByBelow : ℕ → List Entry → Type 0
  AreByBelow bound entries = AllByRecursion (λ entry. by entry < bound) entries

module _ {State Entry : Type 0} (meaning : Meaning State Entry) (opening : State) where
  -- the state that a history leaves
  abbrev pub state_after : List Entry → State
  state_after [] = opening
  state_after (entry ∷ past) = meaning.after (state_after past) entry

  -- each entry is right in the state that its past leaves
  abbrev pub IsLegal : List Entry → Type 0
  IsLegal [] = ⊤
  IsLegal (entry ∷ past) = meaning.IsRight (state_after past) entry × IsLegal past

  -- a legal history of seats whose numbers are below the limit
  pub record IsHistory (limit : ℕ) (entries : List Entry) : Type 0 where
    pub legal : IsLegal entries
    pub within : AreByBelow meaning.by limit entries
