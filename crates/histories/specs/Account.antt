-- What a seat knows: its numbers with their entries, what it has seen, and what it gave.
use Rattle.std.specs.Prelude.{◌≡◌, ◌≢◌, ℕ, zero, suc, ◌+◌, ◌<◌, ⊤, ◌==◌, nat_lt}
use Rattle.std.specs.Prelude.{Bool, false, List, [], ◌∷◌, map, length, IsTrue}
use Rattle.std.specs.Prelude.{if◌then◌else◌}
use Rattle.std.specs.List.{list_any, AllByRecursion}
use Rattle.histories.specs.declared.account.Account.{Account}
use Rattle.histories.specs.declared.account.Share.{Share}
use Rattle.histories.specs.History.{Meaning, IsHistory, entries_by}

-- the numbers are all different
abbrev pub AreDifferent : List ℕ → Type 0
AreDifferent [] = ⊤
AreDifferent (number ∷ numbers) =
    AllByRecursion (λ other. number ≢ other) numbers × AreDifferent numbers

-- the numbers from `first` on, `count` of them
abbrev pub numbers_from : ℕ → ℕ → List ℕ
numbers_from first zero = []
numbers_from first (suc count) = first ∷ numbers_from (first + 1) count

module _ {Entry : Type 0} where
  -- a number with no entry yet
  abbrev pub unused_share : ℕ → Share Entry
  unused_share number = record { number = number; mine = [] }

  abbrev pub numbers_in : List (Share Entry) → List ℕ
  numbers_in shares = map (λ share. share.number) shares

  abbrev pub has_number : List (Share Entry) → ℕ → Bool
  has_number shares number = list_any (λ share. share.number == number) shares

  -- the seat gave this number
  abbrev pub has_given : Account Entry → ℕ → Bool
  has_given account number = list_any (λ given. given == number) account.gave

  -- the seat has the number 0 and each number that it gave: then it has all numbers that there are
  pub record HasAllNumbers (account : Account Entry) : Type 0 where
    pub first : IsTrue (has_number account.shares 0)
    pub gave : AllByRecursion (λ number. IsTrue (has_number account.shares number)) account.gave

  -- a seat that was spent in a join: it has no number, has seen nothing and gave nothing
  abbrev pub spent_account : Account Entry
  spent_account = record { number = 0; shares = []; seen = []; gave = [] }

  -- the first seat: it has 0 and this many further numbers, which it gave itself
  abbrev pub first_account : ℕ → Account Entry
  first_account more =
      record {
        number = 0;
        shares = unused_share 0 ∷ map unused_share (numbers_from 1 more);
        seen = [];
        gave = numbers_from 1 more;
      }

  abbrev pub longer_of : List Entry → List Entry → List Entry
  longer_of first second = if nat_lt (length first) (length second) then second else first

  abbrev pub shorter_of : List Entry → List Entry → List Entry
  shorter_of first second = if nat_lt (length first) (length second) then first else second

module _ {Entry : Type 0} (by : Entry → ℕ) where
  -- the entries by the share's number are its `mine`, each once and in their order
  pub record HasItsEntries (history : List Entry) (share : Share Entry) : Type 0 where
    pub entries : entries_by by share.number history ≡ share.mine

  -- no entry is by one of these numbers
  abbrev pub AreByOthers : List (Share Entry) → List Entry → Type 0
  AreByOthers shares entries = AllByRecursion (λ entry. has_number shares (by entry)
      ≡ false) entries

  -- the share gains the entry if the entry is by its number
  abbrev pub share_after : Entry → Share Entry → Share Entry
  share_after entry share =
      record share {
        mine = if by entry == share.number then entry ∷ share.mine else share.mine;
      }

module _ {State Entry : Type 0} (meaning : Meaning State Entry) (opening : State) where
  -- what the seat has seen is a legal history that has each of its own entries once
  pub record KnowsHistory (limit : ℕ) (account : Account Entry) : Type 0 where
    pub history : IsHistory meaning opening limit account.seen
    pub mine : AllByRecursion (HasItsEntries meaning.by account.seen) account.shares
    pub different : AreDifferent (numbers_in account.shares)
    pub numbers : AllByRecursion (λ share. share.number < limit) account.shares
    pub gave : AllByRecursion (λ number. number < limit) account.gave
