-- The changes of an account: an entry, a split, a number handed over, a join. First the account
-- after each change, and then what a call says of it.
use Rattle.std.specs.Prelude.{[], ◌≡◌, ℕ, ◌<◌, List, ◌∷◌, ◌++◌, map, IsTrue}
use Rattle.std.specs.List.{AllByRecursion}
use Rattle.histories.specs.declared.account.Account.{Account}
use Rattle.histories.specs.declared.account.Share.{Share}
use Rattle.histories.specs.History.{IsPast, AreByBelow}
use Rattle.histories.specs.Account.{HasAllNumbers, HasItsEntries, AreByOthers, unused_share}
use Rattle.histories.specs.Account.{has_number, share_after, longer_of}

module _ {Entry : Type 0} where
  -- the seat gave this number
  abbrev pub parent_account : ℕ → Account Entry → Account Entry
  parent_account number account = record account { gave = number ∷ account.gave }

  -- the seat that got the number: it has seen what its parent has, has made no entry and gave
  -- nothing
  abbrev pub child_account : ℕ → Account Entry → Account Entry
  child_account number account =
      record { number = number; shares = unused_share number ∷ []; seen = account.seen; gave = [] }

  -- the seat keeps these of its shares
  abbrev pub keeping_account : List (Share Entry) → Account Entry → Account Entry
  keeping_account kept account = record account { shares = kept }

  -- the seat to which one of the shares was handed over
  abbrev pub handed_account : Share Entry → Account Entry → Account Entry
  handed_account share account =
      record { number = share.number; shares = share ∷ []; seen = account.seen; gave = [] }

  -- one seat of two: it has the numbers of both, the first's as its own, gave what both gave,
  -- and has seen what either saw
  abbrev pub joined_account : Account Entry → Account Entry → Account Entry
  joined_account first second =
      record {
        number = first.number;
        shares = first.shares ++ second.shares;
        seen = longer_of first.seen second.seen;
        gave = first.gave ++ second.gave;
      }

  -- a join: both had seen a past of what the joined seat has seen
  pub record JoinsAccounts (first second joined : Account Entry) : Type 0 where
    pub joined_is : joined ≡ joined_account first second
    pub first_past : IsPast first.seen joined.seen
    pub second_past : IsPast second.seen joined.seen

module _ {Entry : Type 0} (by : Entry → ℕ) where
  -- the seat made an entry, whose past this is
  abbrev pub entered_account : Entry → List Entry → Account Entry → Account Entry
  entered_account entry past account =
      record account {
        shares = map (share_after by entry) account.shares;
        seen = entry ∷ past;
      }

  -- a look at the history: what the seat had seen is a past of it, what came since is by others,
  -- and a seat that has all the numbers had seen the whole history
  pub record LooksAt (history : List Entry) (account : Account Entry) : Type 0 where
    pub since : List Entry
    pub history_is : history ≡ since ++ account.seen
    pub by_others : AreByOthers by account.shares since
    pub mine : AllByRecursion (HasItsEntries by history) account.shares
    pub alone : HasAllNumbers account → since ≡ []

  -- an entry: its past is a history at which the seat looked
  pub record AddsEntry (entry : Entry) (old new : Account Entry) : Type 0 where
    pub past : List Entry
    pub looked : LooksAt past old
    pub new_is : new ≡ entered_account entry past old

  -- the next number, as far as the seat can know: it is above the seat's own numbers, the numbers
  -- that it gave, and the numbers whose entries it has seen; a seat that has all the numbers has
  -- each number below it
  pub record IsNext (account : Account Entry) (next : ℕ) : Type 0 where
    pub own : AllByRecursion (λ share. share.number < next) account.shares
    pub gave : AllByRecursion (λ number. number < next) account.gave
    pub seen : AreByBelow by next account.seen
    pub all : HasAllNumbers account → (number : ℕ) → number < next →
        IsTrue (has_number account.shares number)

  -- a split: the child has the next number; its parent gave the number, and is otherwise as it was
  pub record GivesNumber (old new child : Account Entry) : Type 0 where
    pub next : IsNext old child.number
    pub child_is : child ≡ child_account child.number old
    pub parent_is : new ≡ parent_account child.number old
