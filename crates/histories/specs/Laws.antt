-- The laws of the base, over every history and all seats of it.
use Rattle.std.specs.Prelude.{◌≡◌, ◌≢◌, ℕ, ◌≤◌, ◌<◌, List, [], length, IsTrue}
use mathlib.Core.Option.{some}
use lib.ListN.{get_elem?}
use Rattle.histories.specs.declared.account.Account.{Account}
use Rattle.histories.specs.History.{IsPast}
use Rattle.histories.specs.Account.{HasAllNumbers, has_number}
use Rattle.histories.specs.Ledger.{Ledger, AreSeats}
use Rattle.histories.specs.Time.{StaysSeen, KeepsTime}

module _ (Entry : Type 0) where
  -- of two pasts of one history the shorter is a past of the longer
  abbrev pub PastsAreInLine : Type 0
  PastsAreInLine = (first second history : List Entry) → IsPast first history →
      IsPast second history → length first ≤ length second → IsPast first second

  -- this seat has the number 0 and all numbers that it gave
  pub record IsAlone (by : Entry → ℕ) (ledger : Ledger Entry) (accounts : List (Account Entry))
      (seat : ℕ) (account : Account Entry) : Type 0 where
    pub seats : AreSeats by (λ its. its) ledger accounts
    pub there : get_elem? accounts seat ≡ some account
    pub all : HasAllNumbers account

  -- it has every number that was given
  abbrev pub HasEveryNumber : Type 0
  HasEveryNumber = (by : Entry → ℕ) (ledger : Ledger Entry) (accounts : List (Account Entry))
      (seat : ℕ) (account : Account Entry) → IsAlone by ledger accounts seat account →
      (number : ℕ) → number < ledger.next → IsTrue (has_number account.shares number)

  -- no other seat has a number
  abbrev pub NoOtherHasOne : Type 0
  NoOtherHasOne = (by : Entry → ℕ) (ledger : Ledger Entry) (accounts : List (Account Entry))
      (seat : ℕ) (account : Account Entry) → IsAlone by ledger accounts seat account →
      (place : ℕ) (other : Account Entry) → place ≢ seat → get_elem? accounts place ≡ some other →
      other.shares ≡ []

  -- and it has seen the whole history
  abbrev pub KnowsWholeHistory : Type 0
  KnowsWholeHistory = (by : Entry → ℕ) (ledger : Ledger Entry) (accounts : List (Account Entry))
      (seat : ℕ) (account : Account Entry) → IsAlone by ledger accounts seat account →
      ledger.history ≡ account.seen

module _ (View Entry : Type 0) where
  -- where seats fit one history at two moments, and what was seen at the first is seen at the
  -- second, entries come in the order of time
  abbrev pub SeatsKeepTime : Type 0
  SeatsKeepTime = (by : Entry → ℕ) (account_of : View → Account Entry) (first last : Ledger Entry)
      (begun ended : List View) → AreSeats by account_of first begun →
      AreSeats by account_of last ended → StaysSeen account_of begun ended →
      KeepsTime by account_of begun ended
