-- What holds of all seats together, between any two steps.
use Rattle.std.specs.Prelude.{◌≡◌, ℕ, ◌+◌, ◌<◌, ◌==◌, List, [], ◌∷◌, IsTrue}
use Rattle.std.specs.Prelude.{if◌then◌else◌}
use Rattle.std.specs.List.{AllByRecursion}
use mathlib.Core.Option.{some}
use lib.ListN.{get_elem?}
use Rattle.histories.specs.declared.account.Account.{Account}
use Rattle.histories.specs.History.{IsPast, AreByBelow}
use Rattle.histories.specs.Account.{AreDifferent, HasItsEntries, numbers_in, has_given}

-- the one history, and which seat has each number that was given
pub record Ledger (Entry : Type 0) : Type 0 where
  pub history : List Entry
  -- the next number: all numbers below it were given
  pub next : ℕ
  -- the seat that has the number
  pub owner : ℕ → ℕ
  -- the number whose seat gave the number
  pub parent : ℕ → ℕ

module _ {Entry : Type 0} where
  -- the number was given, and this seat has it
  pub record IsOwned (ledger : Ledger Entry) (seat number : ℕ) : Type 0 where
    pub given : number < ledger.next
    pub owner_is : ledger.owner number ≡ seat

  -- the first seat has 0 and this many further numbers
  abbrev pub opening_ledger : ℕ → Ledger Entry
  opening_ledger more =
      record { history = []; next = more + 1; owner = λ number. 0; parent = λ number. 0 }

  -- the history has one entry more
  abbrev pub ledger_with : Entry → Ledger Entry → Ledger Entry
  ledger_with entry ledger = record ledger { history = entry ∷ ledger.history }

  -- the seat of the number `giver` gave the next number to a new seat
  abbrev pub ledger_gave : (giver child : ℕ) → Ledger Entry → Ledger Entry
  ledger_gave giver child ledger =
      record ledger {
        next = ledger.next + 1;
        owner = λ number. if number == ledger.next then child else ledger.owner number;
        parent = λ number. if number == ledger.next then giver else ledger.parent number;
      }

  -- the number has a new owner; the numbers that it gave now count as given by the number that its
  -- seat keeps
  abbrev pub ledger_handed : (kept handed child : ℕ) → Ledger Entry → Ledger Entry
  ledger_handed kept handed child ledger =
      record ledger {
        owner = λ number. if number == handed then child else ledger.owner number;
        parent = λ number. if ledger.parent number == handed then kept else ledger.parent number;
      }

  -- all numbers of the spent seat go to the joined seat
  abbrev pub ledger_joined : (joined spent : ℕ) → Ledger Entry → Ledger Entry
  ledger_joined joined spent ledger =
      record ledger {
        owner = λ number. if ledger.owner number == spent then joined else ledger.owner number;
      }

module _ {Entry : Type 0} (by : Entry → ℕ) where
  -- a seat's account fits the history
  pub record FitsLedger (ledger : Ledger Entry) (seat : ℕ) (account : Account Entry) : Type 0 where
    -- what it has seen is a past of the history
    pub seen : IsPast account.seen ledger.history
    -- it has seen all its own entries, and the history has no other entry by its numbers
    pub mine_seen : AllByRecursion (HasItsEntries by account.seen) account.shares
    pub mine : AllByRecursion (HasItsEntries by ledger.history) account.shares
    -- its numbers were given, differ, and no other seat has one of them
    pub owned : AllByRecursion (λ share. IsOwned ledger seat share.number) account.shares
    pub different : AreDifferent (numbers_in account.shares)
    -- the numbers that it gave were given
    pub gave : AllByRecursion (λ number. number < ledger.next) account.gave

module _ {View Entry : Type 0} (account_of : View → Account Entry) where
  -- a lower number gave this number, and the account of the seat that has the lower number says so
  pub record WasGiven (ledger : Ledger Entry) (views : List View) (number : ℕ) : Type 0 where
    pub lower : ledger.parent number < number
    pub view : View
    pub there : get_elem? views (ledger.owner (ledger.parent number)) ≡ some view
    pub tells : IsTrue (has_given (account_of view) number)

module _ {View Entry : Type 0} (by : Entry → ℕ) (account_of : View → Account Entry) where
  -- the seats of a table, whose views hold an account each, fit one history
  pub record AreSeats (ledger : Ledger Entry) (views : List View) : Type 0 where
    -- each entry is by a number that was given
    pub by_given : AreByBelow by ledger.next ledger.history
    -- each seat's account fits
    pub each_seat : (seat : ℕ) (view : View) → get_elem? views seat ≡ some view →
        FitsLedger by ledger seat (account_of view)
    -- each number but 0 was given by a seat, whose account says so: no number comes from nowhere
    pub each_number : (number : ℕ) → 0 < number → number < ledger.next →
        WasGiven account_of ledger views number
