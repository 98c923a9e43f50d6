-- A seat that has the number 0 and all that it gave has every number that there is,
-- no other seat has one, and it knows the whole history.
use Rattle.std.proofs.Common.{◌≡◌, ◌≢◌, ℕ, zero, suc, ◌+◌, ◌<◌, true, List, [], ◌∷◌}
use Rattle.std.proofs.Common.{◌++◌, map, refl, sym, ap, subst, ◌∙◌, arith, eq-eqb}
use Rattle.std.specs.List.{AllByRecursion}
use mathlib.Core.Logic.{dite}
use mathlib.Core.Option.{some}
use native.Mathlib.Decide.{ℕ_discrete}
use lib.ListN.{get_elem?}
use Rattle.histories.specs.declared.account.Account.{Account}
use Rattle.histories.specs.declared.account.Share.{Share}
use Rattle.histories.specs.History.{entries_by, AreByBelow}
use Rattle.histories.specs.Account.{HasAllNumbers, HasItsEntries, has_number, has_given}
use Rattle.histories.specs.Ledger.{Ledger, IsOwned, FitsLedger, WasGiven, AreSeats}
use Rattle.histories.specs.Account.{share_after}
use Rattle.histories.specs.Changes.{LooksAt, IsNext, entered_account}
use Rattle.histories.proofs.ListLemmas.{all_since, all_weaker, past_all, at_once, nothing_before}
use Rattle.histories.proofs.AccountLemmas.{listed_has, number_has, none_since, by_others}
use Rattle.histories.proofs.AccountLemmas.{has_number-share_after}
use Rattle.histories.proofs.SeatsKeep.{number_is_owned}

module _ {View Entry : Type 0} (by : Entry → ℕ) (account_of : View → Account Entry)
    (ledger : Ledger Entry) (views : List View) (seats : AreSeats by account_of ledger views)
    (id : ℕ) (view : View) (at : get_elem? views id ≡ some view)
    (all : HasAllNumbers (account_of view)) where
  abbrev account : Account Entry
  account = account_of view

  fits : FitsLedger by ledger id account
  fits = seats.each_seat id view at

  -- its parent is one of the seat's, so the seat gave it
  given_here : (number : ℕ) → WasGiven account_of ledger views number →
      has_number account.shares (ledger.parent number) ≡ true →
      has_number account.shares number ≡ true
  given_here number was has =
      let owned = number_is_owned by ledger id (ledger.parent number) account fits has in
      let here : get_elem? views id ≡ some was.view =
      subst (λ (i : ℕ). get_elem? views i ≡ some was.view) owned.owner_is was.there in
      let is : was.view ≡ view = at_once views id was.view view here at in
      listed_has (λ n. has_number account.shares n ≡ true) number account.gave all.gave
      (subst (λ (v : View). has_given (account_of v) number ≡ true) is was.tells)

  has_below : (bound number : ℕ) → number < bound → number < ledger.next →
      has_number account.shares number ≡ true
  has_below zero number below given = absurd (omega arith)
  has_below (suc bound) number below given =
      dite (ℕ_discrete number 0)
      (λ none. subst (λ (n : ℕ). has_number account.shares n ≡ true) (sym none) all.first)
      (λ some_number.
      let was = seats.each_number number (omega arith) given in
      let lower = was.lower in
      given_here number was (has_below bound (ledger.parent number) (omega arith) (omega arith)))

  -- it has every number that was given
  pub has_every_number : (number : ℕ) → number < ledger.next →
      has_number account.shares number ≡ true
  has_every_number number given = has_below (number + 1) number (omega arith) given

  -- no other seat has a number
  pub no_other_has_one : (seat : ℕ) (other : View) → seat ≢ id → get_elem? views seat ≡ some other →
      (account_of other).shares ≡ []
  no_other_has_one seat other apart there =
      none (account_of other).shares (seats.each_seat seat other there).owned
    where
      none : (shares : List (Share Entry)) →
          AllByRecursion (λ share. IsOwned ledger seat share.number) shares → shares ≡ []
      none [] owned = refl
      none (share ∷ shares) owned =
          let theirs = owned.0 in
          let mine = number_is_owned by ledger id share.number account fits
          (has_every_number share.number theirs.given) in
          absurd (apart (sym theirs.owner_is ∙ mine.owner_is))

  -- an entry by a number that was given is one of the seat's, so it has seen it
  nothing_since : (since : List Entry) →
      AllByRecursion (λ share. entries_by by share.number since ≡ []) account.shares →
      AreByBelow by ledger.next since → since ≡ []
  nothing_since [] none below = refl
  nothing_since (entry ∷ since) none below =
      let has = has_every_number (by entry) below.0 in
      let nothing : entries_by by (by entry) (entry ∷ since) ≡ [] =
      number_has (λ n. entries_by by n (entry ∷ since) ≡ []) (by entry) account.shares none has in
      let some_entry : entry ∷ entries_by by (by entry) since ≡ [] =
      rw (eq-eqb (by entry) (by entry) refl) at nothing in
      cc

  -- it has seen the whole history
  pub knows_whole : ledger.history ≡ account.seen
  knows_whole =
      let since_is : fits.seen.since ≡ [] =
      nothing_since fits.seen.since
      (none_since by account.shares fits.seen.since account.seen fits.mine_seen
      (subst (λ (h : List Entry). AllByRecursion (HasItsEntries by h) account.shares)
      fits.seen.new_is fits.mine))
      (all_since (λ (entry : Entry). by entry < ledger.next) fits.seen.since account.seen
      (subst (AreByBelow by ledger.next) fits.seen.new_is seats.by_given)) in
      fits.seen.new_is ∙ ap (λ (since : List Entry). since ++ account.seen) since_is

-- ---- what a seat learns at a step

module _ {View Entry : Type 0} (by : Entry → ℕ) (account_of : View → Account Entry)
    (ledger : Ledger Entry) (views : List View) (seats : AreSeats by account_of ledger views)
    (id : ℕ) (view : View) (at : get_elem? views id ≡ some view) where
  -- a look at the history
  pub looks_at : LooksAt by ledger.history (account_of view)
  looks_at =
      let fits = seats.each_seat id view at in
      record {
        since = fits.seen.since;
        history_is = fits.seen.new_is;
        by_others = by_others by (account_of view).shares fits.seen.since
            (none_since by (account_of view).shares fits.seen.since (account_of view).seen
            fits.mine_seen
            (subst (λ (h : List Entry). AllByRecursion (HasItsEntries by h)
            (account_of view).shares)
            fits.seen.new_is fits.mine));
        mine = fits.mine;
        alone = λ all. nothing_before fits.seen.since (account_of view).seen
            (sym fits.seen.new_is ∙ knows_whole by account_of ledger views seats id view at all);
      }

  -- the next number
  pub is_next : IsNext by (account_of view) ledger.next
  is_next =
      let fits = seats.each_seat id view at in
      record {
        own = all_weaker (λ (share : Share Entry). IsOwned ledger id share.number)
            (λ share. share.number < ledger.next) (λ share owned. owned.given)
            (account_of view).shares fits.owned;
        gave = fits.gave;
        seen = past_all (λ (entry : Entry). by entry < ledger.next) (account_of view).seen
            ledger.history fits.seen seats.by_given;
        all = λ all number below.
            has_every_number by account_of ledger views seats id view at all number below;
      }

-- a seat that has all the numbers has them after an entry
pub entered_has_all : {Entry : Type 0} (by : Entry → ℕ) (entry : Entry) (past : List Entry)
    (account : Account Entry) → HasAllNumbers account →
    HasAllNumbers (entered_account by entry past account)
entered_has_all by entry past account all =
    record {
      first = has_number-share_after by entry account.shares 0 ∙ all.first;
      gave = all_weaker (λ number. has_number account.shares number ≡ true)
          (λ number. has_number (map (share_after by entry) account.shares) number ≡ true)
          (λ number has. has_number-share_after by entry account.shares number ∙ has)
          account.gave all.gave;
    }
