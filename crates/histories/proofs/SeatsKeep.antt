-- All seats still fit one history after each thing that may become of one of them:
-- nothing, a look at the history, an entry, a split, a number handed over, a join.
use Rattle.std.proofs.Common.{[], ◌≡◌, ◌≢◌, ⊎_elim, ℕ, zero, suc, ◌+◌, ◌<◌, ◌≤◌, true}
use Rattle.std.proofs.Common.{eqb, List, ◌∷◌, ◌++◌, length, map, set, refl, sym, ap, subst}
use Rattle.std.proofs.Common.{◌∙◌, arith, eq-eqb, ne_eqb}
use Rattle.std.specs.List.{AllByRecursion, list_any}
use mathlib.Core.Logic.{dite}
use mathlib.Core.Option.{some, some-injective, some-ne-none}
use native.Mathlib.Decide.{ℕ_discrete}
use lib.ListN.{get_elem?}
use Rattle.histories.specs.declared.account.Account.{Account}
use Rattle.histories.specs.declared.account.Share.{Share}
use Rattle.histories.specs.History.{Meaning, IsPast, entries_by, AreByBelow, IsLegal}
use Rattle.histories.specs.Account.{AreDifferent, HasItsEntries, KnowsHistory, numbers_in}
use Rattle.histories.specs.Account.{has_number, has_given, share_after, spent_account, longer_of}
use Rattle.histories.specs.Account.{unused_share, first_account, numbers_from}
use Rattle.histories.specs.Changes.{entered_account, parent_account, child_account}
use Rattle.histories.specs.Changes.{joined_account, keeping_account, handed_account}
use Rattle.histories.specs.Ledger.{Ledger, IsOwned, FitsLedger, WasGiven, AreSeats, ledger_with}
use Rattle.histories.specs.Ledger.{ledger_gave, ledger_joined, ledger_handed, opening_ledger}
use Rattle.histories.proofs.ListLemmas.{all_append, all_weaker, all_both, all_map, all_past}
use Rattle.histories.proofs.ListLemmas.{all_without}
use Rattle.histories.proofs.ListLemmas.{past_refl, past_nil, past_cons, past_trans, past_all}
use Rattle.histories.proofs.ListLemmas.{at_set, set_here, set_else, at_end, at_longer, at_once}
use Rattle.histories.proofs.HistoryLemmas.{entries_by-other, entries_by-unused, by_below_weaker}
use Rattle.histories.proofs.HistoryLemmas.{past_history}
use Rattle.histories.proofs.AccountLemmas.{listed_first, listed_second, different_append}
use Rattle.histories.proofs.AccountLemmas.{listed_from, all_from, different_from, numbers_in-unused}
use Rattle.histories.proofs.AccountLemmas.{without_apart, without_different}
use Rattle.histories.proofs.AccountLemmas.{number_has, numbers_in-append, Compares, compares}
use Rattle.histories.proofs.AccountLemmas.{numbers_in-share_after, all_gain, all_between}

module _ {Entry : Type 0} (by : Entry → ℕ) where
  -- a number of a seat was given, and the seat is its owner
  pub number_is_owned : (ledger : Ledger Entry) (seat number : ℕ) (account : Account Entry) →
      FitsLedger by ledger seat account → has_number account.shares number ≡ true →
      IsOwned ledger seat number
  number_is_owned ledger seat number account fits has =
      number_has (λ n. IsOwned ledger seat n) number account.shares fits.owned has

  -- an account still fits where the history has no more of its entries,
  -- and its numbers are still its own
  pub fits_moved : (ledger ledger' : Ledger Entry) (seat : ℕ) (account : Account Entry) →
      FitsLedger by ledger seat account → IsPast ledger.history ledger'.history →
      ledger.next ≤ ledger'.next →
      ((number : ℕ) → IsOwned ledger seat number → (ledger'.owner number ≡ seat) ×
      (entries_by by number ledger'.history ≡ entries_by by number ledger.history)) →
      FitsLedger by ledger' seat account
  fits_moved ledger ledger' seat account fits grows more stays =
      record {
        seen = past_trans account.seen ledger.history ledger'.history fits.seen grows;
        mine_seen = fits.mine_seen;
        mine = all_both (λ share. IsOwned ledger seat share.number)
            (HasItsEntries by ledger.history) (HasItsEntries by ledger'.history)
            (λ share owned has.
            record { entries = (stays share.number owned).1 ∙ has.entries })
            account.shares fits.owned fits.mine;
        owned = all_weaker (λ (share : Share Entry). IsOwned ledger seat share.number)
            (λ share. IsOwned ledger' seat share.number)
            (λ share owned. let below = owned.given in
            record { given = omega arith; owner_is = (stays share.number owned).0 })
            account.shares fits.owned;
        different = fits.different;
        gave = all_weaker (λ number. number < ledger.next) (λ number. number < ledger'.next)
            (λ number below. omega arith) account.gave fits.gave;
      }

  -- the account of a spent seat fits every history
  pub spent_fits : (ledger : Ledger Entry) (seat : ℕ) → FitsLedger by ledger seat spent_account
  spent_fits ledger seat =
      record {
        seen = past_nil ledger.history;
        mine_seen = tt;
        mine = tt;
        owned = tt;
        different = tt;
        gave = tt;
      }

  -- the seat that made the entry fits the longer history
  pub entered_fits : (ledger : Ledger Entry) (seat : ℕ) (entry : Entry) (account : Account Entry) →
      FitsLedger by ledger seat account → FitsLedger by (ledger_with entry ledger) seat
      (entered_account by entry ledger.history account)
  entered_fits ledger seat entry account fits =
      let gained = all_gain by ledger.history entry account.shares fits.mine in
      record {
        seen = past_refl (entry ∷ ledger.history);
        mine_seen = gained;
        mine = gained;
        owned = all_map (λ share. IsOwned (ledger_with entry ledger) seat share.number)
            (share_after by entry) account.shares
            (all_weaker (λ (share : Share Entry). IsOwned ledger seat share.number)
            (λ share. IsOwned (ledger_with entry ledger) seat share.number)
            (λ share owned. record { given = owned.given; owner_is = owned.owner_is })
            account.shares fits.owned);
        different = subst AreDifferent (sym (numbers_in-share_after by entry account.shares))
            fits.different;
        gave = fits.gave;
      }

-- what a seat knows is a past of the one legal history
pub knows_history : {State Entry : Type 0} (meaning : Meaning State Entry) (opening : State)
    (limit : ℕ) (ledger : Ledger Entry) (seat : ℕ) (account : Account Entry) →
    IsLegal meaning opening ledger.history → AreByBelow meaning.by ledger.next ledger.history →
    ledger.next ≤ limit → FitsLedger meaning.by ledger seat account →
    KnowsHistory meaning opening limit account
knows_history meaning opening limit ledger seat account legal below within fits =
    record {
      history = past_history meaning opening limit account.seen ledger.history fits.seen
          record {
            legal = legal;
            within = by_below_weaker meaning.by ledger.next limit ledger.history within below;
          };
      mine = fits.mine_seen;
      different = fits.different;
      numbers = all_weaker (λ (share : Share _). IsOwned ledger seat share.number)
          (λ share. share.number < limit)
          (λ share owned. let given = owned.given in omega arith) account.shares fits.owned;
      gave = all_weaker (λ number. number < ledger.next) (λ number. number < limit)
          (λ number given. omega arith) account.gave fits.gave;
    }

module _ {View Entry : Type 0} (by : Entry → ℕ) (account_of : View → Account Entry) where
  -- ---- one view is replaced

  -- each seat fits after a step of one of them
  pub each_after : (ledger : Ledger Entry) (views : List View) (id : ℕ) (after : View) →
      FitsLedger by ledger id (account_of after) →
      ((seat : ℕ) (view : View) → seat ≢ id → get_elem? views seat ≡ some view →
      FitsLedger by ledger seat (account_of view)) →
      (seat : ℕ) (view : View) → get_elem? (set views id after) seat ≡ some view →
      FitsLedger by ledger seat (account_of view)
  each_after ledger views id after own others seat view at =
      ⊎_elim
      (λ here. subst (λ (v : View). FitsLedger by ledger seat (account_of v)) here.1
      (subst (λ (i : ℕ). FitsLedger by ledger i (account_of after)) (sym here.0) own))
      (λ there. others seat view there.0 there.1) (at_set views id seat after view at)

  -- a seat that tells what it told before tells it still
  abbrev Tells : ℕ → List View → ℕ → Type 0
  Tells number views seat =
      (view : View) × (get_elem? views seat ≡ some view) × (has_given (account_of view) number
      ≡ true)

  tells_after : (number : ℕ) (views : List View) (id : ℕ) (before after : View) (seat : ℕ) →
      get_elem? views id ≡ some before →
      (has_given (account_of before) number ≡ true → has_given (account_of after) number ≡ true) →
      Tells number views seat → Tells number (set views id after) seat
  tells_after number views id before after seat at keeps old =
      dite (ℕ_discrete seat id)
      (λ same.
      let here : get_elem? views id ≡ some old.0 = subst (λ (i : ℕ). get_elem? views i
      ≡ some old.0) same old.1 in
      let is : old.0 ≡ before = at_once views id old.0 before here at in (
        after,
        subst (λ (i : ℕ). get_elem? (set views id after) i ≡ some after) (sym same)
            (set_here views id after before at),
        keeps (subst (λ (v : View). has_given (account_of v) number ≡ true) is old.2),
      ))
      (λ other. (old.0, set_else views id seat after other ∙ old.1, old.2))

  -- the seats after a step of one of them in which no number is given
  pub seats_after : (ledger ledger' : Ledger Entry) (views : List View) (id : ℕ)
      (before after : View) → AreSeats by account_of ledger views →
      get_elem? views id ≡ some before →
      ledger'.next ≡ ledger.next → ledger'.owner ≡ ledger.owner → ledger'.parent ≡ ledger.parent →
      (account_of after).gave ≡ (account_of before).gave →
      AreByBelow by ledger'.next ledger'.history → FitsLedger by ledger' id (account_of after) →
      ((seat : ℕ) (view : View) → seat ≢ id → get_elem? views seat ≡ some view →
      FitsLedger by ledger' seat (account_of view)) →
      AreSeats by account_of ledger' (set views id after)
  seats_after ledger ledger' views id before after seats at next owner parent gave below own
      others =
      record {
        by_given = below;
        each_seat = each_after ledger' views id after own others;
        each_number = λ number some_number given.
            let was = seats.each_number number some_number (subst (λ (n : ℕ).
            number < n) next given) in
            let told = tells_after number views id before after
            (ledger.owner (ledger.parent number)) at
            (λ has. ap (λ (numbers : List ℕ). list_any (λ given. eqb given number) numbers) gave
            ∙ has)
            (was.view, was.there, was.tells) in
            let same : ledger.owner (ledger.parent number) ≡ ledger'.owner (ledger'.parent number) =
            ap (λ (f : ℕ → ℕ). f (ledger.parent number)) (sym owner)
            ∙ ap (λ (f : ℕ → ℕ). ledger'.owner (f number)) (sym parent) in
            record {
              lower = subst (λ (f : ℕ → ℕ). f number < number) (sym parent) was.lower;
              view = told.0;
              there = subst (λ (i : ℕ). get_elem? (set views id after) i ≡ some told.0) same told.1;
              tells = told.2;
            };
      }

  -- ---- nothing, and a look

  -- the seat's account is as it was
  pub seats_stay : (ledger : Ledger Entry) (views : List View) (id : ℕ) (before after : View) →
      AreSeats by account_of ledger views → get_elem? views id ≡ some before →
      account_of after ≡ account_of before → AreSeats by account_of ledger (set views id after)
  seats_stay ledger views id before after seats at same =
      seats_after ledger ledger views id before after seats at refl refl refl
      (ap (λ (a : Account Entry). a.gave) same) seats.by_given
      (subst (FitsLedger by ledger id) (sym same) (seats.each_seat id before at))
      (λ seat view other there. seats.each_seat seat view there)

  -- ---- an entry

  -- the seat has made an entry by one of its numbers
  pub seats_enter : (ledger : Ledger Entry) (views : List View) (id : ℕ) (before after : View)
      (entry : Entry) → AreSeats by account_of ledger views → get_elem? views id ≡ some before →
      has_number (account_of before).shares (by entry) ≡ true →
      account_of after ≡ entered_account by entry ledger.history (account_of before) →
      AreSeats by account_of (ledger_with entry ledger) (set views id after)
  seats_enter ledger views id before after entry seats at has is =
      seats_after ledger (ledger_with entry ledger) views id before after seats at refl refl refl
      (ap (λ (a : Account Entry). a.gave) is) (owned.given, seats.by_given)
      (subst (FitsLedger by (ledger_with entry ledger) id) (sym is)
      (entered_fits by ledger id entry (account_of before) (seats.each_seat id before at)))
      (λ seat view other there.
      fits_moved by ledger (ledger_with entry ledger) seat (account_of view)
      (seats.each_seat seat view there)
      (past_cons ledger.history ledger.history entry (past_refl ledger.history)) (omega arith)
      (λ number its. (
        its.owner_is,
        entries_by-other by number entry ledger.history
            (λ same. other (sym its.owner_is ∙ ap ledger.owner (sym same) ∙ owned.owner_is)),
      )))
    where
      owned : IsOwned ledger id (by entry)
      owned = number_is_owned by ledger id (by entry) (account_of before)
          (seats.each_seat id before at) has

  -- ---- a split

  -- the seat gave the next number to a new seat, and what else its view has stays or goes
  module _ (ledger : Ledger Entry) (views : List View) (id giver : ℕ) (before parent child : View)
      (seats : AreSeats by account_of ledger views) (at : get_elem? views id ≡ some before)
      (has : has_number (account_of before).shares giver ≡ true)
      (parent_is : account_of parent ≡ parent_account ledger.next (account_of before))
      (child_is : account_of child ≡ child_account ledger.next (account_of before)) where
    abbrev new_seat : ℕ
    new_seat = length (set views id parent)

    abbrev after : Ledger Entry
    after = ledger_gave giver new_seat ledger

    fits : FitsLedger by ledger id (account_of before)
    fits = seats.each_seat id before at

    giver_owned : IsOwned ledger id giver
    giver_owned = number_is_owned by ledger id giver (account_of before) fits has

    owner_stays : (number : ℕ) → number < ledger.next → after.owner number ≡ ledger.owner number
    owner_stays number below =
        let apart : number ≢ ledger.next = λ same. absurd (omega arith) in
        rw (ne_eqb number ledger.next apart) refl

    moved : (seat : ℕ) (account : Account Entry) → FitsLedger by ledger seat account →
        FitsLedger by after seat account
    moved seat account old =
        fits_moved by ledger after seat account old (past_refl ledger.history) (omega arith)
        (λ number its. (owner_stays number its.given ∙ its.owner_is, refl))

    parent_fits : FitsLedger by after id (parent_account ledger.next (account_of before))
    parent_fits =
        let kept = moved id (account_of before) fits in
        record {
          seen = kept.seen;
          mine_seen = kept.mine_seen;
          mine = kept.mine;
          owned = kept.owned;
          different = kept.different;
          gave = (omega arith, kept.gave);
        }

    child_fits : FitsLedger by after new_seat (child_account ledger.next (account_of before))
    child_fits =
        let below : AreByBelow by ledger.next (account_of before).seen =
        past_all (λ (entry : Entry). by entry < ledger.next) (account_of before).seen
        ledger.history fits.seen seats.by_given in
        record {
          seen = fits.seen;
          mine_seen = (
            record {
              entries = entries_by-unused by ledger.next ledger.next
                  (account_of before).seen below (omega arith);
            },
            tt,
          );
          mine = (
            record {
              entries = entries_by-unused by ledger.next ledger.next
                  ledger.history seats.by_given (omega arith);
            },
            tt,
          );
          owned = (
            record {
              given = omega arith;
              owner_is = rw
                  (eq-eqb ledger.next ledger.next refl) refl;
            },
            tt,
          );
          different = (tt, tt);
          gave = tt;
        }

    told : (number : ℕ) → 0 < number → number < ledger.next + 1 →
        WasGiven account_of after (set views id parent ++ child ∷ []) number
    told number some_number given =
        dite (ℕ_discrete number ledger.next)
        (λ same.
        let up : eqb number ledger.next ≡ true = eq-eqb number ledger.next same in
        let giver_is : after.parent number ≡ giver = rw up refl in
        let owner_is : after.owner giver ≡ id = owner_stays giver giver_owned.given
        ∙ giver_owned.owner_is in
        let below = giver_owned.given in
        record {
          lower = subst (λ (n : ℕ). n < number) (sym giver_is) (omega arith);
          view = parent;
          there = subst (λ (i : ℕ). get_elem? (set views id parent ++ child ∷ []) i ≡ some parent)
              (sym (ap after.owner giver_is ∙ owner_is))
              (at_longer (set views id parent) (child ∷ []) id parent
              (set_here views id parent before at));
          tells = ap (λ (a : Account Entry). has_given a number) parent_is
              ∙ rw (eq-eqb ledger.next number (sym same)) refl;
        })
        (λ apart.
        let old = seats.each_number number some_number (omega arith) in
        let parent_stays : after.parent number ≡ ledger.parent number = rw
        (ne_eqb number ledger.next apart) refl in
        let lower = old.lower in
        let still = tells_after number views id before parent
        (ledger.owner (ledger.parent number)) at
        (λ it. ap (λ (a : Account Entry). has_given a number) parent_is
        ∙ listed_second number (ledger.next ∷ []) (account_of before).gave it)
        (old.view, old.there, old.tells) in
        record {
          lower = subst (λ (n : ℕ). n < number) (sym parent_stays) old.lower;
          view = still.0;
          there = subst (λ (i : ℕ). get_elem? (set views id parent ++ child ∷ []) i ≡ some still.0)
              (sym (ap after.owner parent_stays ∙ owner_stays (ledger.parent number) (omega arith)))
              (at_longer (set views id parent) (child ∷ [])
              (ledger.owner (ledger.parent number)) still.0 still.1);
          tells = still.2;
        })

    -- when the next number goes to a new seat after the others, all seats still fit the history
    pub seats_split : AreSeats by account_of (ledger_gave giver (length
        (set views id parent)) ledger)
        (set views id parent ++ child ∷ [])
    seats_split =
        record {
          by_given = by_below_weaker by ledger.next (ledger.next + 1) ledger.history (omega arith)
              seats.by_given;
          each_seat = λ seat view there.
              ⊎_elim
              (λ old. each_after after views id parent
              (subst (FitsLedger by after id) (sym parent_is) parent_fits)
              (λ seat view other there. moved seat (account_of view)
              (seats.each_seat seat view there))
              seat view old)
              (λ last. subst (λ (v : View). FitsLedger by after seat (account_of v)) last.0
              (subst (λ (i : ℕ). FitsLedger by after i (account_of child)) (sym last.1)
              (subst (FitsLedger by after new_seat) (sym child_is) child_fits)))
              (at_end (set views id parent) child view seat there);
          each_number = told;
        }

  -- ---- a join

  -- one seat has become of two, and the other is spent
  module _ (ledger : Ledger Entry) (views : List View) (id other : ℕ)
      (first second joined spent : View) (seats : AreSeats by account_of ledger views)
      (at : get_elem? views id ≡ some first) (apart : other ≢ id)
      (at_other : get_elem? views other ≡ some second)
      (joined_is : account_of joined ≡ joined_account (account_of first) (account_of second))
      (spent_is : account_of spent ≡ spent_account) where
    abbrev together : Ledger Entry
    together = ledger_joined id other ledger

    one : FitsLedger by ledger id (account_of first)
    one = seats.each_seat id first at

    two : FitsLedger by ledger other (account_of second)
    two = seats.each_seat other second at_other

    stays : (number seat : ℕ) → ledger.owner number ≡ seat → seat ≢ other →
        together.owner number ≡ seat
    stays number seat owned unspent =
        rw (ne_eqb (ledger.owner number) other (λ same. unspent (sym owned ∙ same))) owned

    moves : (number : ℕ) → ledger.owner number ≡ other → together.owner number ≡ id
    moves number owned = rw (eq-eqb (ledger.owner number) other owned) refl

    both : Compares (account_of first).seen (account_of second).seen ledger.history
    both = compares (account_of first).seen
        (account_of second).seen ledger.history one.seen two.seen

    abbrev long : List Entry
    long = longer_of (account_of first).seen (account_of second).seen

    -- no number of the first is one of the second
    numbers_apart : AllByRecursion (λ x. AllByRecursion (λ y. x ≢ y)
        (numbers_in (account_of second).shares)) (numbers_in (account_of first).shares)
    numbers_apart =
        all_map (λ (x : ℕ). AllByRecursion (λ y. x ≢ y) (numbers_in (account_of second).shares))
        (λ (share : Share Entry). share.number) (account_of first).shares
        (all_weaker (λ (share : Share Entry). IsOwned ledger id share.number)
        (λ share. AllByRecursion (λ y. share.number ≢ y) (numbers_in (account_of second).shares))
        (λ share owned. all_map (λ (y : ℕ). share.number ≢ y)
        (λ (theirs : Share Entry). theirs.number) (account_of second).shares
        (all_weaker (λ (theirs : Share Entry). IsOwned ledger other theirs.number)
        (λ theirs. share.number ≢ theirs.number)
        (λ theirs their. λ same.
        apart (sym their.owner_is ∙ ap ledger.owner (sym same) ∙ owned.owner_is))
        (account_of second).shares two.owned))
        (account_of first).shares one.owned)

    joined_fits : FitsLedger by together id (joined_account (account_of first) (account_of second))
    joined_fits =
        record {
          seen = both.longer;
          mine_seen = all_append (HasItsEntries by long)
              (account_of first).shares (account_of second).shares
              (all_between by (account_of first).seen long ledger.history both.first_past
              both.longer (account_of first).shares one.mine_seen one.mine)
              (all_between by (account_of second).seen long ledger.history both.second_past
              both.longer (account_of second).shares two.mine_seen two.mine);
          mine = all_append (HasItsEntries by ledger.history)
              (account_of first).shares (account_of second).shares one.mine two.mine;
          owned = all_append (λ share. IsOwned together id share.number)
              (account_of first).shares (account_of second).shares
              (all_weaker (λ (share : Share Entry). IsOwned ledger id share.number)
              (λ share. IsOwned together id share.number)
              (λ share owned. record {
                given = owned.given;
                owner_is = stays share.number id
                    owned.owner_is (λ same. apart (sym same));
              }) (account_of first).shares one.owned)
              (all_weaker (λ (share : Share Entry). IsOwned ledger other share.number)
              (λ share. IsOwned together id share.number)
              (λ share owned. record {
                given = owned.given;
                owner_is = moves share.number
                    owned.owner_is;
              }) (account_of second).shares two.owned);
          different = subst AreDifferent
              (sym (numbers_in-append (account_of first).shares (account_of second).shares))
              (different_append (numbers_in (account_of first).shares)
              (numbers_in (account_of second).shares) one.different two.different numbers_apart);
          gave = all_append (λ number. number < ledger.next)
              (account_of first).gave (account_of second).gave one.gave two.gave;
        }

    abbrev views_after : List View
    views_after = set (set views id joined) other spent

    at_joined : get_elem? views_after id ≡ some joined
    at_joined =
        set_else (set views id joined) other id spent (λ same. apart (sym same))
        ∙ set_here views id joined first at

    told_joined : (number : ℕ) → 0 < number → number < ledger.next →
        WasGiven account_of together views_after number
    told_joined number some_number given =
        dite (ℕ_discrete (ledger.owner (ledger.parent number)) other)
        (λ here.
        let is : old.view ≡ second = at_once views other old.view second
        (subst (λ (i : ℕ). get_elem? views i ≡ some old.view) here old.there) at_other in
        by_joined (moves (ledger.parent number) here)
        (listed_second number (account_of first).gave (account_of second).gave
        (subst (λ (v : View). has_given (account_of v) number ≡ true) is old.tells)))
        (λ unspent. dite (ℕ_discrete (ledger.owner (ledger.parent number)) id)
        (λ here.
        let is : old.view ≡ first = at_once views id old.view first
        (subst (λ (i : ℕ). get_elem? views i ≡ some old.view) here old.there) at in
        by_joined (stays (ledger.parent number) id here (λ same. apart (sym same)))
        (listed_first number (account_of first).gave (account_of second).gave
        (subst (λ (v : View). has_given (account_of v) number ≡ true) is old.tells)))
        (λ another. record {
          lower = old.lower;
          view = old.view;
          there = subst (λ (i : ℕ). get_elem? views_after i ≡ some old.view)
              (sym (stays (ledger.parent number) (ledger.owner
              (ledger.parent number)) refl unspent))
              (set_else (set views id joined) other (ledger.owner
              (ledger.parent number)) spent unspent
              ∙ set_else views id (ledger.owner (ledger.parent number)) joined another
              ∙ old.there);
          tells = old.tells;
        }))
      where
        old : WasGiven account_of ledger views number
        old = seats.each_number number some_number given

        by_joined : together.owner (ledger.parent number) ≡ id →
            has_given (joined_account (account_of first) (account_of second)) number ≡ true →
            WasGiven account_of together views_after number
        by_joined owner_is has =
            record {
              lower = old.lower;
              view = joined;
              there = subst (λ (i : ℕ). get_elem? views_after i ≡ some joined)
                  (sym owner_is) at_joined;
              tells = ap (λ (a : Account Entry). has_given a number) joined_is ∙ has;
            }

    -- when one seat takes the numbers of another, which is spent, all seats still fit the history
    pub seats_join : AreSeats by account_of (ledger_joined id other ledger)
        (set (set views id joined) other spent)
    seats_join =
        record {
          by_given = seats.by_given;
          each_seat = each_after together (set views id joined) other spent
              (subst (FitsLedger by together other) (sym spent_is) (spent_fits by together other))
              (λ seat view unspent there.
              each_after_first seat view unspent there);
          each_number = told_joined;
        }
      where
        each_after_first : (seat : ℕ) (view : View) → seat ≢ other →
            get_elem? (set views id joined) seat ≡ some view →
            FitsLedger by together seat (account_of view)
        each_after_first seat view unspent there =
            ⊎_elim
            (λ here. subst (λ (v : View). FitsLedger by together seat (account_of v)) here.1
            (subst (λ (i : ℕ). FitsLedger by together i (account_of joined)) (sym here.0)
            (subst (FitsLedger by together id) (sym joined_is) joined_fits)))
            (λ third. fits_moved by ledger together seat (account_of view)
            (seats.each_seat seat view third.1) (past_refl ledger.history) (omega arith)
            (λ number its. (stays number seat its.owner_is unspent, refl)))
            (at_set views id seat joined view there)

    -- both had seen pasts of what the joined seat has seen
    pub seen_before_join : Compares (account_of first).seen (account_of second).seen ledger.history
    seen_before_join = both

  -- ---- a number handed over

  -- the seat has handed one of its numbers over to a new seat; it keeps a lower one
  module _ (ledger : Ledger Entry) (views : List View) (id kept : ℕ) (before parent child : View)
      (front back : List (Share Entry)) (handed : Share Entry)
      (seats : AreSeats by account_of ledger views) (at : get_elem? views id ≡ some before)
      (shares_are : (account_of before).shares ≡ front ++ handed ∷ back)
      (keeps : has_number (front ++ back) kept ≡ true) (lower : kept < handed.number)
      (parent_is : account_of parent ≡ keeping_account (front ++ back) (account_of before))
      (child_is : account_of child ≡ handed_account handed (account_of before)) where
    abbrev hand_seat : ℕ
    hand_seat = length (set views id parent)

    abbrev handing : Ledger Entry
    handing = ledger_handed kept handed.number hand_seat ledger

    hand_fits : FitsLedger by ledger id (account_of before)
    hand_fits = seats.each_seat id before at

    owned_here : AllByRecursion (λ share. IsOwned ledger id share.number) (front ++ handed ∷ back)
    owned_here = subst (λ (xs : List (Share Entry)). AllByRecursion (λ share.
        IsOwned ledger id share.number) xs) shares_are hand_fits.owned

    different_here : AreDifferent (numbers_in (front ++ handed ∷ back))
    different_here = subst (λ (xs : List (Share Entry)). AreDifferent
        (numbers_in xs)) shares_are hand_fits.different

    seen_here : AllByRecursion (HasItsEntries by (account_of before).seen) (front ++ handed ∷ back)
    seen_here = subst (AllByRecursion (HasItsEntries by
        (account_of before).seen)) shares_are hand_fits.mine_seen

    mine_here : AllByRecursion (HasItsEntries by ledger.history) (front ++ handed ∷ back)
    mine_here = subst (AllByRecursion (HasItsEntries by ledger.history)) shares_are hand_fits.mine

    handed_owned : IsOwned ledger id handed.number
    handed_owned = (all_past (λ share. IsOwned ledger id share.number) front
        (handed ∷ back) owned_here).0

    hand_stays : (number : ℕ) → number ≢ handed.number → handing.owner number ≡ ledger.owner number
    hand_stays number apart = rw (ne_eqb number handed.number apart) refl

    kept_fits : FitsLedger by handing id (keeping_account (front ++ back) (account_of before))
    kept_fits =
        record {
          seen = hand_fits.seen;
          mine_seen = all_without (HasItsEntries by
              (account_of before).seen) front back handed seen_here;
          mine = all_without (HasItsEntries by ledger.history) front back handed mine_here;
          owned = all_both (λ share. IsOwned ledger id share.number)
              (λ share. share.number ≢ handed.number) (λ share. IsOwned handing id share.number)
              (λ share owned apart. record {
                given = owned.given;
                owner_is = hand_stays share.number apart ∙ owned.owner_is;
              }) (front ++ back)
              (all_without (λ share. IsOwned ledger id share.number) front back handed owned_here)
              (without_apart front back handed different_here);
          different = without_different front back handed different_here;
          gave = hand_fits.gave;
        }

    hand_child_fits : FitsLedger by handing hand_seat (handed_account handed (account_of before))
    hand_child_fits =
        record {
          seen = hand_fits.seen;
          mine_seen = (
            (all_past (HasItsEntries by (account_of before).seen) front
                (handed ∷ back) seen_here).0,
            tt,
          );
          mine = (
            (all_past (HasItsEntries by ledger.history) front
                (handed ∷ back) mine_here).0,
            tt,
          );
          owned = (
            record {
              given = handed_owned.given;
              owner_is = rw (eq-eqb handed.number handed.number refl) refl;
            },
            tt,
          );
          different = (tt, tt);
          gave = tt;
        }

    hand_others : (seat : ℕ) (view : View) → seat ≢ id → get_elem? views seat ≡ some view →
        FitsLedger by handing seat (account_of view)
    hand_others seat view other there =
        fits_moved by ledger handing seat (account_of view) (seats.each_seat seat view there)
        (past_refl ledger.history) (omega arith)
        (λ number its. (
          hand_stays number
              (λ same. other (sym its.owner_is ∙ ap ledger.owner same ∙ handed_owned.owner_is))
              ∙ its.owner_is,
          refl,
        ))

    kept_owned : IsOwned ledger id kept
    kept_owned = number_has (λ n. IsOwned ledger id n) kept (front ++ back)
        (all_without (λ share. IsOwned ledger id share.number) front back handed owned_here) keeps

    told_handed : (number : ℕ) → 0 < number → number < ledger.next →
        WasGiven account_of handing (set views id parent ++ child ∷ []) number
    told_handed number some_number given =
        let old = seats.each_number number some_number given in
        let old_lower = old.lower in
        let still = tells_after number views id before parent
        (ledger.owner (ledger.parent number)) at
        (λ it. ap (λ (a : Account Entry). has_given a number) parent_is ∙ it)
        (old.view, old.there, old.tells) in
        dite (ℕ_discrete (ledger.parent number) handed.number)
        (λ same.
        let moves : handing.parent number ≡ kept = rw (eq-eqb
        (ledger.parent number) handed.number same) refl in
        let owner_is : ledger.owner (ledger.parent number) ≡ handing.owner kept =
        ap ledger.owner same ∙ handed_owned.owner_is ∙ sym kept_owned.owner_is
        ∙ sym (hand_stays kept (λ equal. absurd (omega arith))) in
        record {
          lower = subst (λ (n : ℕ). n < number) (sym moves) (omega arith);
          view = still.0;
          there = subst (λ (i : ℕ). get_elem? (set views id parent ++ child ∷ []) i ≡ some still.0)
              (owner_is ∙ ap handing.owner (sym moves))
              (at_longer (set views id parent) (child ∷ []) (ledger.owner
              (ledger.parent number)) still.0 still.1);
          tells = still.2;
        })
        (λ apart.
        let stays : handing.parent number ≡ ledger.parent number = rw (ne_eqb
        (ledger.parent number) handed.number apart) refl in
        record {
          lower = subst (λ (n : ℕ). n < number) (sym stays) old_lower;
          view = still.0;
          there = subst (λ (i : ℕ). get_elem? (set views id parent ++ child ∷ []) i ≡ some still.0)
              (sym (ap handing.owner stays ∙ hand_stays (ledger.parent number) apart))
              (at_longer (set views id parent) (child ∷ []) (ledger.owner
              (ledger.parent number)) still.0 still.1);
          tells = still.2;
        })

    -- when a number goes from its seat to a new one after the others, all seats still fit the
    -- history
    pub seats_hand : AreSeats by account_of
        (ledger_handed kept handed.number (length (set views id parent)) ledger)
        (set views id parent ++ child ∷ [])
    seats_hand =
        record {
          by_given = seats.by_given;
          each_seat = λ seat view there.
              ⊎_elim
              (λ old. each_after handing views id parent
              (subst (FitsLedger by handing id) (sym parent_is) kept_fits) hand_others
              seat view old)
              (λ last. subst (λ (v : View). FitsLedger by handing seat (account_of v)) last.0
              (subst (λ (i : ℕ). FitsLedger by handing i (account_of child)) (sym last.1)
              (subst (FitsLedger by handing hand_seat) (sym child_is) hand_child_fits)))
              (at_end (set views id parent) child view seat there);
          each_number = told_handed;
        }

  -- ---- the opening

  -- the first seat, which has 0 and so many numbers more
  pub seats_open : (more : ℕ) (first : View) → account_of first ≡ first_account more →
      AreSeats by account_of (opening_ledger more) (first ∷ [])
  seats_open more first is =
      record {
        by_given = tt;
        each_seat = each_seat;
        each_number = λ number some_number given. record {
          lower = some_number;
          view = first;
          there = refl;
          tells = ap (λ (a : Account Entry). has_given a number) is
              ∙ listed_from 1 more number (omega arith) (omega arith);
        };
      }
    where
      unused_have : (numbers : List ℕ) →
          AllByRecursion (HasItsEntries by []) (map unused_share numbers)
      unused_have [] = tt
      unused_have (number ∷ numbers) = (record { entries = refl }, unused_have numbers)

      fits : FitsLedger by (opening_ledger more) 0 (first_account more)
      fits =
          record {
            seen = past_refl [];
            mine_seen = (record { entries = refl }, unused_have (numbers_from 1 more));
            mine = (record { entries = refl }, unused_have (numbers_from 1 more));
            owned = (
              record { given = omega arith; owner_is = refl },
              all_map (λ (share : Share Entry). IsOwned {Entry = Entry}
                  (opening_ledger more) 0 share.number)
                  unused_share (numbers_from 1 more)
                  (all_weaker (λ n. (1 ≤ n) × (n < 1 + more))
                  (λ n. IsOwned {Entry = Entry} (opening_ledger more) 0 n)
                  (λ n within. let below = within.1 in record {
                    given = omega arith;
                    owner_is =
                        refl;
                  })
                  (numbers_from 1 more) (all_from 1 more)),
            );
            different = (
              subst (AllByRecursion (λ other. 0 ≢ other)) (sym (numbers_in-unused Entry
                  (numbers_from 1 more)))
                  (all_weaker (λ n. (1 ≤ n) × (n < 1 + more)) (λ n. 0 ≢ n)
                  (λ n within. let above = within.0 in λ same. absurd (omega arith))
                  (numbers_from 1 more) (all_from 1 more)),
              subst AreDifferent (sym (numbers_in-unused Entry (numbers_from 1 more)))
                  (different_from 1 more),
            );
            gave = all_weaker (λ n. (1 ≤ n) × (n < 1 + more)) (λ n. n < more + 1)
                (λ n within. let below = within.1 in omega arith)
                (numbers_from 1 more) (all_from 1 more);
          }

      each_seat : (seat : ℕ) (view : View) → get_elem? (first ∷ []) seat ≡ some view →
          FitsLedger by (opening_ledger more) seat (account_of view)
      each_seat zero view there =
          subst (λ (v : View). FitsLedger by (opening_ledger more) 0 (account_of v))
          (some-injective first view there)
          (subst (FitsLedger by (opening_ledger more) 0) (sym is) fits)
      each_seat (suc seat) view there = absurd (some-ne-none view (sym there))
