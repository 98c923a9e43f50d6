-- What holds of a seat's own entries, as they become more, and of the same entries in the history.
use Rattle.std.proofs.Common.{◌≡◌, ◌||◌, eqb, ℕ, Bool, true, false, if◌then◌else◌, arith, refl}
use Rattle.std.proofs.Common.{List, [], ◌∷◌, map, sym, subst}
use Rattle.std.specs.Prelude.{IsTrue, ⊤}
use Rattle.std.specs.List.{AllByRecursion}
use Rattle.std.proofs.lemmas.Bool.Decides.{nat_tests}
use Rattle.histories.specs.declared.account.Account.{Account}
use Rattle.histories.specs.declared.account.Share.{Share}
use Rattle.histories.specs.Account.{HasItsEntries, has_number, share_after}
use Rattle.histories.specs.History.{entries_by}
use Rattle.histories.proofs.ListLemmas.{all_weaker}
use Rattle.block_queue.specs.declared.entry.Entry.{Entry}
use Rattle.block_queue.specs.declared.view.Key.{Key}
use Rattle.block_queue.specs.History.{seat_of}
use Rattle.block_queue.specs.Meaning.{Enters}
use Rattle.example_headline.specs.Crew.{OfMine}

-- what follows of any entries follows of the seat's own
pub of_mine_weaker : (number : ℕ) (account : Account Entry) (P Q : List Entry → Type 0)
    → ((mine : List Entry) → P mine → Q mine) → OfMine number P account → OfMine number Q account
of_mine_weaker number account P Q weaker of =
    all_weaker (λ (share : Share Entry). share.number ≡ number → P share.mine)
    (λ (share : Share Entry). share.number ≡ number → Q share.mine)
    (λ share holds is. weaker share.mine (holds is)) account.shares of

-- the seat has made one entry more
pub of_mine_more : (key : Key) (entry : Entry) (number : ℕ) (old new : Account Entry)
    (P Q : List Entry → Type 0) → Enters key entry old new → seat_of entry ≡ number
    → ((mine : List Entry) → P mine → Q (entry ∷ mine)) → OfMine number P old
    → OfMine number Q new
of_mine_more key entry number old new P Q enters by_it more of =
    subst (λ (account : Account Entry). OfMine number Q account) (sym enters.adds.new_is)
    (each old.shares of)
  where
    tests_same : (a b c : ℕ) → a ≡ c → b ≡ c → eqb a b ≡ true
    tests_same a b c first second = grind (arith, nat_tests, first, second)

    one : (share : Share Entry) → (share.number ≡ number → P share.mine)
        → share.number ≡ number → Q (share_after seat_of entry share).mine
    one share holds is =
        subst (λ (b : Bool). Q (if b then entry ∷ share.mine else share.mine))
        (sym (tests_same (seat_of entry) share.number number by_it is))
        (more share.mine (holds is))

    each : (shares : List (Share Entry))
        → AllByRecursion (λ share. share.number ≡ number → P share.mine) shares
        → AllByRecursion (λ share. share.number ≡ number → Q share.mine)
        (map (share_after seat_of entry) shares)
    each [] of = tt
    each (share ∷ shares) of = (one share of.0, each shares of.1)

-- something holds of any entries
pub of_mine_any : (number : ℕ) (account : Account Entry) → OfMine number (λ mine. ⊤) account
of_mine_any number account = each account.shares
  where
    each : (shares : List (Share Entry))
        → AllByRecursion (λ (share : Share Entry). share.number ≡ number → ⊤) shares
    each [] = tt
    each (share ∷ shares) = (λ is. tt, each shares)

-- so of a seat of which nothing was known
pub of_mine_new : (key : Key) (entry : Entry) (number : ℕ) (old new : Account Entry)
    (Q : List Entry → Type 0) → Enters key entry old new → seat_of entry ≡ number
    → ((mine : List Entry) → Q (entry ∷ mine)) → OfMine number Q new
of_mine_new key entry number old new Q enters by_it holds =
    of_mine_more key entry number old new (λ mine. ⊤) Q enters by_it (λ mine none. holds mine)
    (of_mine_any number old)

-- what holds of a seat's own entries holds of the entries that the history has by it
pub of_history : (number : ℕ) (P : List Entry → Type 0) (history : List Entry)
    (shares : List (Share Entry)) → IsTrue (has_number shares number)
    → AllByRecursion (λ share. share.number ≡ number → P share.mine) shares
    → AllByRecursion (HasItsEntries seat_of history) shares → P (entries_by seat_of number history)
of_history number P history [] own of its = cc
of_history number P history (share ∷ shares) own of its =
    by (eqb share.number number) refl own (λ has. of_history number P history shares has of.1 its.1)
  where
    same_number : (a b : ℕ) → eqb a b ≡ true → a ≡ b
    same_number a b is = grind (arith, nat_tests, is)

    by : (b : Bool) → eqb share.number number ≡ b → (b || has_number shares number) ≡ true
        → (IsTrue (has_number shares number) → P (entries_by seat_of number history))
        → P (entries_by seat_of number history)
    by true is has others =
        let same = same_number share.number number is in
        subst (λ (n : ℕ). P (entries_by seat_of n history)) same
        (subst P (sym its.0.entries) (of.0 same))
    by false is has others = others has
