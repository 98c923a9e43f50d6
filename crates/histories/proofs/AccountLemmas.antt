-- Facts on accounts: their numbers, and the entries by them.
use Rattle.std.proofs.Common.{◌≡◌, ◌≢◌, ℕ, zero, suc, ◌+◌, ◌<◌, ◌≤◌, Bool, true, false, ◌||◌}
use Rattle.std.proofs.Common.{cond, eqb, List, [], ◌∷◌, ◌++◌, length, map, refl, sym, ap, subst}
use Rattle.std.proofs.Common.{◌∙◌, arith, append_assoc, eq-eqb, ne_eqb}
use Rattle.std.proofs.lemmas.Bool.Decides.{nat_tests}
use Rattle.std.specs.Prelude.{nat_lt}
use mathlib.Core.Logic.{dite}
use native.Mathlib.Decide.{ℕ_discrete}
use Rattle.std.specs.List.{list_any, AllByRecursion}
use Rattle.histories.specs.declared.account.Share.{Share}
use Rattle.histories.specs.History.{IsPast, entries_by}
use Rattle.histories.specs.Account.{AreDifferent, HasItsEntries, AreByOthers, numbers_in}
use Rattle.histories.specs.Account.{numbers_from}
use Rattle.histories.specs.Account.{has_number, share_after, longer_of, shorter_of, unused_share}
use Rattle.histories.proofs.ListLemmas.{all_append, all_weaker, all_both, all_map, past_refl}
use Rattle.histories.proofs.ListLemmas.{past_shorter}
use Rattle.histories.proofs.HistoryLemmas.{entries_by-append, entries_by-since}

-- ---- lists of numbers

-- what is true of each number in a list is true of one that is in it
pub listed_has : (P : ℕ → Type 0) (number : ℕ) (numbers : List ℕ) → AllByRecursion P numbers →
    list_any (λ other. eqb other number) numbers ≡ true → P number
listed_has P number [] all has = cc
listed_has P number (other ∷ numbers) all has =
    first (eqb other number) refl has (listed_has P number numbers all.1)
  where
    first : (b : Bool) → eqb other number ≡ b →
        (b || list_any (λ other. eqb other number) numbers) ≡ true →
        (list_any (λ other. eqb other number) numbers ≡ true → P number) → P number
    first true is has rest =
        let same : other ≡ number = grind (arith, nat_tests) in
        subst P same all.0
    first false is has rest = rest has

-- a number in the first or in the second list is in both together
pub listed_first : (number : ℕ) (xs ys : List ℕ) → list_any (λ other. eqb other number) xs ≡ true →
    list_any (λ other. eqb other number) (xs ++ ys) ≡ true
listed_first number [] ys has = cc
listed_first number (x ∷ xs) ys has = head (eqb x number) has (listed_first number xs ys)
  where
    head : (b : Bool) → (b || list_any (λ other. eqb other number) xs) ≡ true →
        (list_any (λ other. eqb other number) xs ≡ true →
        list_any (λ other. eqb other number) (xs ++ ys) ≡ true) →
        (b || list_any (λ other. eqb other number) (xs ++ ys)) ≡ true
    head true has rest = refl
    head false has rest = rest has

-- a number that stands in the second list stands in the two after one another
pub listed_second : (number : ℕ) (xs ys : List ℕ) →
    list_any (λ other. eqb other number) ys ≡ true →
    list_any (λ other. eqb other number) (xs ++ ys) ≡ true
listed_second number [] ys has = has
listed_second number (x ∷ xs) ys has = head (eqb x number) (listed_second number xs ys has)
  where
    head : (b : Bool) → list_any (λ other. eqb other number) (xs ++ ys) ≡ true →
        (b || list_any (λ other. eqb other number) (xs ++ ys)) ≡ true
    head true has = refl
    head false has = has

-- two lists of different numbers that share none are different numbers after one another
pub different_append : (xs ys : List ℕ) → AreDifferent xs → AreDifferent ys →
    AllByRecursion (λ x. AllByRecursion (λ y. x ≢ y) ys) xs → AreDifferent (xs ++ ys)
different_append [] ys one two apart = two
different_append (x ∷ xs) ys one two apart = (
  all_append (λ y. x ≢ y) xs ys one.0 apart.0,
  different_append xs ys one.1 two apart.1,
)

-- ---- numbers from one on

-- so many numbers from the first on are at least the first, and below the first and the count
pub all_from : (first count : ℕ) →
    AllByRecursion (λ n. (first ≤ n) × (n < first + count)) (numbers_from first count)
all_from first zero = tt
all_from first (suc count) = (
  (omega arith, omega arith),
  all_weaker (λ n. (first + 1 ≤ n) × (n < first + 1 + count))
      (λ n. (first ≤ n) × (n < first + suc count))
      (λ n within. let above = within.0 in let below = within.1 in (omega arith, omega arith))
      (numbers_from (first + 1) count) (all_from (first + 1) count),
)

-- the numbers from the first on are all different
pub different_from : (first count : ℕ) → AreDifferent (numbers_from first count)
different_from first zero = tt
different_from first (suc count) = (
  all_weaker (λ n. (first + 1 ≤ n) × (n < first + 1 + count)) (λ n. first ≢ n)
      (λ n within. let above = within.0 in λ same. absurd (omega arith))
      (numbers_from (first + 1) count) (all_from (first + 1) count),
  different_from (first + 1) count,
)

-- each number between is one of the numbers from the first on
pub listed_from : (first count number : ℕ) → first ≤ number → number < first + count →
    list_any (λ other. eqb other number) (numbers_from first count) ≡ true
listed_from first zero number above below = absurd (omega arith)
listed_from first (suc count) number above below =
    dite (ℕ_discrete first number) (λ same. rw (eq-eqb first number same) refl)
    (λ apart. rw (ne_eqb first number apart)
    (listed_from (first + 1) count number (omega arith) (omega arith)))

-- ---- numbers of a seat

-- shares made for these numbers have these numbers
pub numbers_in-unused : (Entry : Type 0) (numbers : List ℕ) →
    numbers_in (map (unused_share {Entry = Entry}) numbers) ≡ numbers
numbers_in-unused Entry [] = refl
numbers_in-unused Entry (number ∷ numbers) =
    ap (λ (ns : List ℕ). number ∷ ns) (numbers_in-unused Entry numbers)

module _ {Entry : Type 0} where
  -- what is true of each of a seat's numbers is true of one that it has
  pub number_has : (P : ℕ → Type 0) (number : ℕ) (shares : List (Share Entry)) →
      AllByRecursion (λ share. P share.number) shares → has_number shares number ≡ true → P number
  number_has P number [] all has = cc
  number_has P number (share ∷ shares) all has =
      first (eqb share.number number) refl has (number_has P number shares all.1)
    where
      first : (b : Bool) → eqb share.number number ≡ b → (b || has_number shares number) ≡ true →
          (has_number shares number ≡ true → P number) → P number
      first true is has rest =
          let same : share.number ≡ number = grind (arith, nat_tests) in
          subst P same all.0
      first false is has rest = rest has

  -- the numbers of two lists of shares stand after one another as the shares do
  pub numbers_in-append : (xs ys : List (Share Entry)) →
      numbers_in (xs ++ ys) ≡ numbers_in xs ++ numbers_in ys
  numbers_in-append [] ys = refl
  numbers_in-append (x ∷ xs) ys =
      ap (λ (numbers : List ℕ). x.number ∷ numbers) (numbers_in-append xs ys)

  -- a number is the first's or the second's
  pub has_number-append : (xs ys : List (Share Entry)) (number : ℕ) →
      has_number (xs ++ ys) number ≡ (has_number xs number || has_number ys number)
  has_number-append [] ys number = refl
  has_number-append (x ∷ xs) ys number =
      either_one (eqb x.number number) (has_number-append xs ys number)
    where
      either_one : (b : Bool) →
          has_number (xs ++ ys) number ≡ (has_number xs number || has_number ys number) →
          (b || has_number (xs ++ ys) number) ≡
          ((b || has_number xs number) || has_number ys number)
      either_one true same = refl
      either_one false same = same

  -- the numbers that are left where one is taken out
  pub without_apart : (front back : List (Share Entry)) (out : Share Entry) →
      AreDifferent (numbers_in (front ++ out ∷ back)) →
      AllByRecursion (λ share. share.number ≢ out.number) (front ++ back)
  without_apart [] back out different =
      others back different.0
    where
      others : (shares : List (Share Entry)) →
          AllByRecursion (λ number. out.number ≢ number) (numbers_in shares) →
          AllByRecursion (λ share. share.number ≢ out.number) shares
      others [] apart = tt
      others (share ∷ shares) apart = ((λ same. apart.0 (sym same)), others shares apart.1)
  without_apart (x ∷ front) back out different = (
    here front different.0,
    without_apart front back out different.1,
  )
    where
      here : (shares : List (Share Entry)) →
          AllByRecursion (λ number. x.number ≢ number) (numbers_in (shares ++ out ∷ back)) →
          x.number ≢ out.number
      here [] apart = apart.0
      here (share ∷ shares) apart = here shares apart.1

  -- numbers that all differ still do where one share is left out
  pub without_different : (front back : List (Share Entry)) (out : Share Entry) →
      AreDifferent (numbers_in (front ++ out ∷ back)) → AreDifferent (numbers_in (front ++ back))
  without_different [] back out different = different.1
  without_different (x ∷ front) back out different = (
    fewer front different.0,
    without_different front back out different.1,
  )
    where
      fewer : (shares : List (Share Entry)) →
          AllByRecursion (λ number. x.number ≢ number) (numbers_in (shares ++ out ∷ back)) →
          AllByRecursion (λ number. x.number ≢ number) (numbers_in (shares ++ back))
      fewer [] apart = apart.1
      fewer (share ∷ shares) apart = (apart.0, fewer shares apart.1)

  -- ---- the longer of two pasts

  -- of two pasts of a history the longer one
  pub record Compares (first second history : List Entry) : Type 0 where
    -- the first is a past of the longer
    pub first_past : IsPast first (longer_of first second)
    -- the second is a past of the longer
    pub second_past : IsPast second (longer_of first second)
    -- the longer is a past of the history
    pub longer : IsPast (longer_of first second) history
    -- and the shorter is
    pub shorter : IsPast (shorter_of first second) history

  -- two pasts of one history: each is a past of the longer, and both stay pasts of the history
  pub compares : (first second history : List Entry) → IsPast first history →
      IsPast second history → Compares first second history
  compares first second history one two = by_length (nat_lt (length first) (length second)) refl
    where
      by_length : (b : Bool) → nat_lt (length first) (length second) ≡ b →
          Compares first second history
      by_length true is =
          let less : length first < length second = grind (arith, nat_tests) in
          record {
            first_past = rw is (past_shorter first second history one two (omega arith));
            second_past = rw is (past_refl second);
            longer = rw is two;
            shorter = rw is one;
          }
      by_length false is =
          let least : length second ≤ length first = grind (arith, nat_tests) in
          record {
            first_past = rw is (past_refl first);
            second_past = rw is (past_shorter second first history two one least);
            longer = rw is one;
            shorter = rw is two;
          }

module _ {Entry : Type 0} (by : Entry → ℕ) where
  -- ---- an entry more

  -- an entry changes no number of the seat that makes it
  pub numbers_in-share_after : (entry : Entry) (shares : List (Share Entry)) →
      numbers_in (map (share_after by entry) shares) ≡ numbers_in shares
  numbers_in-share_after entry [] = refl
  numbers_in-share_after entry (share ∷ shares) =
      ap (λ (numbers : List ℕ). share.number ∷ numbers) (numbers_in-share_after entry shares)

  -- a seat has the same numbers before an entry and after it
  pub has_number-share_after : (entry : Entry) (shares : List (Share Entry)) (number : ℕ) →
      has_number (map (share_after by entry) shares) number ≡ has_number shares number
  has_number-share_after entry [] number = refl
  has_number-share_after entry (share ∷ shares) number =
      ap (λ b. eqb share.number number || b) (has_number-share_after entry shares number)

  -- a share gains what the history gains by its number
  gains : (past : List Entry) (entry : Entry) (share : Share Entry) → HasItsEntries by past share →
      HasItsEntries by (entry ∷ past) (share_after by entry share)
  gains past entry share has =
      record {
        entries = ap (λ (mine : List Entry). cond (eqb (by entry) share.number) (entry ∷ mine) mine)
            has.entries;
      }

  -- where each share has its entries of the past, each has them of the past with one entry more
  pub all_gain : (past : List Entry) (entry : Entry) (shares : List (Share Entry)) →
      AllByRecursion (HasItsEntries by past) shares →
      AllByRecursion (HasItsEntries by (entry ∷ past)) (map (share_after by entry) shares)
  all_gain past entry shares has =
      all_map (HasItsEntries by (entry ∷ past)) (share_after by entry) shares
      (all_weaker (HasItsEntries by past)
      (λ share. HasItsEntries by (entry ∷ past) (share_after by entry share))
      (gains past entry) shares has)

  -- ---- entries of others

  -- a number with no entry here has neither the first nor one of the others
  skips : (number : ℕ) (entry : Entry) (past : List Entry) →
      entries_by by number (entry ∷ past) ≡ [] →
      (eqb number (by entry) ≡ false) × (entries_by by number past ≡ [])
  skips number entry past nothing = first (eqb (by entry) number) refl nothing
    where
      first : (b : Bool) → eqb (by entry) number ≡ b → entries_by by number (entry ∷ past) ≡ [] →
          (eqb number (by entry) ≡ false) × (entries_by by number past ≡ [])
      first true is nothing =
          let some_entry : entry ∷ entries_by by number past ≡ [] = rw is at nothing in cc
      first false is nothing =
          let other : eqb number (by entry) ≡ false = grind (arith, nat_tests) in
          let rest : entries_by by number past ≡ [] = rw is at nothing in
          (other, rest)

  no_number : (entry : Entry) (past : List Entry) (shares : List (Share Entry)) →
      AllByRecursion (λ share. entries_by by share.number (entry ∷ past) ≡ []) shares →
      (has_number shares (by entry) ≡ false) ×
      AllByRecursion (λ share. entries_by by share.number past ≡ []) shares
  no_number entry past [] nothing = (refl, tt)
  no_number entry past (share ∷ shares) nothing =
      let here = skips share.number entry past nothing.0 in
      let there = no_number entry past shares nothing.1 in
      (rw here.0 there.0, (here.1, there.1))

  -- where no number has an entry, all are by others
  pub by_others : (shares : List (Share Entry)) (entries : List Entry) →
      AllByRecursion (λ share. entries_by by share.number entries ≡ []) shares →
      AreByOthers by shares entries
  by_others shares [] nothing = tt
  by_others shares (entry ∷ past) nothing =
      let here = no_number entry past shares nothing in
      (here.0, by_others shares past here.1)

  -- what came since a past with all entries of a seat has none of them
  pub none_since : (shares : List (Share Entry)) (since past : List Entry) →
      AllByRecursion (HasItsEntries by past) shares →
      AllByRecursion (HasItsEntries by (since ++ past)) shares →
      AllByRecursion (λ share. entries_by by share.number since ≡ []) shares
  none_since shares since past early late =
      all_both (HasItsEntries by past) (HasItsEntries by (since ++ past))
      (λ share. entries_by by share.number since ≡ [])
      (λ share has had. entries_by-since by share.number since past
      (had.entries ∙ sym has.entries)) shares early late

  -- between a past and the whole, both with all entries of a share, each past has them too
  has_between : (old middle new : List Entry) → IsPast old middle → IsPast middle new →
      (share : Share Entry) → HasItsEntries by old share → HasItsEntries by new share →
      HasItsEntries by middle share
  has_between old middle new first second share early late =
      let whole : new ≡ (second.since ++ first.since) ++ old =
      second.new_is
      ∙ ap (λ (xs : List Entry). second.since ++ xs) first.new_is
      ∙ sym (append_assoc second.since first.since old) in
      let none : entries_by by share.number (second.since ++ first.since) ≡ [] =
      entries_by-since by share.number (second.since ++ first.since) old
      (ap (entries_by by share.number) (sym whole) ∙ late.entries ∙ sym early.entries) in
      let here : entries_by by share.number first.since ≡ [] =
      after (entries_by by share.number second.since) (entries_by by share.number first.since)
      (sym (entries_by-append by share.number second.since first.since) ∙ none) in
      record {
        entries = ap (entries_by by share.number) first.new_is
            ∙ entries_by-append by share.number first.since old
            ∙ ap (λ (xs : List Entry). xs ++ entries_by by share.number old) here
            ∙ early.entries;
      }
    where
      after : (xs ys : List Entry) → xs ++ ys ≡ [] → ys ≡ []
      after [] ys e = e
      after (x ∷ xs) ys e = cc

  -- shares that have their entries of an older and of a newer history have them of one between
  pub all_between : (old middle new : List Entry) → IsPast old middle → IsPast middle new →
      (shares : List (Share Entry)) → AllByRecursion (HasItsEntries by old) shares →
      AllByRecursion (HasItsEntries by new) shares →
      AllByRecursion (HasItsEntries by middle) shares
  all_between old middle new first second shares early late =
      all_both (HasItsEntries by old) (HasItsEntries by new) (HasItsEntries by middle)
      (λ share. has_between old middle new first second share) shares early late
