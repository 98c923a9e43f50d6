-- Facts on histories: the entries by a number, and what is legal.
use Rattle.std.proofs.Common.{◌≡◌, ◌≢◌, ℕ, ◌<◌, ◌≤◌, eqb, List, [], ◌∷◌, ◌++◌, refl, sym, ap}
use Rattle.std.proofs.Common.{subst, ◌∙◌, arith, ne_eqb}
use Rattle.std.proofs.lemmas.List.Elements.{filter-append}
use Rattle.histories.specs.History.{Meaning, IsPast, entries_by, AreByBelow, state_after, IsLegal}
use Rattle.histories.specs.History.{IsHistory}
use Rattle.histories.proofs.ListLemmas.{all_weaker, past_all, nothing_before}

module _ {Entry : Type 0} (by : Entry → ℕ) where
  -- the entries by a number in two parts of a history are those of each, in the same order
  pub entries_by-append : (number : ℕ) (xs ys : List Entry) →
      entries_by by number (xs ++ ys) ≡ entries_by by number xs ++ entries_by by number ys
  entries_by-append number xs ys = filter-append (λ (entry : Entry). eqb (by entry) number) xs ys

  -- an entry by another number is none of this one's
  pub entries_by-other : (number : ℕ) (entry : Entry) (past : List Entry) → by entry ≢ number →
      entries_by by number (entry ∷ past) ≡ entries_by by number past
  entries_by-other number entry past other = rw (ne_eqb (by entry) number other) refl

  -- a number that was not given has no entries
  pub entries_by-unused : (bound number : ℕ) (entries : List Entry) → AreByBelow by bound entries →
      bound ≤ number → entries_by by number entries ≡ []
  entries_by-unused bound number [] below high = refl
  entries_by-unused bound number (entry ∷ past) below high =
      let small = below.0 in
      let other : by entry ≢ number = λ same. absurd (omega arith) in
      entries_by-other number entry past other ∙ entries_by-unused bound number past below.1 high

  -- a past that has all the entries of the whole: what came since has none
  pub entries_by-since : (number : ℕ) (since past : List Entry) →
      entries_by by number (since ++ past) ≡ entries_by by number past →
      entries_by by number since ≡ []
  entries_by-since number since past same =
      nothing_before (entries_by by number since) (entries_by by number past)
      (sym (entries_by-append number since past) ∙ same)

  -- entries by numbers below a bound are by numbers below any larger one
  pub by_below_weaker : (small large : ℕ) (entries : List Entry) → small ≤ large →
      AreByBelow by small entries → AreByBelow by large entries
  by_below_weaker small large entries le below =
      all_weaker (λ (entry : Entry). by entry < small) (λ (entry : Entry). by entry < large)
      (λ entry h. omega arith) entries below

module _ {State Entry : Type 0} (meaning : Meaning State Entry) (opening : State) where
  -- the past of a legal history is legal
  pub legal_past : (since past : List Entry) → IsLegal meaning opening (since ++ past) →
      IsLegal meaning opening past
  legal_past [] past legal = legal
  legal_past (entry ∷ since) past legal = legal_past since past legal.1

  -- each past of a legal history is legal
  pub past_legal : (old new : List Entry) → IsPast old new → IsLegal meaning opening new →
      IsLegal meaning opening old
  past_legal old new past legal =
      legal_past past.since old (subst (IsLegal meaning opening) past.new_is legal)

  -- each past of a history of seats below the limit is one too
  pub past_history : (limit : ℕ) (old new : List Entry) → IsPast old new →
      IsHistory meaning opening limit new → IsHistory meaning opening limit old
  past_history limit old new past history =
      record {
        legal = past_legal old new past history.legal;
        within = past_all (λ (entry : Entry). meaning.by entry < limit) old new past history.within;
      }

module _ {State Entry : Type 0} (meaning : Meaning State Entry) where
  -- a history goes on from the state that its past leaves
  pub state_after-append : (opening : State) (since past : List Entry) →
      state_after meaning opening (since ++ past) ≡
      state_after meaning (state_after meaning opening past) since
  state_after-append opening [] past = refl
  state_after-append opening (entry ∷ since) past =
      ap (λ (state : State). meaning.after state entry) (state_after-append opening since past)

  -- entries that are legal from the state that a past leaves make a legal history with that past
  pub legal_append : (opening : State) (since past : List Entry) → IsLegal meaning opening past →
      IsLegal meaning (state_after meaning opening past) since →
      IsLegal meaning opening (since ++ past)
  legal_append opening [] past legal more = legal
  legal_append opening (entry ∷ since) past legal more = (
    subst (λ (state : State). meaning.IsRight state entry)
        (sym (state_after-append opening since past)) more.0,
    legal_append opening since past legal more.1,
  )
