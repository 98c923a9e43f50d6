-- In each history of a tag space who waits is a member, and its meeting can be counted.
use Rattle.std.proofs.Common.{◌≡◌, ◌≢◌, ℕ, ◌+◌, ◌<◌, ◌≤◌, eqb, cond, List, ◌∷◌, []}
use Rattle.std.proofs.Common.{refl, sym, ◌∙◌, subst, arith, inl, inr}
use Rattle.std.proofs.lemmas.Bool.{cases_eq}
use Rattle.std.proofs.lemmas.List.Sums.{sum_by-cons}
use Rattle.histories.specs.History.{IsLegal}
use Rattle.tag_space.specs.declared.limits.TheConstants.{LAST_MEETING}
use Rattle.tag_space.specs.Rendezvous.{Entry, Space, Offer, Pair, stage_of, pairs_of, count_of}
use Rattle.tag_space.specs.Rendezvous.{rendezvous}
use Rattle.tag_space.specs.Rendezvous.Stage.{Waits}
use Rattle.tag_space.proofs.PromiseLemmas.{Change, change_of, IsSpace, is_space}
use Rattle.tag_space.proofs.WaitLemmas.{yes, no}

-- with one pair more the member that waited in it was met once more
module _ (space : Space) (past new : List Entry) (pair : Pair)
    (pairs : pairs_of new ≡ pair ∷ pairs_of past) where
  counted : (member : ℕ) → count_of space new member
      ≡ cond {A = ℕ} (eqb pair.waiting.member member) 1 0 + count_of space past member
  counted member =
      let more = sum_by-cons (λ (p : Pair). cond {A = ℕ} (eqb p.waiting.member member) 1 0) pair
      (pairs_of past) in
      rw pairs (omega (arith, more))

  -- it was
  pub counted_here : (member : ℕ) → pair.waiting.member ≡ member
      → count_of space new member ≡ count_of space past member + 1
  counted_here member same =
      let one : cond {A = ℕ} (eqb pair.waiting.member member) 1 0 ≡ 1 =
      rw same (rw (yes member) refl) in
      omega (arith, one, counted member)

  -- and no other was
  pub counted_elsewhere : (member : ℕ) → pair.waiting.member ≢ member
      → count_of space new member ≡ count_of space past member
  counted_elsewhere member differs = counted member ∙ rw (no _ member differs) (omega arith)

-- no count is above the last; who waits is a member, and one more meeting of it can be counted
pub record FitsCounts (space : Space) (past : List Entry) : Type 0 where
  -- the count of no member is above the last one
  pub within : (member : ℕ) → count_of space past member ≤ LAST_MEETING
  -- who waits is a member, and one more meeting of it can be counted
  pub waiting : (member : ℕ) (offer : Offer) → stage_of past member ≡ Waits offer
      → (member < space.members) × (count_of space past member < LAST_MEETING)

fits_keeps : (space : Space) (past : List Entry) (entry : Entry) → IsSpace past
    → Change space past entry → FitsCounts space past → FitsCounts space (entry ∷ past)
fits_keeps space past entry is change fits =
    record {
      within = λ member. elim change.pairs [
        | inl same ↦ rw same (fits.within member)
        | inr (other, pair, meets) ↦ elim (cases_eq pair.waiting.member member) [
          | inl here ↦
              let me : other ≡ member =
              sym (is.waits other pair.waiting meets.waiting).mine ∙ here in
              let less = (fits.waiting member pair.waiting
              (subst (λ m. stage_of past m ≡ Waits pair.waiting) me meets.waiting)).1 in
              omega (
                arith,
                less,
                counted_here space past (entry ∷ past) pair meets.pairs member
                    here,
              )
          | inr differs ↦
              rw (counted_elsewhere space past (entry ∷ past) pair meets.pairs member differs)
              (fits.within member)
        ]
      ];
      waiting = λ member offer waits. elim (change.turn member (Waits offer) waits) [
        | inl before ↦
            let old = fits.waiting member offer before in (
              old.0,
              elim change.pairs [
                | inl same ↦ rw same old.1
                | inr (other, pair, meets) ↦
                    rw (counted_elsewhere space past (entry ∷ past) pair meets.pairs member
                    (λ same. let me : other ≡ member =
                    sym (is.waits other pair.waiting meets.waiting).mine ∙ same in
                    let both = sym meets.here ∙
                    subst (λ m. stage_of (entry ∷ past) m ≡ Waits offer) (sym me) waits in
                    cc)) old.1
              ],
            )
        | inr begins ↦
            (begins.exists, rw begins.pairs (omega (arith, fits.within member, begins.counts)))
      ];
    }

-- every history whose counts begin below the last one
pub fits_counts : (space : Space) → space.count ≤ LAST_MEETING → (history : List Entry)
    → IsLegal (rendezvous space) [] history → FitsCounts space history
fits_counts space begins [] legal =
    record { within = λ member. omega (arith, begins); waiting = λ member offer waits. cc }
fits_counts space begins (entry ∷ past) legal =
    fits_keeps space past entry (is_space space past legal.1) (change_of space past entry legal)
    (fits_counts space begins past legal.1)
