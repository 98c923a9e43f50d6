-- The table of those who wait: it finds whom the definition finds, and it stays the table when a
-- member begins to wait, is met or leaves.
use Rattle.std.proofs.Common.{◌≡◌, ℕ, ◌+◌, ◌<◌, ◌≢◌, true, false, List, length}
use Rattle.std.proofs.Common.{get_or, cond, Some, None, refl, sym, ap, ◌∙◌, subst}
use Rattle.std.proofs.Common.{arith, inl, inr}
use Rattle.std.specs.List.{insert, remove, position_or_len}
use Rattle.std.proofs.lemmas.Bool.{cases_lt, cases_eq, false_from_ne_true, false≢true}
use Rattle.std.proofs.lemmas.Bool.Decides.{nat_tests}
use Rattle.std.proofs.lemmas.List.{get_or-set_same, get_or-set_other, get_or_past}
use Rattle.std.proofs.lemmas.List.Edits.{length-insert}
use Rattle.std.proofs.lemmas.List.Sums.{position_or_len_is, sum_by-set}
use Rattle.sync_base.specs.declared.ids.Tag.{Tag}
use Rattle.tag_space.specs.declared.place.CallState.{CallState}
use Rattle.tag_space.specs.declared.place.CallState.TheVariants.{Idle, Waiting, Met}
use Rattle.tag_space.specs.declared.place.Place.{Place}
use Rattle.tag_space.specs.GroupObject.{place_of, fresh_place, put, waits_with, waiter_of}
use Rattle.tag_space.specs.Table.{TagEntry, tag_at, member_at, IsRising, IsAt, IsGapFor}
use Rattle.tag_space.specs.Table.{waits_at, is_waiting, waiters, ListsWaiting}
use Rattle.tag_space.proofs.EntryLemmas.{entry_at, Stands, one_place}
use Rattle.tag_space.proofs.EntryLemmas.{from_without, into_without, rising_without}
use Rattle.tag_space.proofs.EntryLemmas.{here_with, from_with, into_with, rising_with}

-- who waits with two tags waits with one
one_tag : (state : CallState) (tag other : ℕ) → waits_with tag state ≡ true →
    waits_with other state ≡ true → tag ≡ other
one_tag Idle tag other waits also = absurd (false≢true waits)
one_tag (Waiting key value) tag other waits also = grind (arith, nat_tests)
one_tag (Met value) tag other waits also = absurd (false≢true waits)

-- who waits with a tag waits
pub waits_with_some : (state : CallState) (tag : ℕ) → waits_with tag state ≡ true →
    is_waiting state ≡ true
waits_with_some Idle tag waits = absurd (false≢true waits)
waits_with_some (Waiting key value) tag waits = refl
waits_with_some (Met value) tag waits = absurd (false≢true waits)

-- who waits is a member
pub waiter_in_range : (places : List Place) (tag member : ℕ) → waits_at places tag member ≡ true →
    member < length places
waiter_in_range places tag member waits = elim (cases_lt member (length places)) [
  | inl below ↦ below
  | inr past ↦
      let nobody : waits_at places tag member ≡ false =
      ap (λ (place : Place). waits_with tag place.state)
      (get_or_past places member (fresh_place 0) past) in
      absurd (false≢true (sym nobody ∙ waits))
]

module _ (places : List Place) (member : ℕ) (state : CallState) (count : ℕ)
    (below : member < length places) where
  -- after a change a member stands as it was put
  waits_at_put : (tag : ℕ) →
      waits_at (put places member state count) tag member ≡ waits_with tag state
  waits_at_put tag = ap (λ (place : Place). waits_with tag place.state)
      (get_or-set_same places member _ (fresh_place 0) below)

  -- and the others as before
  waits_at_others : (tag other : ℕ) → other ≢ member →
      waits_at (put places member state count) tag other ≡ waits_at places tag other
  waits_at_others tag other differs = ap (λ (place : Place). waits_with tag place.state)
      (get_or-set_other places member other _ (fresh_place 0) differs)

  -- how many wait then
  pub waiters_put : waiters (put places member state count) +
      cond (is_waiting (place_of places member).state) 1 0 ≡ waiters places +
      cond (is_waiting state) 1 0
  waiters_put = sum_by-set (λ (place : Place). cond (is_waiting place.state) 1 0) places
      member _ (fresh_place 0) below

module _ (table : List TagEntry) (places : List Place) (is : ListsWaiting table places) where
  module _ (tag i : ℕ) (at : IsAt table tag i) where
    -- the member in an entry waits with its tag
    pub waits_there : waits_at places tag (member_at table i) ≡ true
    waits_there =
        subst (λ t. waits_at places t (member_at table i) ≡ true) at.has_tag
        (is.waits i at.in_range)

    -- and nobody else does
    pub alone_there : (member : ℕ) → waits_at places tag member ≡ true → member ≡ member_at table i
    alone_there member waits =
        let found = is.has_entry tag member waits in
        sym found.3 ∙ ap (member_at table) (one_place table is.rising found.0 i found.1 at.in_range
        (found.2 ∙ sym at.has_tag))

    -- so it is the one that is found
    pub finds_waiter : waiter_of places tag ≡ Some (member_at table i)
    finds_waiter =
        let below = waiter_in_range places tag (member_at table i) waits_there in
        let none : (k : ℕ) → k < member_at table i → waits_with tag
        (get_or places k (fresh_place 0)).state ≡ false =
        λ k before. false_from_ne_true _ (λ also. let same = alone_there k also in
        omega (arith, before, same)) in
        let first : position_or_len (λ (place : Place). waits_with tag place.state) places ≡
        member_at table i = position_or_len_is (λ (place : Place). waits_with tag place.state)
        places (member_at table i) (fresh_place 0) (omega arith) none (λ _. waits_there) in
        grind (arith, nat_tests)

  module _ (tag i : ℕ) (gap : IsGapFor table tag i) where
    -- nobody waits with a tag that has a gap
    pub nobody_there : (member : ℕ) → waits_at places tag member ≡ true → ⊥
    nobody_there member waits =
        let found = is.has_entry tag member waits in
        grind (
          arith,
          gap.smaller_before found.0,
          gap.greater_after found.0,
          found.1,
          found.2,
        )

    -- so nobody is found
    pub finds_nobody : waiter_of places tag ≡ None
    finds_nobody =
        let past : position_or_len (λ (place : Place). waits_with tag place.state) places ≡
        length places = position_or_len_is (λ (place : Place). waits_with tag place.state)
        places (length places) (fresh_place 0) (omega arith)
        (λ k below. false_from_ne_true _ (λ here. nobody_there k here))
        (λ below. absurd (omega arith)) in
        grind (arith, nat_tests)

  module _ (member : ℕ) (state : CallState) (count : ℕ) (below : member < length places) where
    -- the entries of all but this member, where it doesn't wait afterwards
    lists_others : is_waiting state ≡ false → (new : List TagEntry) → IsRising new
        → ((j : ℕ) → j < length new → (k : ℕ) × (k < length table) × (member_at table k ≢ member)
        × (entry_at new j ≡ entry_at table k))
        → ((k : ℕ) → k < length table → member_at table k ≢ member → Stands (entry_at table k) new)
        → ListsWaiting new (put places member state count)
    lists_others over new rising from into = record {
      rising = rising;
      waits = λ j less.
          let old = from j less in
          subst (λ (e : TagEntry). waits_at (put places member state count) e.0.0 e.1 ≡ true)
          (sym old.3)
          (waits_at_others places member state count below (tag_at table old.0)
          (member_at table old.0) old.2 ∙ is.waits old.0 old.1);
      has_entry = λ tag other waits.
          let another : other ≢ member = λ same. false≢true (sym over ∙ waits_with_some state tag
          (sym (waits_at_put places member state count below tag) ∙ subst (λ m. waits_at
          (put places member state count) tag m ≡ true) same waits)) in
          let found = is.has_entry tag other
          (sym (waits_at_others places member state count below tag other another) ∙ waits) in
          let now = into found.0 found.1 (λ same. another (sym found.3 ∙ same)) in (
            now.0,
            now.1,
            ap (λ (e : TagEntry). e.0.0) now.2 ∙ found.2,
            ap (λ (e : TagEntry). e.1) now.2 ∙ found.3,
          );
    }

    -- a member that waits no longer goes out with its entry
    pub lists_without : is_waiting state ≡ false → (tag i : ℕ) → IsAt table tag i
        → member ≡ member_at table i
        → ListsWaiting (remove table i) (put places member state count)
    lists_without over tag i at mine =
        let elsewhere : (k : ℕ) → k < length table → k ≢ i → member_at table k ≢ member =
        λ k less differs same. let there = is.waits k less in
        let also : waits_at places tag (member_at table k) ≡ true =
        subst (λ m. waits_at places tag m ≡ true) (sym (same ∙ mine)) (waits_there tag i at) in
        differs (one_place table is.rising k i less at.in_range
        (one_tag (place_of places (member_at table k)).state (tag_at table k) tag there also
        ∙ sym at.has_tag)) in
        lists_others over (remove table i) (rising_without table i at.in_range is.rising)
        (λ j less. let old = from_without table i at.in_range j less in
        (old.0, old.1, elsewhere old.0 old.1 old.2, old.3))
        (λ k less another. into_without table i at.in_range k less
        (λ same. another (ap (member_at table) same ∙ sym mine)))

    module _ (idle : is_waiting (place_of places member).state ≡ false) where
      -- a member that doesn't wait has no entry
      other_waits : (tag other : ℕ) → waits_at places tag other ≡ true → other ≢ member
      other_waits tag other waits same = false≢true
          (sym idle ∙ waits_with_some (place_of places member).state tag
          (subst (λ m. waits_at places tag m ≡ true) same waits))

      -- so the list stays where it doesn't wait afterwards
      pub lists_still : is_waiting state ≡ false
          → ListsWaiting table (put places member state count)
      lists_still over =
          lists_others over table is.rising
          (λ j less. (j, less, other_waits _ _ (is.waits j less), refl))
          (λ k less another. (k, less, refl))

  -- a member that begins to wait gets an entry
  pub lists_with : (member : ℕ) (key : Tag) (value count i : ℕ) → member < length places
      → is_waiting (place_of places member).state ≡ false → IsGapFor table key.0 i
      → ListsWaiting (insert table i (key, member)) (put places member (Waiting key value) count)
  lists_with member key value count i below idle gap =
      record {
        rising = rising_with table entry i gap is.rising;
        waits = λ j less. elim (from_with table entry i gap j less) [
          | inl mine ↦ subst (λ (e : TagEntry). waits_at new e.0.0 e.1 ≡ true) (sym mine) here
          | inr old ↦ subst (λ (e : TagEntry). waits_at new e.0.0 e.1 ≡ true) (sym old.2)
              (others _ _ (other_waits member state count below idle _ _ (is.waits old.0 old.1))
              ∙ is.waits old.0 old.1)
        ];
        has_entry = λ tag other waits. elim (cases_eq other member) [
          | inl me ↦
              let mine = one_tag state tag key.0 (sym (waits_at_put places member state count below
              tag) ∙ subst (λ m. waits_at new tag m ≡ true) me waits)
              (sym (waits_at_put places member state count below key.0) ∙ here) in (
                i,
                omega (arith, length-insert table i entry gap.in_range, gap.in_range),
                ap (λ (e : TagEntry). e.0.0) (here_with table entry i gap) ∙ sym mine,
                ap (λ (e : TagEntry). e.1) (here_with table entry i gap) ∙ sym me,
              )
          | inr another ↦
              let found = is.has_entry tag other (sym (others tag other another) ∙ waits) in
              let now = into_with table entry i gap found.0 found.1 in (
                now.0,
                now.1,
                ap (λ (e : TagEntry). e.0.0) now.2 ∙ found.2,
                ap (λ (e : TagEntry). e.1) now.2 ∙ found.3,
              )
        ];
      }
    where
      entry : TagEntry
      entry = (key, member)

      state : CallState
      state = Waiting key value

      new : List Place
      new = put places member state count

      here : waits_at new key.0 member ≡ true
      here = waits_at_put places member state count below key.0 ∙ grind (arith, nat_tests)

      others : (tag other : ℕ) → other ≢ member → waits_at new tag other ≡ waits_at places tag other
      others tag other differs = waits_at_others places member state count below tag other differs
