-- Entries in the order of their tags: what an edit leaves of them.
use Rattle.std.proofs.Common.{◌≡◌, ℕ, ◌+◌, ◌-◌, ◌<◌, ◌≤◌, ◌≢◌, ◌⊎◌, List, length, get_or}
use Rattle.std.proofs.Common.{ap, ◌∙◌, arith, inl, inr}
use Rattle.std.specs.List.{insert, remove}
use Rattle.std.proofs.lemmas.Bool.{cases_lt, cases_eq}
use Rattle.std.proofs.lemmas.List.Edits.{length-insert, get_or-insert_below}
use Rattle.std.proofs.lemmas.List.Edits.{get_or-insert_at, get_or-insert_above}
use Rattle.std.proofs.lemmas.List.Edits.{length-remove, get_or-remove_below, get_or-remove_above}
use Rattle.tag_space.specs.Table.{TagEntry, no_entry, tag_at, IsRising, IsGapFor}

-- the entry at this place
abbrev pub entry_at : List TagEntry → ℕ → TagEntry
entry_at table i = get_or table i no_entry

-- an entry of the one list stands in the other too
abbrev pub Stands : TagEntry → List TagEntry → Type 0
Stands entry table = (i : ℕ) × (i < length table) × (entry_at table i ≡ entry)

-- in a rising table a tag stands once
pub one_place : (table : List TagEntry) → IsRising table → (i j : ℕ) → i < length table
    → j < length table → tag_at table i ≡ tag_at table j → i ≡ j
one_place table rising i j below less same = grind (arith, rising i j, rising j i)

module _ (table : List TagEntry) (i : ℕ) (in_range : i < length table) where
  low_without : (j : ℕ) → j < i → entry_at (remove table i) j ≡ entry_at table j
  low_without j low = get_or-remove_below table i no_entry j low in_range

  high_without : (j : ℕ) → i ≤ j → entry_at (remove table i) j ≡ entry_at table (j + 1)
  high_without j high = get_or-remove_above table i no_entry j high in_range

  -- once an entry is out each that is left stood elsewhere
  pub from_without : (j : ℕ) → j < length (remove table i)
      → (k : ℕ) × (k < length table) × (k ≢ i) × (entry_at (remove table i) j ≡ entry_at table k)
  from_without j below =
      let fewer = length-remove table i in_range in
      elim (cases_lt j i) [
        | inl low ↦ (j, omega (arith, low), (λ same. omega (arith, low, same)), low_without j low)
        | inr high ↦ (
          j + 1,
          omega (arith, fewer, below),
          (λ same. omega (arith, high, same)),
          high_without j high,
        )
      ]

  -- and each that stood elsewhere is left
  pub into_without : (k : ℕ) → k < length table → k ≢ i → Stands (entry_at table k) (remove table i)
  into_without k below differs =
      let fewer = length-remove table i in_range in
      elim (cases_lt k i) [
        | inl low ↦ (k, omega (arith, fewer, low, in_range), low_without k low)
        | inr high ↦
            let one : k - 1 + 1 ≡ k = omega (arith, high, differs) in (
              k - 1,
              omega (arith, fewer, below, high, differs),
              high_without (k - 1) (omega (arith, high, differs)) ∙ ap (entry_at table) one,
            )
      ]

  -- the order stays when an entry goes out
  pub rising_without : IsRising table → IsRising (remove table i)
  rising_without rising j k before below =
      let fewer = length-remove table i in_range in
      let tag_of = λ (entry : TagEntry). entry.0.0 in
      grind (
        arith,
        λ (l : j < i). ap tag_of (low_without j l),
        λ (l : k < i). ap tag_of (low_without k l),
        λ (h : i ≤ j). ap tag_of (high_without j h),
        λ (h : i ≤ k). ap tag_of (high_without k h),
        rising j k,
        rising j (k + 1),
        rising (j + 1) (k + 1),
      )

module _ (table : List TagEntry) (entry : TagEntry) (i : ℕ) (gap : IsGapFor table entry.0.0 i) where
  low_with : (j : ℕ) → j < i → entry_at (insert table i entry) j ≡ entry_at table j
  low_with j low = get_or-insert_below table i entry no_entry j low gap.in_range

  -- an entry that goes in stands at its place
  pub here_with : entry_at (insert table i entry) i ≡ entry
  here_with = get_or-insert_at table i entry no_entry gap.in_range

  high_with : (j : ℕ) → i ≤ j → entry_at (insert table i entry) (j + 1) ≡ entry_at table j
  high_with j high = get_or-insert_above table i entry no_entry j high gap.in_range

  -- each other stood there before
  pub from_with : (j : ℕ) → j < length (insert table i entry)
      → (entry_at (insert table i entry) j ≡ entry)
      ⊎ ((k : ℕ) × (k < length table) × (entry_at (insert table i entry) j ≡ entry_at table k))
  from_with j below =
      let more = length-insert table i entry gap.in_range in
      elim (cases_lt j i) [
        | inl low ↦ inr (j, omega (arith, low, gap.in_range), low_with j low)
        | inr high ↦ elim (cases_eq j i) [
          | inl same ↦ inl (ap (entry_at (insert table i entry)) same ∙ here_with)
          | inr differs ↦
              let one : j ≡ j - 1 + 1 = omega (arith, high, differs) in
              inr (
                j - 1,
                omega (arith, more, below, high, differs),
                ap (entry_at (insert table i entry)) one
                    ∙ high_with (j - 1) (omega (arith, high, differs)),
              )
        ]
      ]

  -- and all that stood there stand there still
  pub into_with : (k : ℕ) → k < length table → Stands (entry_at table k) (insert table i entry)
  into_with k below =
      let more = length-insert table i entry gap.in_range in
      elim (cases_lt k i) [
        | inl low ↦ (k, omega (arith, more, below), low_with k low)
        | inr high ↦ (k + 1, omega (arith, more, below), high_with k high)
      ]

  -- the order stays when an entry goes into its gap
  pub rising_with : IsRising table → IsRising (insert table i entry)
  rising_with rising j k before below =
      let more = length-insert table i entry gap.in_range in
      let tag_of = λ (its : TagEntry). its.0.0 in
      let here : (j : ℕ) → j ≡ i → tag_at (insert table i entry) j ≡ entry.0.0 =
      λ j at. rw at (ap tag_of here_with) in
      let high : (j : ℕ) → i < j → tag_at (insert table i entry) j ≡ tag_at table (j - 1) =
      λ j at. let one : j ≡ j - 1 + 1 = omega (arith, at) in
      ap (tag_at (insert table i entry)) one ∙ ap tag_of (high_with (j - 1) (omega (arith, at))) in
      grind (
        arith,
        λ (l : j < i). ap tag_of (low_with j l),
        here j,
        high j,
        λ (l : k < i). ap tag_of (low_with k l),
        here k,
        high k,
        rising j k,
        rising j (k - 1),
        rising (j - 1) (k - 1),
        gap.smaller_before j,
        gap.greater_after (k - 1),
      )
