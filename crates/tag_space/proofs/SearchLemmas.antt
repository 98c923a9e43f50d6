-- A step of a search leaves a quarter of the entries.
use Rattle.std.proofs.Common.{◌≡◌, ℕ, zero, suc, ◌+◌, ◌-◌, ◌*◌, ◌<◌, ◌≤◌, List, length}
use Rattle.std.proofs.Common.{ap, subst, arith}
use Rattle.tag_space.specs.Table.{TagEntry, tag_at, IsRising, IsNarrowed, AreSmaller}

module _ (table : List TagEntry) (rising : IsRising table) where
  -- an entry further on has no smaller tag
  rises_weakly : (i j : ℕ) → i ≤ j → j < length table → tag_at table i ≤ tag_at table j
  rises_weakly i j le in_range = grind (arith, rising i j, λ (same : i ≡ j). ap (tag_at table) same)

  module _ (tag from left quarter : ℕ) (before : IsNarrowed table tag from left) where
    -- the first entries have smaller tags if the last of them has, and so on after them
    narrowed_by : (gone : ℕ) → 4 * quarter ≤ left + 1 → gone ≤ 3 * quarter
        → (0 < gone → tag_at table (from + gone - 1) < tag)
        → (gone < 3 * quarter → tag ≤ tag_at table (from + gone + quarter - 1))
        → IsNarrowed table tag (from + gone) (left - 3 * quarter)
    narrowed_by gone quarters most last next = record {
      in_range = omega (arith, before.in_range);
      smaller_before = λ j below.
          let up_to = rises_weakly j (from + gone - 1) in
          grind (arith, before.in_range, before.smaller_before j, last, up_to);
      none_after = λ j after in_range.
          let from_next = rises_weakly (from + gone + quarter - 1) j in
          grind (arith, before.in_range, before.none_after j, next, from_next);
    }

    -- a step of a search leaves a quarter
    pub narrowed : (count : ℕ) → 4 * quarter ≤ left + 1 → AreSmaller table tag from quarter count
        → IsNarrowed table tag (from + count * quarter) (left - 3 * quarter)
    narrowed zero quarters ends =
        narrowed_by (0 * quarter) quarters (omega arith) (λ some. absurd (omega (arith, some)))
        (λ more. subst (λ i. tag ≤ tag_at table i) (omega arith) (ends.next (omega arith)))
    narrowed (suc zero) quarters ends =
        narrowed_by (1 * quarter) quarters (omega arith) (λ some. ends.last (omega arith))
        (λ more. subst (λ i. tag ≤ tag_at table i) (omega arith) (ends.next (omega arith)))
    narrowed (suc (suc zero)) quarters ends =
        narrowed_by (2 * quarter) quarters (omega arith) (λ some. ends.last (omega arith))
        (λ more. subst (λ i. tag ≤ tag_at table i) (omega arith) (ends.next (omega arith)))
    narrowed (suc (suc (suc zero))) quarters ends =
        narrowed_by (3 * quarter) quarters (omega arith) (λ some. ends.last (omega arith))
        (λ more. absurd (omega (arith, more)))
    narrowed (suc (suc (suc (suc count)))) quarters ends = absurd (omega (arith, ends.most))
