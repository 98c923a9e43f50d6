-- Entries in one piece with room on both sides: what they are once an entry is put in or taken out.
use Rattle.std.proofs.Common.{◌≡◌, ℕ, ◌+◌, ◌-◌, ◌<◌, ◌≤◌, List, length, take, drop, get_or}
use Rattle.std.proofs.Common.{sym, ap, ◌∙◌, arith, inl, inr, slice_set}
use Rattle.std.specs.List.{insert, remove, CopiedTo, SameBelow, SameFrom}
use Rattle.std.proofs.lemmas.Bool.{cases_lt, cases_eq}
use Rattle.std.proofs.lemmas.List.{same_lists, get_or-take, get_or-drop}
use Rattle.std.proofs.lemmas.List.{get_or-set_same, get_or-set_other, length-set}
use Rattle.std.proofs.lemmas.List.Edits.{length-insert, get_or-insert_below}
use Rattle.std.proofs.lemmas.List.Edits.{get_or-insert_at, get_or-insert_above}
use Rattle.std.proofs.lemmas.List.Edits.{length-remove, get_or-remove_below, get_or-remove_above}
use Rattle.std.proofs.lemmas.Grind.{common_steps}
use Rattle.tag_space.specs.Table.{TagEntry}

-- the entries of a run: so many, from a place on
abbrev pub run : List TagEntry → ℕ → ℕ → List TagEntry
run slots first count = take count (drop first slots)

-- an entry of a run, by its place among the slots
read : (slots : List TagEntry) (first count k : ℕ) (d : TagEntry) → k < count →
    get_or (run slots first count) k d ≡ get_or slots (first + k) d
read slots first count k d below = get_or-take count (drop first slots) k d below ∙
    get_or-drop first slots k d

run_length : (slots : List TagEntry) (first count : ℕ) → first + count ≤ length slots →
    length (run slots first count) ≡ count
run_length slots first count within = grind (arith, common_steps)

-- places that are equal hold one entry
same_at : (slots : List TagEntry) (i j : ℕ) (d : TagEntry) → i ≡ j →
    get_or slots i d ≡ get_or slots j d
same_at slots i j d same = ap (λ k. get_or slots k d) same

module _ (slots moved : List TagEntry) (first count at n : ℕ) (within : first + count ≤
    length slots) (as_many : length moved ≡ length slots) where
  -- an entry is put in where the others made room, in a run from this place on
  put : (from : ℕ) (entry : TagEntry) → from + count < length slots → at ≤ count →
      ((k : ℕ) (d : TagEntry) → k < at → get_or moved (from + k) d ≡ get_or slots (first + k) d) →
      ((k : ℕ) (d : TagEntry) → at < k → k ≤ count →
      get_or moved (from + k) d ≡ get_or slots (first + (k - 1)) d) →
      run (slice_set moved (from + at) entry) from (count + 1) ≡
      insert (run slots first count) at entry
  put from entry room in_range low high =
      let new : List TagEntry = slice_set moved (from + at) entry in
      let before = run_length slots first count within in
      let after : length (run new from (count + 1)) ≡ count + 1 =
      run_length new from (count + 1) (rw length-set (omega (arith, as_many))) in
      let old = run slots first count in
      let at_old : at ≤ length old = omega (arith, before) in
      same_lists (run new from (count + 1)) (insert old at entry)
      (omega (arith, before, after, length-insert old at entry at_old))
      (λ k d below. read new from (count + 1) k d (omega (arith, after)) ∙ elim (cases_lt k at) [
        | inl less ↦ get_or-set_other moved (from + at) (from + k) entry d (λ eq. omega arith)
            ∙ low k d less ∙ sym (read slots first count k d (omega arith))
            ∙ sym (get_or-insert_below old at entry d k less at_old)
        | inr not_less ↦ elim (cases_eq k at) [
          | inl same ↦ rw same (get_or-set_same moved (from + at) entry d (omega (arith, as_many))
              ∙ sym (get_or-insert_at old at entry d at_old))
          | inr differs ↦
              let more : k ≡ k - 1 + 1 = omega arith in
              get_or-set_other moved (from + at) (from + k) entry d (λ eq. omega arith)
              ∙ high k d (omega arith) (omega (arith, after))
              ∙ sym (read slots first count (k - 1) d (omega (arith, after)))
              ∙ sym (ap (λ j. get_or (insert old at entry) j d) more
              ∙ get_or-insert_above old at entry d (k - 1) (omega arith) at_old)
        ]
      ])

  -- an entry is taken out where the others closed up
  take_out : (from : ℕ) → from + (count - 1) ≤ length slots → at < count →
      ((k : ℕ) (d : TagEntry) → k < at → get_or moved (from + k) d ≡ get_or slots (first + k) d) →
      ((k : ℕ) (d : TagEntry) → at ≤ k → k + 1 < count →
      get_or moved (from + k) d ≡ get_or slots (first + (k + 1)) d) →
      run moved from (count - 1) ≡ remove (run slots first count) at
  take_out from room in_range low high =
      let before = run_length slots first count within in
      let after : length (run moved from (count - 1)) ≡ count - 1 =
      run_length moved from (count - 1) (omega (arith, as_many)) in
      let old = run slots first count in
      let at_old : at < length old = omega (arith, before) in
      same_lists (run moved from (count - 1)) (remove old at)
      (omega (arith, before, after, length-remove old at at_old))
      (λ k d below. read moved from (count - 1) k d (omega (arith, after)) ∙ elim (cases_lt k at) [
        | inl less ↦ low k d less ∙ sym (read slots first count k d (omega arith))
            ∙ sym (get_or-remove_below old at d k less at_old)
        | inr not_less ↦ high k d (omega arith) (omega (arith, after))
            ∙ sym (read slots first count (k + 1) d (omega (arith, after)))
            ∙ sym (get_or-remove_above old at d k (omega arith) at_old)
      ])

  -- an entry is put in, and those before it moved down
  pub put_down : (entry : TagEntry) → 0 < first → at ≤ count → n ≡ at →
      CopiedTo slots moved first (first - 1) n → SameFrom slots moved (first - 1 + n) →
      run (slice_set moved (first - 1 + at) entry) (first - 1) (count + 1) ≡
      insert (run slots first count) at entry
  put_down entry room in_range many copied same =
      put (first - 1) entry (omega arith) in_range
      (λ k d less. copied (first - 1 + k) d (omega arith) (omega arith)
      ∙ same_at slots _ _ d (omega arith))
      (λ k d more below. same (first - 1 + k) d (omega arith)
      ∙ same_at slots _ _ d (omega arith))

  -- an entry is put in, and those after its place moved up
  pub put_up : (entry : TagEntry) → first + count < length slots → at ≤ count → at + n ≡ count →
      CopiedTo slots moved (first + at) (first + at + 1) n →
      SameBelow slots moved (first + at + 1) → run (slice_set moved (first + at) entry) first
      (count + 1) ≡ insert (run slots first count) at entry
  put_up entry room in_range many copied same =
      put first entry room in_range (λ k d less. same (first + k) d (omega arith))
      (λ k d more below. copied (first + k) d (omega arith) (omega arith)
      ∙ same_at slots _ _ d (omega arith))

  -- an entry is taken out, and those before it moved up
  pub take_up : at < count → n ≡ at → CopiedTo slots moved first (first + 1) n →
      SameFrom slots moved (first + 1 + n) → run moved (first + 1) (count - 1) ≡
      remove (run slots first count) at
  take_up in_range many copied same =
      take_out (first + 1) (omega arith) in_range
      (λ k d less. copied (first + 1 + k) d (omega arith) (omega arith)
      ∙ same_at slots _ _ d (omega arith))
      (λ k d following below. same (first + 1 + k) d (omega arith)
      ∙ same_at slots _ _ d (omega arith))

  -- an entry is taken out, and those after it moved down
  pub take_down : at < count → at + 1 + n ≡ count →
      CopiedTo slots moved (first + at + 1) (first + at) n → SameBelow slots moved (first + at) →
      run moved first (count - 1) ≡ remove (run slots first count) at
  take_down in_range many copied same =
      take_out first (omega arith) in_range (λ k d less. same (first + k) d (omega arith))
      (λ k d following below. copied (first + k) d (omega arith) (omega arith)
      ∙ same_at slots _ _ d (omega arith))
