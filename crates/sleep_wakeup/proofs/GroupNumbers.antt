-- The numbers of groups stay such, and are no more than the pids; the groups are disjoint.
use Rattle.std.proofs.Common.{◌≡◌, ◌≢◌, ◌⊎◌, inl, inr, ℕ, zero, suc, ◌+◌, ◌<◌, ◌≤◌, ◌==◌}
use Rattle.std.proofs.Common.{Bool, true, false, if◌then◌else◌, List, [], ◌∷◌, ◌++◌, length}
use Rattle.std.proofs.Common.{get_or, set, nat_lt, refl, sym, ap, ◌∙◌, subst, arith}
use Rattle.std.proofs.lemmas.Bool.Decides.{nat_tests}
use Rattle.std.proofs.lemmas.List.{get_or-set_same, get_or-set_other}
use Rattle.std.proofs.Math.ListN.{length-set}
use Rattle.sleep_wakeup.specs.Groups.{members_from, groups_by, AreNumbers}
use Rattle.sleep_wakeup.specs.Groups.{times_in, times, RisesFrom, EachRises, AreGroups}
use Rattle.sleep_wakeup.proofs.GroupMembers.{same_or_not, is_true, is_false, member_first}
use Rattle.sleep_wakeup.proofs.GroupMembers.{no_member_first, other_number, alone, joined}
use Rattle.sleep_wakeup.proofs.GroupMembers.{loses_one}
use Rattle.sleep_wakeup.proofs.GroupLemmas.{fresh}

-- ---- there are no more groups than pids

-- how many pids are in the groups with the numbers from 1 to this one
abbrev total : ℕ → ℕ → List ℕ → ℕ
total start zero numbers = 0
total start (suc count) numbers =
    length (members_from start (suc count) numbers) + total start count numbers

total_above : (start count own : ℕ) (numbers : List ℕ) → count < own
    → total start count (own ∷ numbers) ≡ total (start + 1) count numbers
total_above start zero own numbers high = refl
total_above start (suc count) own numbers high =
    ap (λ (group : List ℕ). length group + total start count (own ∷ numbers))
    (no_member_first start (suc count) own numbers (λ is. absurd (omega (arith, is, high))))
    ∙ ap (λ rest. length (members_from (start + 1) (suc count) numbers) + rest)
    (total_above start count own numbers (omega (arith, high)))

total_first : (start count own : ℕ) (numbers : List ℕ)
    → total start count (own ∷ numbers) ≤ total (start + 1) count numbers + 1
total_first start zero own numbers = omega arith
total_first start (suc count) own numbers =
    by (same_or_not own (suc count)) (total_first start count own numbers)
  where
    by : (own ≡ suc count) ⊎ (own ≢ suc count)
        → total start count (own ∷ numbers) ≤ total (start + 1) count numbers + 1
        → length (members_from start (suc count) (own ∷ numbers))
        + total start count (own ∷ numbers)
        ≤ length (members_from (start + 1) (suc count) numbers)
        + total (start + 1) count numbers + 1
    by (inl same) rest =
        let first = ap (λ (group : List ℕ). length group)
        (member_first start (suc count) own numbers same) in
        let others = total_above start count own numbers (omega (arith, same)) in
        omega (arith, first, others)
    by (inr other) rest =
        let first = ap (λ (group : List ℕ). length group)
        (no_member_first start (suc count) own numbers other) in
        omega (arith, first, rest)

total_none : (start count : ℕ) → total start count [] ≡ 0
total_none start zero = refl
total_none start (suc count) = let none = total_none start count in omega (arith, none)

total_within : (start count : ℕ) (numbers : List ℕ) → total start count numbers ≤ length numbers
total_within start count [] = let none = total_none start count in omega (arith, none)
total_within start count (own ∷ numbers) =
    let first = total_first start count own numbers in
    let rest = total_within (start + 1) count numbers in
    omega (arith, first, rest)

count_within_total : (count : ℕ) (numbers : List ℕ)
    → ((number : ℕ) → 1 ≤ number → number ≤ count
    → 1 ≤ length (members_from 0 number numbers))
    → count ≤ total 0 count numbers
count_within_total zero numbers none_empty = omega arith
count_within_total (suc count) numbers none_empty =
    let first = none_empty (suc count) (omega arith) (omega arith) in
    let rest = count_within_total count numbers (λ number some within.
    none_empty number some (omega (arith, within))) in
    omega (arith, first, rest)

-- there are no more groups than there is room for pids, for none is empty
pub count_within : (numbers : List ℕ) (count given : ℕ) → AreNumbers numbers count given
    → count ≤ length numbers
count_within numbers count given are =
    let above_count = count_within_total count numbers are.none_empty in
    let within = total_within 0 count numbers in
    omega (arith, above_count, within)

-- ---- the numbers stay numbers

-- numbers of groups stay such when the next pid begins a group
pub begun_numbers : (numbers : List ℕ) (count given : ℕ) → AreNumbers numbers count given
    → given < length numbers
    → AreNumbers (set numbers given (suc count)) (suc count) (given + 1)
begun_numbers numbers count given are room =
    record {
      some = omega arith;
      room = let same = length-set numbers given (suc count) in omega (arith, same, room);
      numbered = λ pid below. numbered pid below (same_or_not pid given);
      not_given = λ pid out.
          get_or-set_other numbers given pid (suc count) 0 (λ is. absurd (omega (arith, is, out)))
          ∙ are.not_given pid (omega (arith, out));
      none_empty = λ number one within. none_empty number one within
          (same_or_not number (suc count));
    }
  where
    numbered : (pid : ℕ) → pid < given + 1 → (pid ≡ given) ⊎ (pid ≢ given)
        → (1 ≤ get_or (set numbers given (suc count)) pid 0)
        × (get_or (set numbers given (suc count)) pid 0 ≤ suc count)
    numbered pid below (inl same) =
        let is : get_or (set numbers given (suc count)) pid 0 ≡ suc count =
        ap (λ at. get_or (set numbers given (suc count)) at 0) same
        ∙ get_or-set_same numbers given (suc count) 0 room in
        (omega (arith, is), omega (arith, is))
    numbered pid below (inr other) =
        let is = get_or-set_other numbers given pid (suc count) 0 other in
        let old = are.numbered pid (omega (arith, below, other)) in
        (omega (arith, is, old.0), omega (arith, is, old.1))

    none_empty : (number : ℕ) → 1 ≤ number → number ≤ suc count
        → (number ≡ suc count) ⊎ (number ≢ suc count)
        → 1 ≤ length (members_from 0 number (set numbers given (suc count)))
    none_empty number one within (inl same) =
        let is = ap (λ at. length (members_from 0 at (set numbers given (suc count)))) same
        ∙ ap (λ (group : List ℕ). length group)
        (alone 0 (suc count) given given numbers (omega arith) room
        (fresh numbers count given are)) in
        omega (arith, is)
    none_empty number one within (inr other) =
        let is = ap (λ (group : List ℕ). length group)
        (other_number 0 number given (suc count) numbers (λ at. other (sym at))
        (λ at. let no = are.not_given given (omega arith) in absurd (omega (arith, at, no, one))))
        in
        let old = are.none_empty number one (omega (arith, within, other)) in
        omega (arith, is, old)

more_than : (xs : List ℕ) (x : ℕ) → 1 ≤ length (xs ++ x ∷ [])
more_than [] x = omega arith
more_than (y ∷ xs) x = omega arith

-- numbers of groups stay such when the next pid joins its parent's group
pub followed_numbers : (numbers : List ℕ) (count given parent : ℕ)
    → AreNumbers numbers count given → given < length numbers → parent < given
    → AreNumbers (set numbers given (get_or numbers parent 0)) count (given + 1)
followed_numbers numbers count given parent are room there =
    record {
      some = omega arith;
      room = let same = length-set numbers given (get_or numbers parent 0) in
          omega (arith, same, room);
      numbered = λ pid below. numbered pid below (same_or_not pid given);
      not_given = λ pid out.
          get_or-set_other numbers given pid (get_or numbers parent 0) 0
          (λ is. absurd (omega (arith, is, out)))
          ∙ are.not_given pid (omega (arith, out));
      none_empty = λ number one within. none_empty number one within
          (same_or_not (get_or numbers parent 0) number);
    }
  where
    numbered : (pid : ℕ) → pid < given + 1 → (pid ≡ given) ⊎ (pid ≢ given)
        → (1 ≤ get_or (set numbers given (get_or numbers parent 0)) pid 0)
        × (get_or (set numbers given (get_or numbers parent 0)) pid 0 ≤ count)
    numbered pid below (inl same) =
        let is : get_or (set numbers given (get_or numbers parent 0)) pid 0
        ≡ get_or numbers parent 0 =
        ap (λ at. get_or (set numbers given (get_or numbers parent 0)) at 0) same
        ∙ get_or-set_same numbers given (get_or numbers parent 0) 0 room in
        let own = are.numbered parent there in
        (omega (arith, is, own.0), omega (arith, is, own.1))
    numbered pid below (inr other) =
        let is = get_or-set_other numbers given pid (get_or numbers parent 0) 0 other in
        let old = are.numbered pid (omega (arith, below, other)) in
        (omega (arith, is, old.0), omega (arith, is, old.1))

    none_empty : (number : ℕ) → 1 ≤ number → number ≤ count
        → (get_or numbers parent 0 ≡ number) ⊎ (get_or numbers parent 0 ≢ number)
        → 1 ≤ length (members_from 0 number (set numbers given (get_or numbers parent 0)))
    none_empty number one within (inl same) =
        let is = ap (λ (new : ℕ). length (members_from 0 number (set numbers given new))) same
        ∙ ap (λ (group : List ℕ). length group)
        (joined 0 number given given numbers (omega arith) one room are.not_given) in
        let more = more_than (members_from 0 number numbers) given in
        omega (arith, is, more)
    none_empty number one within (inr other) =
        let is = ap (λ (group : List ℕ). length group)
        (other_number 0 number given (get_or numbers parent 0) numbers other
        (λ at. let no = are.not_given given (omega arith) in absurd (omega (arith, at, no, one))))
        in
        let old = are.none_empty number one within in
        omega (arith, is, old)

-- numbers of groups stay such when a pid leaves its company
pub left_numbers : (numbers : List ℕ) (count given pid : ℕ) → AreNumbers numbers count given
    → pid < given → 1 < length (members_from 0 (get_or numbers pid 0) numbers)
    → AreNumbers (set numbers pid (suc count)) (suc count) given
left_numbers numbers count given pid are there many =
    record {
      some = are.some;
      room = let same = length-set numbers pid (suc count) in
          let room = are.room in omega (arith, same, room);
      numbered = λ at below. numbered at below (same_or_not at pid);
      not_given = λ at out.
          get_or-set_other numbers pid at (suc count) 0
          (λ is. absurd (omega (arith, is, out, there))) ∙ are.not_given at out;
      none_empty = λ number one small. none_empty number one small
          (same_or_not number (suc count)) (same_or_not (get_or numbers pid 0) number);
    }
  where
    within : pid < length numbers
    within = let room = are.room in omega (arith, room, there)

    numbered : (at : ℕ) → at < given → (at ≡ pid) ⊎ (at ≢ pid)
        → (1 ≤ get_or (set numbers pid (suc count)) at 0)
        × (get_or (set numbers pid (suc count)) at 0 ≤ suc count)
    numbered at below (inl same) =
        let is : get_or (set numbers pid (suc count)) at 0 ≡ suc count =
        ap (λ place. get_or (set numbers pid (suc count)) place 0) same
        ∙ get_or-set_same numbers pid (suc count) 0 within in
        (omega (arith, is), omega (arith, is))
    numbered at below (inr other) =
        let is = get_or-set_other numbers pid at (suc count) 0 other in
        let old = are.numbered at below in
        (omega (arith, is, old.0), omega (arith, is, old.1))

    none_empty : (number : ℕ) → 1 ≤ number → number ≤ suc count
        → (number ≡ suc count) ⊎ (number ≢ suc count)
        → (get_or numbers pid 0 ≡ number) ⊎ (get_or numbers pid 0 ≢ number)
        → 1 ≤ length (members_from 0 number (set numbers pid (suc count)))
    none_empty number one small (inl same) was =
        let is = ap (λ at. length (members_from 0 at (set numbers pid (suc count)))) same
        ∙ ap (λ (group : List ℕ). length group)
        (alone 0 (suc count) pid pid numbers (omega arith) within
        (fresh numbers count given are)) in
        omega (arith, is)
    none_empty number one small (inr other) (inl was) =
        let size = ap (λ at. length (members_from 0 at numbers)) was in
        let one_less = loses_one 0 number pid (suc count) numbers in
        omega (arith, size, one_less, many)
    none_empty number one small (inr other) (inr was) =
        let is = ap (λ (group : List ℕ). length group)
        (other_number 0 number pid (suc count) numbers (λ at. other (sym at)) was) in
        let old = are.none_empty number one (omega (arith, small, other)) in
        omega (arith, is, old)

-- ---- they are disjoint groups

nothing : (n : ℕ) → 0 + n ≡ n
nothing n = omega arith

times_after : (pid member : ℕ) (group : List ℕ) → member ≢ pid
    → times_in pid (member ∷ group) ≡ times_in pid group
times_after pid member group other =
    ap (λ is. (if is then 1 else 0) + times_in pid group) (is_false member pid other) ∙ nothing _

never_below : (start number pid : ℕ) (numbers : List ℕ) → pid < start
    → times_in pid (members_from start number numbers) ≡ 0
never_below start number pid [] below = refl
never_below start number pid (own ∷ numbers) below =
    by (same_or_not own number) (never_below (start + 1) number pid numbers (omega arith))
  where
    by : (own ≡ number) ⊎ (own ≢ number)
        → times_in pid (members_from (start + 1) number numbers) ≡ 0
        → times_in pid (members_from start number (own ∷ numbers)) ≡ 0
    by (inl same) rest = ap (times_in pid) (member_first start number own numbers same)
        ∙ times_after pid start _ (λ is. absurd (omega (arith, is, below))) ∙ rest
    by (inr other) rest = ap (times_in pid) (no_member_first start number own numbers other) ∙ rest

times_there : (start number place pid : ℕ) (numbers : List ℕ) → pid ≡ start + place → 1 ≤ number
    → times_in pid (members_from start number numbers)
    ≡ (if get_or numbers place 0 == number then 1 else 0)
times_there start number place pid [] at some =
    sym (ap (λ is. if is then 1 else 0) (is_false 0 number (λ is. absurd (omega (arith, is)))))
times_there start number zero pid (own ∷ numbers) at some = by (same_or_not own number)
  where
    below : times_in pid (members_from (start + 1) number numbers) ≡ 0
    below = never_below (start + 1) number pid numbers (omega (arith, at))

    by : (own ≡ number) ⊎ (own ≢ number)
        → times_in pid (members_from start number (own ∷ numbers))
        ≡ (if own == number then 1 else 0)
    by (inl same) = ap (times_in pid) (member_first start number own numbers same)
        ∙ ap (λ is. (if is then 1 else 0) + times_in pid (members_from (start + 1) number numbers))
        (is_true start pid (omega (arith, at)))
        ∙ ap (λ rest. 1 + rest) below
        ∙ sym (ap (λ is. if is then 1 else 0) (is_true own number same))
    by (inr other) = ap (times_in pid) (no_member_first start number own numbers other)
        ∙ below ∙ sym (ap (λ is. if is then 1 else 0) (is_false own number other))
times_there start number (suc place) pid (own ∷ numbers) at some =
    by (same_or_not own number)
    (times_there (start + 1) number place pid numbers (omega (arith, at)) some)
  where
    by : (own ≡ number) ⊎ (own ≢ number)
        → times_in pid (members_from (start + 1) number numbers)
        ≡ (if get_or numbers place 0 == number then 1 else 0)
        → times_in pid (members_from start number (own ∷ numbers))
        ≡ (if get_or numbers place 0 == number then 1 else 0)
    by (inl same) rest = ap (times_in pid) (member_first start number own numbers same)
        ∙ times_after pid start _ (λ is. absurd (omega (arith, is, at))) ∙ rest
    by (inr other) rest = ap (times_in pid) (no_member_first start number own numbers other) ∙ rest

-- a pid that has no number stands in no group, and another once
never : (pid count : ℕ) (numbers : List ℕ) → (get_or numbers pid 0 ≡ 0) ⊎
    (count < get_or numbers pid 0)
    → times pid (groups_by count numbers) ≡ 0
never pid zero numbers out = refl
never pid (suc count) numbers out =
    let first = times_there 0 (suc count) pid pid numbers (omega arith) (omega arith)
    ∙ ap (λ is. if is then 1 else 0) (is_false _ _ (not_it out)) in
    let rest = never pid count numbers (lower out) in
    omega (arith, first, rest)
  where
    not_it : (get_or numbers pid 0 ≡ 0) ⊎ (suc count < get_or numbers pid 0)
        → get_or numbers pid 0 ≢ suc count
    not_it (inl none) is = absurd (omega (arith, none, is))
    not_it (inr high) is = absurd (omega (arith, high, is))

    lower : (get_or numbers pid 0 ≡ 0) ⊎ (suc count < get_or numbers pid 0)
        → (get_or numbers pid 0 ≡ 0) ⊎ (count < get_or numbers pid 0)
    lower (inl none) = inl none
    lower (inr high) = inr (omega (arith, high))

once : (pid count : ℕ) (numbers : List ℕ) → 1 ≤ get_or numbers pid 0
    → get_or numbers pid 0 ≤ count → times pid (groups_by count numbers) ≡ 1
once pid zero numbers some within = absurd (omega (arith, some, within))
once pid (suc count) numbers some within =
    by (same_or_not (get_or numbers pid 0) (suc count)) (once pid count numbers some)
  where
    first : times_in pid (members_from 0 (suc count) numbers)
        ≡ (if get_or numbers pid 0 == suc count then 1 else 0)
    first = times_there 0 (suc count) pid pid numbers (omega arith) (omega arith)

    by : (get_or numbers pid 0 ≡ suc count) ⊎ (get_or numbers pid 0 ≢ suc count)
        → (get_or numbers pid 0 ≤ count → times pid (groups_by count numbers) ≡ 1)
        → times pid (groups_by (suc count) numbers) ≡ 1
    by (inl same) later =
        let one = first ∙ ap (λ is. if is then 1 else 0) (is_true _ _ same) in
        let rest = never pid count numbers (inr (omega (arith, same))) in
        omega (arith, one, rest)
    by (inr other) later =
        let none = first ∙ ap (λ is. if is then 1 else 0) (is_false _ _ other) in
        let rest = later (omega (arith, within, other)) in
        omega (arith, none, rest)

rises : (least start number : ℕ) (numbers : List ℕ) → least ≤ start
    → RisesFrom least (members_from start number numbers)
rises least start number [] low = tt
rises least start number (own ∷ numbers) low =
    by (same_or_not own number) (λ low. rises low (start + 1) number numbers)
  where
    by : (own ≡ number) ⊎ (own ≢ number)
        → ((low : ℕ) → low ≤ start + 1
        → RisesFrom low (members_from (start + 1) number numbers))
        → RisesFrom least (members_from start number (own ∷ numbers))
    by (inl same) rest = subst (RisesFrom least) (sym (member_first start number own numbers same))
        (low, rest (start + 1) (omega arith))
    by (inr other) rest =
        subst (RisesFrom least) (sym (no_member_first start number own numbers other))
        (rest least (omega (arith, low)))

each_rises : (count : ℕ) (numbers : List ℕ) → EachRises (groups_by count numbers)
each_rises zero numbers = tt
each_rises (suc count) numbers =
    (rises 0 0 (suc count) numbers (omega arith), each_rises count numbers)

-- each group rises, and each pid that was given is once in the groups, and no other pid
pub are_disjoint : (numbers : List ℕ) (count given : ℕ) → AreNumbers numbers count given
    → AreGroups (groups_by count numbers) given
are_disjoint numbers count given are =
    record { rise = each_rises count numbers; once = λ pid. by pid (nat_lt pid given) refl }
  where
    by : (pid : ℕ) (below : Bool) → nat_lt pid given ≡ below
        → times pid (groups_by count numbers) ≡ (if below then 1 else 0)
    by pid true below =
        let number = are.numbered pid (grind (arith, nat_tests)) in
        once pid count numbers number.0 number.1
    by pid false below =
        never pid count numbers (inl (are.not_given pid (grind (arith, nat_tests))))
