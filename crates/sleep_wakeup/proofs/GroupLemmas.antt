-- What the calls make of the groups: a pid begins, follows, leaves or stays.
use Rattle.std.proofs.Common.{◌≡◌, ◌≢◌, ◌⊎◌, inl, inr, ℕ, zero, suc, ◌+◌, ◌<◌, ◌≤◌, ◌==◌}
use Rattle.std.proofs.Common.{Bool, true, false, if◌then◌else◌, List, [], ◌∷◌, ◌++◌, length}
use Rattle.std.proofs.Common.{get_or, set, replicate, nat_lt, refl, sym, ap, ◌∙◌, arith}
use Rattle.std.proofs.lemmas.Bool.Decides.{nat_tests}
use Rattle.sleep_wakeup.specs.Groups.{holds, group_of, without, begins, joins, parts, leaves}
use Rattle.sleep_wakeup.specs.Groups.{follows, has_company, members_from, groups_by, AreNumbers}
use Rattle.sleep_wakeup.specs.Groups.{first_group}
use Rattle.sleep_wakeup.proofs.GroupMembers.{same_or_not, is_true, is_false, member_first, held}
use Rattle.sleep_wakeup.proofs.GroupMembers.{nobody, other_number, alone, joined, parted, found}
use Rattle.sleep_wakeup.proofs.GroupMembers.{not_found}

-- a pid that had no number gets one above these
above : (count place new : ℕ) (numbers : List ℕ) → count < new → get_or numbers place 0 ≡ 0
    → groups_by count (set numbers place new) ≡ groups_by count numbers
above zero place new numbers high none = refl
above (suc count) place new numbers high none =
    ap (λ group. group ∷ groups_by count (set numbers place new))
    (other_number 0 (suc count) place new numbers (λ is. absurd (omega (arith, is, high)))
    (λ is. absurd (omega (arith, is, none))))
    ∙ ap (λ groups. members_from 0 (suc count) numbers ∷ groups)
    (above count place new numbers (omega (arith, high)) none)

-- nobody has a number above the count
pub fresh : (numbers : List ℕ) (count given : ℕ) → AreNumbers numbers count given
    → (place : ℕ) → get_or numbers place 0 ≢ suc count
fresh numbers count given are place is = by (nat_lt place given) refl
  where
    by : (below : Bool) → nat_lt place given ≡ below → ⊥
    by true below =
        let number = are.numbered place (grind (arith, nat_tests)) in
        absurd (omega (arith, number.1, is))
    by false below =
        let none = are.not_given place (grind (arith, nat_tests)) in
        absurd (omega (arith, none, is))

-- a pid that is given a new number begins a group of its own
pub begun : (numbers : List ℕ) (count given : ℕ) → AreNumbers numbers count given
    → given < length numbers
    → groups_by (suc count) (set numbers given (suc count))
    ≡ begins given (groups_by count numbers)
begun numbers count given are room =
    ap (λ group. group ∷ groups_by count (set numbers given (suc count)))
    (alone 0 (suc count) given given numbers (omega arith) room (fresh numbers count given are))
    ∙ ap (λ groups. (given ∷ []) ∷ groups)
    (above count given (suc count) numbers (omega arith) (are.not_given given (omega arith)))

followed_in : (count parent child : ℕ) (numbers : List ℕ) → child < length numbers
    → 1 ≤ get_or numbers parent 0
    → ((later : ℕ) → child ≤ later → get_or numbers later 0 ≡ 0)
    → groups_by count (set numbers child (get_or numbers parent 0))
    ≡ joins parent child (groups_by count numbers)
followed_in zero parent child numbers room some none = refl
followed_in (suc count) parent child numbers room some none =
    ap (λ group. group ∷ groups_by count (set numbers child (get_or numbers parent 0)))
    (by (same_or_not (get_or numbers parent 0) (suc count)))
    ∙ ap (λ groups. (if holds parent (members_from 0 (suc count) numbers)
    then members_from 0 (suc count) numbers ++ child ∷ []
    else members_from 0 (suc count) numbers) ∷ groups)
    (followed_in count parent child numbers room some none)
  where
    holds_it : holds parent (members_from 0 (suc count) numbers)
        ≡ (get_or numbers parent 0 == suc count)
    holds_it = held 0 (suc count) parent parent numbers (omega arith) (omega arith)

    by : (get_or numbers parent 0 ≡ suc count) ⊎ (get_or numbers parent 0 ≢ suc count)
        → members_from 0 (suc count) (set numbers child (get_or numbers parent 0))
        ≡ (if holds parent (members_from 0 (suc count) numbers)
        then members_from 0 (suc count) numbers ++ child ∷ []
        else members_from 0 (suc count) numbers)
    by (inl same) =
        ap (λ number. members_from 0 (suc count) (set numbers child number)) same
        ∙ joined 0 (suc count) child child numbers (omega arith) (omega arith) room none
        ∙ sym (ap (λ is. if is then members_from 0 (suc count) numbers ++ child ∷ []
        else members_from 0 (suc count) numbers) (holds_it ∙ is_true _ _ same))
    by (inr other) =
        other_number 0 (suc count) child (get_or numbers parent 0) numbers other
        (λ is. let no = none child (omega arith) in absurd (omega (arith, is, no)))
        ∙ sym (ap (λ is. if is then members_from 0 (suc count) numbers ++ child ∷ []
        else members_from 0 (suc count) numbers) (holds_it ∙ is_false _ _ other))

positive : (xs : List ℕ) → 1 ≤ length xs → nat_lt 0 (length xs) ≡ true
positive xs some = grind (arith, nat_tests)

-- a group holds the pid exactly where it was given
pub has_group : (numbers : List ℕ) (count given pid : ℕ) → AreNumbers numbers count given
    → nat_lt 0 (length (group_of pid (groups_by count numbers))) ≡ nat_lt pid given
has_group numbers count given pid are = by (nat_lt pid given) refl
  where
    by : (below : Bool) → nat_lt pid given ≡ below
        → nat_lt 0 (length (group_of pid (groups_by count numbers))) ≡ below
    by true below =
        let number = are.numbered pid (grind (arith, nat_tests)) in
        ap (λ (group : List ℕ). nat_lt 0 (length group)) (found pid count numbers number.0 number.1)
        ∙ positive _ (are.none_empty (get_or numbers pid 0) number.0 number.1)
    by false below =
        let none = are.not_given pid (grind (arith, nat_tests)) in
        ap (λ (group : List ℕ). nat_lt 0 (length group)) (not_found pid count numbers none)

-- a child that is given its parent's number joins the parent's group
pub followed : (numbers : List ℕ) (count given parent : ℕ) → AreNumbers numbers count given
    → given < length numbers → parent < given
    → groups_by count (set numbers given (get_or numbers parent 0))
    ≡ follows parent given (groups_by count numbers)
followed numbers count given parent are room held_there =
    followed_in count parent given numbers room (are.numbered parent held_there).0 are.not_given
    ∙ sym (ap (λ is. if is then joins parent given (groups_by count numbers)
    else begins given (groups_by count numbers))
    (has_group numbers count given parent are ∙ below))
  where
    below : nat_lt parent given ≡ true
    below = grind (arith, nat_tests)

-- a child of a parent that is not there begins a group of its own
pub orphaned : (numbers : List ℕ) (count given parent : ℕ) → AreNumbers numbers count given
    → given ≤ parent
    → begins given (groups_by count numbers) ≡ follows parent given (groups_by count numbers)
orphaned numbers count given parent are out =
    sym (ap (λ is. if is then joins parent given (groups_by count numbers)
    else begins given (groups_by count numbers))
    (has_group numbers count given parent are ∙ not_there))
  where
    not_there : nat_lt parent given ≡ false
    not_there = grind (arith, nat_tests)

left_in : (count pid new : ℕ) (numbers : List ℕ) → count < new → pid < length numbers
    → groups_by count (set numbers pid new) ≡ parts pid (groups_by count numbers)
left_in zero pid new numbers high within = refl
left_in (suc count) pid new numbers high within =
    ap (λ group. group ∷ groups_by count (set numbers pid new))
    (parted 0 (suc count) pid new pid numbers (omega arith) within
    (λ is. absurd (omega (arith, is, high))))
    ∙ ap (λ groups. without pid (members_from 0 (suc count) numbers) ∷ groups)
    (left_in count pid new numbers (omega (arith, high)) within)

-- a pid in company that is given a new number leaves its group for one of its own
pub left : (numbers : List ℕ) (count given pid : ℕ) → AreNumbers numbers count given → pid < given
    → 1 < length (members_from 0 (get_or numbers pid 0) numbers)
    → groups_by (suc count) (set numbers pid (suc count)) ≡ leaves pid (groups_by count numbers)
left numbers count given pid are given_out many =
    ap (λ group. group ∷ groups_by count (set numbers pid (suc count)))
    (alone 0 (suc count) pid pid numbers (omega arith) within (fresh numbers count given are))
    ∙ ap (λ groups. (pid ∷ []) ∷ groups) (left_in count pid (suc count) numbers (omega arith)
    within)
    ∙ sym (ap (λ is. if is then begins pid (parts pid (groups_by count numbers))
    else groups_by count numbers) company)
  where
    within : pid < length numbers
    within = let room = are.room in omega (arith, room, given_out)

    company : has_company pid (groups_by count numbers) ≡ true
    company =
        let number = are.numbered pid given_out in
        ap (λ (group : List ℕ). nat_lt 1 (length group)) (found pid count numbers number.0 number.1)
        ∙ grind (arith, nat_tests)

-- a pid that is alone in its group, or not there, stays where it is when it leaves
pub stayed : (numbers : List ℕ) (count given pid : ℕ) → AreNumbers numbers count given
    → (pid < given → length (members_from 0 (get_or numbers pid 0) numbers) ≤ 1)
    → groups_by count numbers ≡ leaves pid (groups_by count numbers)
stayed numbers count given pid are few =
    sym (ap (λ is. if is then begins pid (parts pid (groups_by count numbers))
    else groups_by count numbers) (by (nat_lt pid given) refl))
  where
    no_company : (group : List ℕ) → length group ≤ 1 → nat_lt 1 (length group) ≡ false
    no_company group small = grind (arith, nat_tests)

    by : (below : Bool) → nat_lt pid given ≡ below
        → has_company pid (groups_by count numbers) ≡ false
    by true below =
        let there : pid < given = grind (arith, nat_tests) in
        let number = are.numbered pid there in
        ap (λ (group : List ℕ). nat_lt 1 (length group)) (found pid count numbers number.0 number.1)
        ∙ no_company _ (few there)
    by false below =
        let none = are.not_given pid (grind (arith, nat_tests)) in
        ap (λ (group : List ℕ). nat_lt 1 (length group)) (not_found pid count numbers none)

-- a row of zeros
zeros : (size place : ℕ) → ◌≡◌ {A = ℕ} (get_or (replicate size 0) place 0) 0
zeros zero place = refl
zeros (suc size) zero = refl
zeros (suc size) (suc place) = zeros size place

-- the first process has the first number, and no other pid has one
pub first_numbers : (size : ℕ) → 1 ≤ size → AreNumbers (set (replicate size 0) 0 1) 1 1
first_numbers zero some = absurd (omega (arith, some))
first_numbers (suc size) some =
    record {
      some = omega arith;
      room = omega arith;
      numbered = λ pid below. numbered pid below;
      not_given = λ pid out. not_given pid out;
      none_empty = λ number one within.
          let first = ap (λ (group : List ℕ). length group)
          (member_first 0 number 1 (replicate size 0) (omega (arith, one, within))) in
          omega (arith, first);
    }
  where
    numbered : (pid : ℕ) → pid < 1 → (1 ≤ get_or (1 ∷ replicate size 0) pid 0)
        × (get_or (1 ∷ replicate size 0) pid 0 ≤ 1)
    numbered zero below = (omega arith, omega arith)
    numbered (suc pid) below = absurd (omega (arith, below))

    not_given : (pid : ℕ) → 1 ≤ pid
        → ◌≡◌ {A = ℕ} (get_or (1 ∷ replicate size 0) pid 0) 0
    not_given zero out = absurd (omega (arith, out))
    not_given (suc pid) out = zeros size pid

-- the first process alone
pub only_first : (numbers : List ℕ) → AreNumbers numbers 1 1 → groups_by 1 numbers ≡ first_group
only_first [] are = let room = are.room in absurd (omega (arith, room))
only_first (own ∷ numbers) are =
    let number = are.numbered 0 (omega arith) in
    ap (λ group. group ∷ [])
    (member_first 0 1 own numbers (omega (arith, number.0, number.1))
    ∙ ap (λ group. 0 ∷ group) (nobody 1 1 numbers (λ place is.
    let no : get_or numbers place 0 ≡ 0 = are.not_given (suc place) (omega arith) in
    absurd (omega (arith, is, no)))))
