-- Which pids have the number of a group, and what giving a pid another number makes of them.
use Rattle.std.proofs.Common.{◌≡◌, ◌≢◌, ◌⊎◌, inl, inr, ℕ, zero, suc, ◌+◌, ◌<◌, ◌≤◌, ◌==◌, ◌||◌}
use Rattle.std.proofs.Common.{Bool, true, false, if◌then◌else◌, List, [], ◌∷◌, ◌++◌, length}
use Rattle.std.proofs.Common.{get_or, set, refl, sym, ap, ◌∙◌, arith}
use Rattle.std.proofs.lemmas.Bool.Decides.{nat_tests}
use Rattle.sleep_wakeup.specs.Groups.{holds, group_of, without}
use Rattle.sleep_wakeup.specs.Groups.{members_from, groups_by}

-- two numbers are the same or not
pub same_or_not : (a b : ℕ) → (a ≡ b) ⊎ (a ≢ b)
same_or_not a b = by (a == b) refl
  where
    by : (is : Bool) → (a == b) ≡ is → (a ≡ b) ⊎ (a ≢ b)
    by true is = inl (grind (arith, nat_tests))
    by false is = inr (λ same. absurd (grind (arith, nat_tests)))

-- a number is equal to the same
pub is_true : (a b : ℕ) → a ≡ b → (a == b) ≡ true
is_true a b same = grind (arith, nat_tests)

-- and to no other
pub is_false : (a b : ℕ) → a ≢ b → (a == b) ≡ false
is_false a b other = grind (arith, nat_tests)

-- the first pid is a member, or it is none
pub member_first : (start number own : ℕ) (numbers : List ℕ) → own ≡ number
    → members_from start number (own ∷ numbers)
    ≡ start ∷ members_from (start + 1) number numbers
member_first start number own numbers same =
    ap (λ is. if is then start ∷ members_from (start + 1) number numbers
    else members_from (start + 1) number numbers) (is_true own number same)

-- a pid of another number is passed over in the list of members
pub no_member_first : (start number own : ℕ) (numbers : List ℕ) → own ≢ number
    → members_from start number (own ∷ numbers) ≡ members_from (start + 1) number numbers
no_member_first start number own numbers other =
    ap (λ is. if is then start ∷ members_from (start + 1) number numbers
    else members_from (start + 1) number numbers) (is_false own number other)

holds_first : (pid member : ℕ) (group : List ℕ) → member ≡ pid → holds pid (member ∷ group) ≡ true
holds_first pid member group same = ap (λ is. is || holds pid group) (is_true member pid same)

holds_after : (pid member : ℕ) (group : List ℕ) → member ≢ pid
    → holds pid (member ∷ group) ≡ holds pid group
holds_after pid member group other =
    ap (λ is. is || holds pid group) (is_false member pid other)

without_first : (pid member : ℕ) (group : List ℕ) → member ≡ pid
    → without pid (member ∷ group) ≡ without pid group
without_first pid member group same =
    ap (λ is. if is then without pid group else member ∷ without pid group)
    (is_true member pid same)

without_after : (pid member : ℕ) (group : List ℕ) → member ≢ pid
    → without pid (member ∷ group) ≡ member ∷ without pid group
without_after pid member group other =
    ap (λ is. if is then without pid group else member ∷ without pid group)
    (is_false member pid other)

-- a pid below the first of them is none of them
not_below : (start number pid : ℕ) (numbers : List ℕ) → pid < start
    → holds pid (members_from start number numbers) ≡ false
not_below start number pid [] below = refl
not_below start number pid (own ∷ numbers) below =
    by (same_or_not own number) (not_below (start + 1) number pid numbers (omega arith))
  where
    by : (own ≡ number) ⊎ (own ≢ number)
        → holds pid (members_from (start + 1) number numbers) ≡ false
        → holds pid (members_from start number (own ∷ numbers)) ≡ false
    by (inl same) rest = ap (holds pid) (member_first start number own numbers same)
        ∙ holds_after pid start _ (λ is. absurd (omega (arith, is, below))) ∙ rest
    by (inr other) rest = ap (holds pid) (no_member_first start number own numbers other) ∙ rest

-- and taking it out changes nothing
not_taken_out : (start number pid : ℕ) (numbers : List ℕ) → pid < start
    → without pid (members_from start number numbers) ≡ members_from start number numbers
not_taken_out start number pid [] below = refl
not_taken_out start number pid (own ∷ numbers) below =
    by (same_or_not own number) (not_taken_out (start + 1) number pid numbers (omega arith))
  where
    by : (own ≡ number) ⊎ (own ≢ number)
        → without pid (members_from (start + 1) number numbers)
        ≡ members_from (start + 1) number numbers
        → without pid (members_from start number (own ∷ numbers))
        ≡ members_from start number (own ∷ numbers)
    by (inl same) rest =
        let is = member_first start number own numbers same in
        ap (without pid) is
        ∙ without_after pid start _ (λ at. absurd (omega (arith, at, below)))
        ∙ ap (λ group. start ∷ group) rest ∙ sym is
    by (inr other) rest =
        let is = no_member_first start number own numbers other in
        ap (without pid) is ∙ rest ∙ sym is

-- a pid is a member exactly where it has the number
pub held : (start number place pid : ℕ) (numbers : List ℕ) → pid ≡ start + place → 1 ≤ number
    → holds pid (members_from start number numbers) ≡ (get_or numbers place 0 == number)
held start number place pid [] at some = sym (is_false 0 number (λ is. absurd (omega (arith, is))))
held start number zero pid (own ∷ numbers) at some = by (same_or_not own number)
  where
    by : (own ≡ number) ⊎ (own ≢ number)
        → holds pid (members_from start number (own ∷ numbers)) ≡ (own == number)
    by (inl same) = ap (holds pid) (member_first start number own numbers same)
        ∙ holds_first pid start _ (omega (arith, at)) ∙ sym (is_true own number same)
    by (inr other) = ap (holds pid) (no_member_first start number own numbers other)
        ∙ not_below (start + 1) number pid numbers (omega (arith, at))
        ∙ sym (is_false own number other)
held start number (suc place) pid (own ∷ numbers) at some =
    by (same_or_not own number)
    (held (start + 1) number place pid numbers (omega (arith, at)) some)
  where
    by : (own ≡ number) ⊎ (own ≢ number)
        → holds pid (members_from (start + 1) number numbers)
        ≡ (get_or numbers place 0 == number)
        → holds pid (members_from start number (own ∷ numbers))
        ≡ (get_or numbers place 0 == number)
    by (inl same) rest = ap (holds pid) (member_first start number own numbers same)
        ∙ holds_after pid start _ (λ is. absurd (omega (arith, is, at))) ∙ rest
    by (inr other) rest = ap (holds pid) (no_member_first start number own numbers other) ∙ rest

-- no pid has the number
pub nobody : (start number : ℕ) (numbers : List ℕ)
    → ((place : ℕ) → get_or numbers place 0 ≢ number) → members_from start number numbers ≡ []
nobody start number [] none = refl
nobody start number (own ∷ numbers) none =
    no_member_first start number own numbers (none 0)
    ∙ nobody (start + 1) number numbers (λ place. none (suc place))

-- a pid of another number, or of none, gets another number
pub other_number : (start number place new : ℕ) (numbers : List ℕ) → new ≢ number
    → get_or numbers place 0 ≢ number
    → members_from start number (set numbers place new) ≡ members_from start number numbers
other_number start number place new [] apart was = refl
other_number start number zero new (own ∷ numbers) apart was =
    no_member_first start number new numbers apart
    ∙ sym (no_member_first start number own numbers was)
other_number start number (suc place) new (own ∷ numbers) apart was =
    by (same_or_not own number) (other_number (start + 1) number place new numbers apart was)
  where
    by : (own ≡ number) ⊎ (own ≢ number)
        → members_from (start + 1) number (set numbers place new)
        ≡ members_from (start + 1) number numbers
        → members_from start number (own ∷ set numbers place new)
        ≡ members_from start number (own ∷ numbers)
    by (inl same) rest = member_first start number own (set numbers place new) same
        ∙ ap (λ group. start ∷ group) rest ∙ sym (member_first start number own numbers same)
    by (inr other) rest = no_member_first start number own (set numbers place new) other
        ∙ rest ∙ sym (no_member_first start number own numbers other)

-- a pid gets a number that nobody has
pub alone : (start number place pid : ℕ) (numbers : List ℕ) → pid ≡ start + place
    → place < length numbers → ((place : ℕ) → get_or numbers place 0 ≢ number)
    → members_from start number (set numbers place number) ≡ pid ∷ []
alone start number place pid [] at within none = absurd (omega (arith, within))
alone start number zero pid (own ∷ numbers) at within none =
    member_first start number number numbers refl
    ∙ ap (λ group. start ∷ group)
    (nobody (start + 1) number numbers (λ place. none (suc place)))
    ∙ ap (λ first. first ∷ []) (omega (arith, at))
alone start number (suc place) pid (own ∷ numbers) at within none =
    no_member_first start number own (set numbers place number) (none 0)
    ∙ alone (start + 1) number place pid numbers (omega (arith, at)) (omega (arith, within))
    (λ place. none (suc place))

-- a pid after all that have a number joins them
pub joined : (start number place pid : ℕ) (numbers : List ℕ) → pid ≡ start + place → 1 ≤ number
    → place < length numbers → ((later : ℕ) → place ≤ later → get_or numbers later 0 ≡ 0)
    → members_from start number (set numbers place number)
    ≡ members_from start number numbers ++ pid ∷ []
joined start number place pid [] at some within none = absurd (omega (arith, within))
joined start number zero pid (own ∷ numbers) at some within none =
    member_first start number number numbers refl
    ∙ ap (λ group. start ∷ group) empty
    ∙ ap (λ first. first ∷ []) (omega (arith, at))
    ∙ sym (ap (λ group. group ++ pid ∷ [])
    (no_member_first start number own numbers not_own ∙ empty))
  where
    not_own : own ≢ number
    not_own is = let no : own ≡ 0 = none 0 (omega arith) in absurd (omega (arith, is, no, some))

    empty : members_from (start + 1) number numbers ≡ []
    empty = nobody (start + 1) number numbers (λ later is.
        let no : get_or numbers later 0 ≡ 0 = none (suc later) (omega arith) in
        absurd (omega (arith, is, no, some)))
joined start number (suc place) pid (own ∷ numbers) at some within none =
    by (same_or_not own number)
    (joined (start + 1) number place pid numbers (omega (arith, at)) some
    (omega (arith, within)) (λ later after. none (suc later) (omega (arith, after))))
  where
    by : (own ≡ number) ⊎ (own ≢ number)
        → members_from (start + 1) number (set numbers place number)
        ≡ members_from (start + 1) number numbers ++ pid ∷ []
        → members_from start number (own ∷ set numbers place number)
        ≡ members_from start number (own ∷ numbers) ++ pid ∷ []
    by (inl same) rest = member_first start number own (set numbers place number) same
        ∙ ap (λ group. start ∷ group) rest
        ∙ sym (ap (λ group. group ++ pid ∷ []) (member_first start number own numbers same))
    by (inr other) rest = no_member_first start number own (set numbers place number) other
        ∙ rest
        ∙ sym (ap (λ group. group ++ pid ∷ []) (no_member_first start number own numbers other))

-- a pid gets another number, and is out of its group
pub parted : (start number place new pid : ℕ) (numbers : List ℕ) → pid ≡ start + place
    → place < length numbers → new ≢ number
    → members_from start number (set numbers place new)
    ≡ without pid (members_from start number numbers)
parted start number place new pid [] at within apart = absurd (omega (arith, within))
parted start number zero new pid (own ∷ numbers) at within apart =
    no_member_first start number new numbers apart
    ∙ sym (not_taken_out (start + 1) number pid numbers (omega (arith, at)))
    ∙ by (same_or_not own number)
  where
    by : (own ≡ number) ⊎ (own ≢ number)
        → without pid (members_from (start + 1) number numbers)
        ≡ without pid (members_from start number (own ∷ numbers))
    by (inl same) = sym (ap (without pid) (member_first start number own numbers same)
        ∙ without_first pid start _ (omega (arith, at)))
    by (inr other) = sym (ap (without pid) (no_member_first start number own numbers other))
parted start number (suc place) new pid (own ∷ numbers) at within apart =
    by (same_or_not own number)
    (parted (start + 1) number place new pid numbers (omega (arith, at)) (omega (arith, within))
    apart)
  where
    by : (own ≡ number) ⊎ (own ≢ number)
        → members_from (start + 1) number (set numbers place new)
        ≡ without pid (members_from (start + 1) number numbers)
        → members_from start number (own ∷ set numbers place new)
        ≡ without pid (members_from start number (own ∷ numbers))
    by (inl same) rest = member_first start number own (set numbers place new) same
        ∙ ap (λ group. start ∷ group) rest
        ∙ sym (ap (without pid) (member_first start number own numbers same)
        ∙ without_after pid start _ (λ is. absurd (omega (arith, is, at))))
    by (inr other) rest = no_member_first start number own (set numbers place new) other
        ∙ rest ∙ sym (ap (without pid) (no_member_first start number own numbers other))

-- a group loses one member at the most
pub loses_one : (start number place new : ℕ) (numbers : List ℕ)
    → length (members_from start number numbers)
    ≤ length (members_from start number (set numbers place new)) + 1
loses_one start number place new [] = omega arith
loses_one start number zero new (own ∷ numbers) =
    by (same_or_not own number) (same_or_not new number)
  where
    by : (own ≡ number) ⊎ (own ≢ number) → (new ≡ number) ⊎ (new ≢ number)
        → length (members_from start number (own ∷ numbers))
        ≤ length (members_from start number (new ∷ numbers)) + 1
    by (inl same) (inl now) =
        rw (member_first start number own numbers same, member_first start number new numbers now)
        (omega arith)
    by (inl same) (inr now) =
        rw (
          member_first start number own numbers same,
          no_member_first start number new numbers now,
        ) (omega arith)
    by (inr other) (inl now) =
        rw (
          no_member_first start number own numbers other,
          member_first start number new numbers now,
        ) (omega arith)
    by (inr other) (inr now) =
        rw (
          no_member_first start number own numbers other,
          no_member_first start number new numbers now,
        ) (omega arith)
loses_one start number (suc place) new (own ∷ numbers) =
    by (same_or_not own number) (loses_one (start + 1) number place new numbers)
  where
    by : (own ≡ number) ⊎ (own ≢ number)
        → length (members_from (start + 1) number numbers)
        ≤ length (members_from (start + 1) number (set numbers place new)) + 1
        → length (members_from start number (own ∷ numbers))
        ≤ length (members_from start number (own ∷ set numbers place new)) + 1
    by (inl same) rest =
        rw (
          member_first start number own numbers same,
          member_first start number own (set numbers place new) same,
        ) (omega (arith, rest))
    by (inr other) rest =
        rw (
          no_member_first start number own numbers other,
          no_member_first start number own (set numbers place new) other,
        ) rest

-- ---- the group of a pid

-- the group of a pid with a number is of all pids with that number
pub found : (pid count : ℕ) (numbers : List ℕ) → 1 ≤ get_or numbers pid 0
    → get_or numbers pid 0 ≤ count
    → group_of pid (groups_by count numbers) ≡ members_from 0 (get_or numbers pid 0) numbers
found pid zero numbers some within = absurd (omega (arith, some, within))
found pid (suc count) numbers some within =
    by (same_or_not (get_or numbers pid 0) (suc count)) (found pid count numbers some)
  where
    holds_it : holds pid (members_from 0 (suc count) numbers)
        ≡ (get_or numbers pid 0 == suc count)
    holds_it = held 0 (suc count) pid pid numbers (omega arith) (omega arith)

    by : (get_or numbers pid 0 ≡ suc count) ⊎ (get_or numbers pid 0 ≢ suc count)
        → (get_or numbers pid 0 ≤ count → group_of pid (groups_by count numbers)
        ≡ members_from 0 (get_or numbers pid 0) numbers)
        → group_of pid (groups_by (suc count) numbers)
        ≡ members_from 0 (get_or numbers pid 0) numbers
    by (inl same) rest =
        ap (λ is. if is then members_from 0 (suc count) numbers
        else group_of pid (groups_by count numbers)) (holds_it ∙ is_true _ _ same)
        ∙ sym (ap (λ number. members_from 0 number numbers) same)
    by (inr other) rest =
        ap (λ is. if is then members_from 0 (suc count) numbers
        else group_of pid (groups_by count numbers)) (holds_it ∙ is_false _ _ other)
        ∙ rest (omega (arith, within, other))

-- a pid with the number 0 is in no group
pub not_found : (pid count : ℕ) (numbers : List ℕ) → get_or numbers pid 0 ≡ 0
    → group_of pid (groups_by count numbers) ≡ []
not_found pid zero numbers none = refl
not_found pid (suc count) numbers none =
    ap (λ is. if is then members_from 0 (suc count) numbers
    else group_of pid (groups_by count numbers))
    (held 0 (suc count) pid pid numbers (omega arith) (omega arith)
    ∙ is_false _ _ (λ is. absurd (omega (arith, is, none))))
    ∙ not_found pid count numbers none
