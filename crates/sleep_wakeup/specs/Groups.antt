-- Note groups, after fork(2): each process is in one group, a child in its parent's. With RFNOTEG a
-- child or, without RFPROC, the caller is the first of a new group. A note to a group comes to each
-- process in it.
use Rattle.std.specs.Prelude.{◌≡◌, ℕ, zero, suc, ◌+◌, ◌<◌, ◌≤◌, ◌==◌, ◌||◌, Bool, false}
use Rattle.std.specs.Prelude.{if◌then◌else◌, List, [], ◌∷◌, ◌++◌, length, get_or, nat_lt, ⊤}
use Rattle.sync_base.specs.declared.note.NoteSet.{NoteSet}
use Rattle.rendez_words.specs.Process.{Process}
use Rattle.rendez_words.specs.Steps.{notes}

-- the group holds this pid
abbrev pub holds : ℕ → List ℕ → Bool
holds pid [] = false
holds pid (member ∷ group) = (member == pid) || holds pid group

-- the group that holds this pid; an empty group where no group holds it
abbrev pub group_of : ℕ → List (List ℕ) → List ℕ
group_of pid [] = []
group_of pid (group ∷ groups) = if holds pid group then group else group_of pid groups

-- the group without this pid
abbrev pub without : ℕ → List ℕ → List ℕ
without pid [] = []
without pid (member ∷ group) =
    if member == pid then without pid group else member ∷ without pid group

-- a kernel begins with one group, of its first process
abbrev pub first_group : List (List ℕ)
first_group = (0 ∷ []) ∷ []

-- this process alone in a new group
abbrev pub begins : ℕ → List (List ℕ) → List (List ℕ)
begins pid groups = (pid ∷ []) ∷ groups

-- a child in the group that holds its parent
abbrev pub joins : ℕ → ℕ → List (List ℕ) → List (List ℕ)
joins parent child [] = []
joins parent child (group ∷ groups) =
    (if holds parent group then group ++ child ∷ [] else group) ∷ joins parent child groups

-- the process out of every group
abbrev pub parts : ℕ → List (List ℕ) → List (List ℕ)
parts pid [] = []
parts pid (group ∷ groups) = without pid group ∷ parts pid groups

-- others are in its group
abbrev pub has_company : ℕ → List (List ℕ) → Bool
has_company pid groups = nat_lt 1 (length (group_of pid groups))

-- the process leaves its group for a group of its own; a process that is alone has one already
abbrev pub leaves : ℕ → List (List ℕ) → List (List ℕ)
leaves pid groups = if has_company pid groups then begins pid (parts pid groups) else groups

-- a child joins its parent's group; where the parent is in no group, since its pid was not given,
-- the child begins a group
abbrev pub follows : ℕ → ℕ → List (List ℕ) → List (List ℕ)
follows parent child groups =
    if nat_lt 0 (length (group_of parent groups)) then joins parent child groups
    else begins child groups

-- how often the pid is in a group, and in all groups
abbrev pub times_in : ℕ → List ℕ → ℕ
times_in pid [] = 0
times_in pid (member ∷ group) = (if member == pid then 1 else 0) + times_in pid group

abbrev pub times : ℕ → List (List ℕ) → ℕ
times pid [] = 0
times pid (group ∷ groups) = times_in pid group + times pid groups

-- the pids of a group rise, from this one on
abbrev pub RisesFrom : ℕ → List ℕ → Type 0
RisesFrom least [] = ⊤
RisesFrom least (member ∷ group) = (least ≤ member) × RisesFrom (member + 1) group

abbrev pub EachRises : List (List ℕ) → Type 0
EachRises [] = ⊤
EachRises (group ∷ groups) = RisesFrom 0 group × EachRises groups

-- Disjoint groups, which together are the pids below this number: each pid is in one group, once.
pub record AreGroups (groups : List (List ℕ)) (given : ℕ) : Type 0 where
  pub rise : EachRises groups
  pub once : (pid : ℕ) → times pid groups ≡ (if nat_lt pid given then 1 else 0)

-- the process posted the notes to each of these pids, one after the other
abbrev pub notes_each : Process → List ℕ → NoteSet → Process
notes_each process [] set = process
notes_each process (pid ∷ group) set = notes_each (notes process (record { 0 = pid }) set) group set

-- ---- of the numbers that the code keeps

-- the pids, from this pid on, whose group has this number
abbrev pub members_from : ℕ → ℕ → List ℕ → List ℕ
members_from pid number [] = []
members_from pid number (own ∷ numbers) =
    if own == number then pid ∷ members_from (pid + 1) number numbers
    else members_from (pid + 1) number numbers

-- the groups with the numbers from 1 to this one, the last one first
abbrev pub groups_by : ℕ → List ℕ → List (List ℕ)
groups_by zero numbers = []
groups_by (suc count) numbers = members_from 0 (suc count) numbers ∷ groups_by count numbers

-- Each pid that was given has the number of a group, the other pids have 0, and no group is empty.
pub record AreNumbers (numbers : List ℕ) (count given : ℕ) : Type 0 where
  pub some : 1 ≤ given
  pub room : given ≤ length numbers
  pub numbered : (pid : ℕ) → pid < given
      → (1 ≤ get_or numbers pid 0) × (get_or numbers pid 0 ≤ count)
  pub not_given : (pid : ℕ) → given ≤ pid → get_or numbers pid 0 ≡ 0
  pub none_empty : (number : ℕ) → 1 ≤ number → number ≤ count
      → 1 ≤ length (members_from 0 number numbers)

-- the groups, how many pids they hold, and how many pids they have room for
pub record Membership : Type 0 where
  pub groups : List (List ℕ)
  pub given : ℕ
  pub room : ℕ
