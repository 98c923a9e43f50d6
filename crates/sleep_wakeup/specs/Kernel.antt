-- What clauses see of a process, and of the roster that gives out pids and Rendez.
use Rattle.std.specs.Prelude.{◌≡◌, ◌≤◌, ◌<◌, ◌+◌, ℕ, Bool, if◌then◌else◌, List, [], length}
use Rattle.std.specs.Prelude.{Option, Some, None}
use Rattle.sync_base.specs.declared.ids.Pid.{Pid}
use Rattle.rendez_words.specs.declared.words.Words.{Words}
use Rattle.rendez_words.specs.Process.{Process, PidsLeft}
use Rattle.rendez_words.specs.Words.{IsProcessOf, ArePidsOf, table_of, procs_of, rendez_of}
use Rattle.rendez_words.specs.Words.{given_from, one_less}
use Rattle.sleep_wakeup.specs.Groups.{Membership, group_of, begins, follows, leaves}

-- a process of a kernel: the words on which it sleeps and wakes, its pid, and its own steps
pub record Running : Type 0 where
  pub words : Words
  pub process : Process

-- how many pids and Rendez there are, and which are the next
pub record Counts : Type 0 where
  pub procs : ℕ
  pub rendez : ℕ
  pub next_pid : ℕ
  pub next_rendez : ℕ

-- what a roster has left, the pids from the next pid on and the Rendez from this Rendez on, and the
-- note groups of the pids that it gave
pub record Unused : Type 0 where
  pub words : Words
  pub pids : PidsLeft
  pub rendez : ℕ
  pub groups : List (List ℕ)

-- the process of a seat, or none where the seat is away
abbrev pub process_in : Words → Option Process → Process
process_in words None = record { table = table_of words; pid = 0; trace = [] }
process_in words (Some process) = process

-- the seat is there, and is this process of these words
abbrev pub IsSeated : Words → Pid → Option Process → Type 0
IsSeated words pid None = ⊥
IsSeated words pid (Some process) = IsProcessOf words process × (process.pid ≡ pid.0)

-- the words have this many processes and Rendez
pub record HasSizes (words : Words) (procs rendez : ℕ) : Type 0 where
  pub procs_are : procs_of words ≡ procs
  pub rendez_are : rendez_of words ≡ rendez

-- the pids and Rendez that are left are those of these words, from these numbers on
pub record AreLeftOf (words : Words) (pids : PidsLeft) (left : Counts) : Type 0 where
  pub pids_are : ArePidsOf words pids
  pub next_is : pids.next ≡ left.next_pid
  pub rendez_in : left.next_rendez ≤ rendez_of words
  pub sizes : HasSizes words left.procs left.rendez

-- the groups are those of the pids that were given, with room for all pids
pub record AreGroupsOf (own : Membership) (left : Counts) : Type 0 where
  pub given_is : own.given ≡ left.next_pid
  pub room_is : own.room ≡ left.procs

-- a roster of these words: what is left, and the groups
pub record IsRoster (words : Words) (pids : PidsLeft) (own : Membership) (left : Counts)
    : Type 0 where
  pub left_is : AreLeftOf words pids left
  pub groups_are : AreGroupsOf own left

-- the next process, which has made no step
abbrev pub next_process : Unused → Running
next_process unused = record { words = unused.words; process = given_from unused.pids }

-- the groups with the next process in a group of its own, or in its parent's group
abbrev pub groups_with_next : ℕ → Bool → Unused → List (List ℕ)
groups_with_next parent apart unused =
    if apart then begins unused.pids.next unused.groups
    else follows parent unused.pids.next unused.groups

-- one pid fewer is left: a child of this parent has it
abbrev pub one_pid_less : ℕ → Bool → Unused → Unused
one_pid_less parent apart unused =
    record unused {
      pids = one_less unused.pids;
      groups = groups_with_next parent apart unused;
    }

-- the process has left its group, where a new group is asked for
abbrev pub regrouped : ℕ → Bool → Unused → Unused
regrouped pid apart unused =
    record unused { groups = if apart then leaves pid unused.groups else unused.groups }

-- a group holds this pid
abbrev pub HasGroup : Unused → ℕ → Type 0
HasGroup unused pid = 0 < length (group_of pid unused.groups)

-- this many Rendez fewer are left
abbrev pub rendez_less : ℕ → Unused → Unused
rendez_less count unused = record unused { rendez = unused.rendez + count }

-- at least this many Rendez are left
abbrev pub HasRendez : Unused → ℕ → Type 0
HasRendez unused count = unused.rendez + count ≤ rendez_of unused.words
