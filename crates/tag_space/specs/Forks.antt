-- What rfork does to tag spaces, after fork(2): a child is in its parent's space, but with RFREND
-- the child or, where there is no child, the caller is the first in a new space. RFNOTEG does the
-- same for note groups, independently.
use Rattle.std.specs.Prelude.{◌≡◌, ◌⊎◌, ⊤, ℕ, if◌then◌else◌, IsTrue, Option, Some, None}
use Rattle.kernel_lock.specs.Seats.{KnowsAllGiven}
use Rattle.sleep_wakeup.specs.Forks.{HasPid}
use Rattle.sleep_wakeup.specs.Kernel.{Running, Unused, HasRendez, next_process, one_pid_less}
use Rattle.sleep_wakeup.specs.Kernel.{rendez_less, regrouped}
use Rattle.sync_base.specs.declared.fault.Fault.{Fault}
use Rattle.sync_base.specs.declared.fault.Fault.TheVariants as fault
use Rattle.sync_base.specs.declared.flags.Flags.{Flags}
use Rattle.sync_base.specs.Flags.{AreKnown, asks_child, asks_group, asks_space}
use Rattle.tag_space.specs.declared.forking.SpentMember.{SpentMember}
use Rattle.tag_space.specs.declared.member.Member.{Member}
use Rattle.tag_space.specs.declared.space.TagSpace.{TagSpace}
use Rattle.tag_space.specs.Members.{IsMemberOf, IsSameMember}
use Rattle.tag_space.specs.Spaces.{IsNewSpace, IsFirstMember, IsFurtherMember}

-- a child and its member
abbrev pub Child : Type 0
Child = Running × Member

-- a pid is left, where one is asked for
abbrev pub MayHavePid : Unused → Flags → Type 0
MayHavePid unused flags = IsTrue (asks_child flags) → HasPid unused

-- a child was asked for, and a space of its own was not, so it joins its parent's
pub record JoinsParent (flags : Flags) : Type 0 where
  pub child : IsTrue (asks_child flags)
  pub no_space : ¬ IsTrue (asks_space flags)

-- a row for a new space was asked for, after a pid
pub record WantsRow (unused : Unused) (flags : Flags) : Type 0 where
  pub known : AreKnown flags
  pub pid : MayHavePid unused flags
  pub space : IsTrue (asks_space flags)

-- a pid was asked for, and no pid is left
pub record WantsPid (unused : Unused) (flags : Flags) : Type 0 where
  pub known : AreKnown flags
  pub child : IsTrue (asks_child flags)
  pub none : ¬ HasPid unused

-- a call of rfork(2): what is left when it comes, the caller's space, and the flags
pub record Rfork : Type 0 where
  pub unused : Unused
  pub space : TagSpace
  pub flags : Flags

-- the call with these arguments
abbrev pub rfork_of : Unused → TagSpace → Flags → Rfork
rfork_of unused space flags = record { unused = unused; space = space; flags = flags }

-- a member of the parent's space was asked for, and all were given
pub record WantsMember (rfork : Rfork) (before after : Member) : Type 0 where
  pub known : AreKnown rfork.flags
  pub joins : JoinsParent rfork.flags
  pub pid : HasPid rfork.unused
  pub all_given : KnowsAllGiven rfork.space.lock before.seat after.seat

-- Own: the flags are tested first, then the pid, the Rendez, the member, and then the memory.
abbrev pub WhyNotForked : Rfork → Member → Member → Fault → Type 0
WhyNotForked rfork before after fault.BadFlags = ¬ AreKnown rfork.flags
WhyNotForked rfork before after fault.NoProc =
    WantsPid rfork.unused rfork.flags ⊎ WantsMember rfork before after
WhyNotForked rfork before after fault.NoRendez =
    WantsRow rfork.unused rfork.flags × (¬ HasRendez rfork.unused rfork.space.procs)
WhyNotForked rfork before after fault.Memory =
    WantsRow rfork.unused rfork.flags × HasRendez rfork.unused rfork.space.procs
WhyNotForked rfork before after other = ⊥

-- A refusal hands the member back as it was; where all members were given, it knows that too.
abbrev pub ComesBack : Rfork → Member → Member → Type 0
ComesBack rfork before after = (after ≡ before) ⊎ WantsMember rfork before after

-- the caller's space after the call: a new one with RFREND alone, else its own
abbrev pub callers_space : Flags → TagSpace → Option TagSpace → TagSpace
callers_space flags old None = old
callers_space flags old (Some new) = if asks_child flags then old else new

-- the child's space: a new one with RFREND, else its parent's
abbrev pub childs_space : TagSpace → Option TagSpace → TagSpace
childs_space old None = old
childs_space old (Some new) = new

-- a new space of the same size is made if and only if RFREND is set
abbrev pub HasSpace : Unused → TagSpace → Flags → Option TagSpace → Type 0
HasSpace unused old flags None = ¬ IsTrue (asks_space flags)
HasSpace unused old flags (Some new) =
    IsTrue (asks_space flags) × IsNewSpace unused old.procs new

-- a child is made if and only if RFPROC is set: the next process, a member of its space
abbrev pub HasChild : Unused → TagSpace → Flags → Option Child → Type 0
HasChild unused space flags None = ¬ IsTrue (asks_child flags)
HasChild unused space flags (Some (proc, member)) =
    IsTrue (asks_child flags) × (proc ≡ next_process unused) × IsMemberOf space member

-- What is left: one row fewer where a space was made, one pid fewer where a child was made. With
-- RFNOTEG the child is in a note group of its own or, where there is no child, the caller is.
abbrev pub left_by : ℕ → Unused → TagSpace → Flags → Unused
left_by parent unused space flags =
    let rows = if asks_space flags then rendez_less space.procs unused else unused in
    if asks_child flags then one_pid_less parent (asks_group flags) rows
    else regrouped parent (asks_group flags) rows

-- with RFREND and no RFPROC the caller moves to the new space
pub record MovesCaller (flags : Flags) : Type 0 where
  pub space : IsTrue (asks_space flags)
  pub no_child : ¬ IsTrue (asks_child flags)

-- the caller has the member that it had, unless it moves
abbrev pub KeepsMember : Flags → Member → Member → Type 0
KeepsMember flags before after = ¬ MovesCaller flags → IsSameMember before after

-- no child gets a member of the caller's space, and the caller stays there
pub record LeavesMember (flags : Flags) : Type 0 where
  pub no_child : ¬ JoinsParent flags
  pub stays : ¬ MovesCaller flags

-- then the caller's member is as it was
abbrev pub IsUntouched : Flags → Member → Member → Type 0
IsUntouched flags before after = LeavesMember flags → after ≡ before

-- a child that joins its parent has a further member, which its parent's member gave, and it gave
-- nothing else
abbrev pub GivesMember : TagSpace → Flags → Member → Member → Option Child → Type 0
GivesMember space flags before after None = ¬ JoinsParent flags
GivesMember space flags before after (Some (proc, further)) =
    JoinsParent flags → IsFurtherMember space before after further

-- a caller that moves has spent its old member, which is as it was
abbrev pub HasSpent : Flags → Member → Option SpentMember → Type 0
HasSpent flags before None = ¬ MovesCaller flags
HasSpent flags before (Some spent) = MovesCaller flags × (spent.member ≡ before)

-- the first member of the new space is the child or, where there is no child, the caller
abbrev pub IsFirstThere : Option TagSpace → Member → Option Child → Type 0
IsFirstThere None member child = ⊤
IsFirstThere (Some new) member None = IsFirstMember new member
IsFirstThere (Some new) member (Some (proc, first)) = IsFirstMember new first
