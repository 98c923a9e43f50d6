-- What rfork(2) of a member does, after fork(2): what the rfork of its tag space does, said of
-- members that know their space.
use Rattle.std.specs.Prelude.{◌≡◌, IsTrue}
use Rattle.sync_base.specs.declared.flags.Flags.{Flags}
use Rattle.sync_base.specs.Flags.{asks_child, asks_space}
use Rattle.sleep_wakeup.specs.Kernel.{Running, Unused, next_process}
use Rattle.tag_space.specs.declared.forking.SpentMember.{SpentMember}
use Rattle.tag_space.specs.Forks.{ComesBack, JoinsParent, MovesCaller, Rfork, WhyNotForked}
use Rattle.tag_space.specs.Forks.{rfork_of}
use Rattle.plan9.specs.declared.rforking.ForkedMember.{ForkedMember}
use Rattle.plan9.specs.declared.rforking.ForkedMember.TheVariants.{Alone, Child, Apart, ChildApart}
use Rattle.plan9.specs.declared.rforking.UnforkedMember.{UnforkedMember}
use Rattle.plan9.specs.Memberships.{Hosting, Membered, IsFurtherMemberOf, IsNewSpaceFor}

-- a member's call of rfork(2): what is left when it comes, the member, and the flags
pub record MemberFork : Type 0 where
  pub unused : Unused
  pub by : Membered
  pub flags : Flags

-- the call with these arguments
abbrev pub member_fork : Unused → Membered → Flags → MemberFork
member_fork unused by flags = record { unused = unused; by = by; flags = flags }

-- the call of its tag space
abbrev pub in_space : MemberFork → Rfork
in_space call = rfork_of call.unused call.by.space call.flags

-- the space refuses the call, and the member that comes back is the one that called, as it was,
-- except that it may know that all members were given
pub record IsUnforked (call : MemberFork) (refused : UnforkedMember) : Type 0 where
  pub why : WhyNotForked (in_space call) call.by.member refused.member.member refused.fault
  pub space_is : refused.member.space ≡ call.by.space
  pub member_is : ComesBack (in_space call) call.by.member refused.member.member

-- neither a child nor a space was asked for, and the member is as it was
pub record StaysAlone (call : MemberFork) (member : Membered) : Type 0 where
  pub no_child : ¬ IsTrue (asks_child call.flags)
  pub no_space : ¬ IsTrue (asks_space call.flags)
  pub member_is : member ≡ call.by

-- the next process of the roster is the child, with a further member of its parent's space
pub record HasChild (call : MemberFork) (member : Membered) (child : Running) (childs : Membered) :
    Type 0 where
  pub joins : JoinsParent call.flags
  pub space_is : member.space ≡ call.by.space
  pub child_is : child ≡ next_process call.unused
  pub further : IsFurtherMemberOf call.by member childs

-- the caller has left its space: it is to be the first of a new one of the same size, and its
-- member is spent
pub record LeavesSpace (call : MemberFork) (space : Hosting) (spent : SpentMember) : Type 0 where
  pub moves : MovesCaller call.flags
  pub space_is : IsNewSpaceFor call.unused call.by.space.procs space
  pub spent_is : spent.member ≡ call.by.member

-- the next process of the roster is the child, which is to be the first of a new space of the same
-- size, and the member is as it was
pub record HasChildApart (call : MemberFork) (member : Membered) (child : Running)
    (space : Hosting) : Type 0 where
  pub child_asked : IsTrue (asks_child call.flags)
  pub space_asked : IsTrue (asks_space call.flags)
  pub member_is : member ≡ call.by
  pub child_is : child ≡ next_process call.unused
  pub space_is : IsNewSpaceFor call.unused call.by.space.procs space

-- By the flags: which process is in which space.
abbrev pub ForksMember : MemberFork → ForkedMember → Type 0
ForksMember call (Alone member) = StaysAlone call member
ForksMember call (Child member child childs) = HasChild call member child childs
ForksMember call (Apart space spent) = LeavesSpace call space spent
ForksMember call (ChildApart member child space) = HasChildApart call member child space
