-- What no rfork of a member makes, and no reason to refuse one: each against one row of what it
-- says.
use Rattle.std.proofs.Common.{◌≢◌}
use Rattle.std.specs.Prelude.{IsTrue}
use Rattle.sync_base.specs.Flags.{asks_child, asks_space}
use Rattle.sleep_wakeup.specs.Kernel.{Running, next_process}
use Rattle.tag_space.specs.declared.forking.SpentMember.{SpentMember}
use Rattle.tag_space.specs.Forks.{ComesBack, JoinsParent, MovesCaller, WhyNotForked}
use Rattle.plan9.specs.declared.rforking.ForkedMember.TheVariants.{Alone, Child, Apart, ChildApart}
use Rattle.plan9.specs.declared.rforking.UnforkedMember.{UnforkedMember}
use Rattle.plan9.specs.Memberships.{Hosting, Membered, IsFurtherMemberOf, IsNewSpaceFor}
use Rattle.plan9.specs.MemberForks.{ForksMember, IsUnforked, MemberFork, in_space}

-- ---- why nothing is made

module _ (call : MemberFork) (refused : UnforkedMember) where
  -- the call is refused for no reason
  a_call_is_refused_for_no_reason :
      ¬ WhyNotForked (in_space call) call.by.member refused.member.member refused.fault
      → ¬ IsUnforked call refused
  a_call_is_refused_for_no_reason none unforked = none unforked.why

  -- another member comes back, or one of another space
  back_in_another_space : refused.member.space ≢ call.by.space → ¬ IsUnforked call refused
  back_in_another_space other unforked = other unforked.space_is

  back_as_another_member :
      ¬ ComesBack (in_space call) call.by.member refused.member.member
      → ¬ IsUnforked call refused
  back_as_another_member other unforked = other unforked.member_is

-- ---- what is made

module _ (call : MemberFork) (member childs : Membered) (child : Running) where
  -- nothing is made, though a child or a space was asked for, or the member changes
  no_child_is_made : IsTrue (asks_child call.flags) → ¬ ForksMember call (Alone member)
  no_child_is_made asks alone = alone.no_child asks

  no_space_is_made : IsTrue (asks_space call.flags) → ¬ ForksMember call (Alone member)
  no_space_is_made asks alone = alone.no_space asks

  a_member_alone_changes : member ≢ call.by → ¬ ForksMember call (Alone member)
  a_member_alone_changes other alone = other alone.member_is

  -- a child is in its parent's space that was not asked to be, its parent is in another, it is
  -- another process, or its member is no further one
  a_child_joins_unasked : ¬ JoinsParent call.flags → ¬ ForksMember call (Child member child childs)
  a_child_joins_unasked unasked has = unasked has.joins

  a_parent_moves : member.space ≢ call.by.space → ¬ ForksMember call (Child member child childs)
  a_parent_moves other has = other has.space_is

  a_child_is_another : child ≢ next_process call.unused
      → ¬ ForksMember call (Child member child childs)
  a_child_is_another other has = other has.child_is

  a_child_has_no_further_member : ¬ IsFurtherMemberOf call.by member childs
      → ¬ ForksMember call (Child member child childs)
  a_child_has_no_further_member none has = none has.further

module _ (call : MemberFork) (member : Membered) (child : Running) (space : Hosting)
    (spent : SpentMember) where
  -- a caller moves that was not asked to, into no new space, or its member stays
  a_caller_moves_unasked : ¬ MovesCaller call.flags → ¬ ForksMember call (Apart space spent)
  a_caller_moves_unasked stays leaves = stays leaves.moves

  a_caller_moves_nowhere : ¬ IsNewSpaceFor call.unused call.by.space.procs space
      → ¬ ForksMember call (Apart space spent)
  a_caller_moves_nowhere none leaves = none leaves.space_is

  its_member_is_not_spent : spent.member ≢ call.by.member → ¬ ForksMember call (Apart space spent)
  its_member_is_not_spent other leaves = other leaves.spent_is

  -- a child is made that nobody asked for, or a space; its parent changes; it has no new space, or
  -- it is another process
  a_child_apart_unasked : ¬ IsTrue (asks_child call.flags)
      → ¬ ForksMember call (ChildApart member child space)
  a_child_apart_unasked unasked has = unasked has.child_asked

  a_space_unasked : ¬ IsTrue (asks_space call.flags)
      → ¬ ForksMember call (ChildApart member child space)
  a_space_unasked unasked has = unasked has.space_asked

  a_parent_changes : member ≢ call.by → ¬ ForksMember call (ChildApart member child space)
  a_parent_changes other has = other has.member_is

  a_child_has_no_new_space : ¬ IsNewSpaceFor call.unused call.by.space.procs space
      → ¬ ForksMember call (ChildApart member child space)
  a_child_has_no_new_space none has = none has.space_is

  a_child_apart_is_another : child ≢ next_process call.unused
      → ¬ ForksMember call (ChildApart member child space)
  a_child_apart_is_another other has = other has.child_is
