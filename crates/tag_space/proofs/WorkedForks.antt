-- What rfork does by its flags, computed; and what no rfork does to spaces and members, each
-- against one row of what they say.
use Rattle.std.proofs.Common.{◌≡◌, ◌≢◌, ◌<◌, ℕ, Some, None, inl, inr, length, ap, arith, refl}
use Rattle.std.proofs.Common.{List, [], ◌∷◌, sym, ◌∙◌}
use Rattle.std.specs.Prelude.{IsTrue}
use Rattle.std.proofs.lemmas.Bool.{false≢true}
use Rattle.histories.specs.declared.account.Account.{Account}
use Rattle.kernel_lock.specs.Seats.{KnowsAllGiven, account_of, gave_of, given_of, limit_of}
use Rattle.sleep_wakeup.specs.Forks.{HasPid}
use Rattle.sleep_wakeup.specs.Groups.{begins, follows, leaves}
use Rattle.sync_base.specs.declared.fault.Fault.TheVariants as fault
use Rattle.sync_base.specs.declared.flags.Flags.{Flags}
use Rattle.sleep_wakeup.specs.Kernel.{Running, Unused, HasRendez, next_process}
use Rattle.tag_space.specs.declared.forking.SpentMember.{SpentMember}
use Rattle.tag_space.specs.declared.member.Member.{Member}
use Rattle.tag_space.specs.declared.space.TagSpace.{TagSpace}
use Rattle.tag_space.specs.Members.{OwnsRow, IsMemberOf, number_of, seen_of}
use Rattle.tag_space.specs.Outcome.{calls_by}
use Rattle.tag_space.specs.Rendezvous.{Entry}
use Rattle.tag_space.specs.Spaces.{IsNewSpace, IsFirstMember, IsFurtherMember}
use Rattle.sync_base.specs.Flags.{AreKnown, asks_child, asks_space}
use Rattle.tag_space.specs.Forks.{WantsMember, rfork_of}
use Rattle.tag_space.specs.Forks.{WhyNotForked, JoinsParent, ComesBack, HasSpace, HasChild}
use Rattle.tag_space.specs.Forks.{MovesCaller, KeepsMember, LeavesMember, IsUntouched, GivesMember}
use Rattle.tag_space.specs.Forks.{HasSpent, IsFirstThere, callers_space, childs_space, left_by}
use Rattle.tag_space.proofs.WorkedSpaces.{offer}

-- ---- what each flag may do

-- the flags with these bits
abbrev flags_of : ℕ → Flags
flags_of bits = record { bits = bits }

-- who is in which note group afterwards
module _ (unused : Unused) (space : TagSpace) where
  a_child_joins_its_parents_group : (left_by 0 unused space (flags_of 1)).groups
      ≡ follows 0 unused.pids.next unused.groups
  a_child_joins_its_parents_group = refl

  a_child_in_a_new_space_begins_one : (left_by 0 unused space (flags_of 7)).groups
      ≡ begins unused.pids.next unused.groups
  a_child_in_a_new_space_begins_one = refl

  a_caller_alone_leaves_its_group : (left_by 0 unused space (flags_of 4)).groups
      ≡ leaves 0 unused.groups
  a_caller_alone_leaves_its_group = refl

  a_caller_of_rfrend_stays_in_it : (left_by 0 unused space (flags_of 2)).groups ≡ unused.groups
  a_caller_of_rfrend_stays_in_it = refl

module _ (old new : TagSpace) where
  with_rfrend_alone_the_caller_moves : callers_space (flags_of 2) old (Some new) ≡ new
  with_rfrend_alone_the_caller_moves = refl

  with_a_child_the_caller_stays : callers_space (flags_of 3) old (Some new) ≡ old
  with_a_child_the_caller_stays = refl

  without_rfrend_the_caller_stays : callers_space (flags_of 1) old None ≡ old
  without_rfrend_the_caller_stays = refl

  with_rfrend_the_child_moves : childs_space old (Some new) ≡ new
  with_rfrend_the_child_moves = refl

  without_rfrend_the_child_is_its_parents : childs_space old None ≡ old
  without_rfrend_the_child_is_its_parents = refl

-- ---- what rfork does to its caller's member

rfproc_alone_joins_its_parent : JoinsParent (flags_of 1)
rfproc_alone_joins_its_parent = record { child = refl; no_space = false≢true }

-- no other flags do
no_flag_joins_nobody : JoinsParent (flags_of 0) → ⊥
no_flag_joins_nobody joins = false≢true joins.child

both_join_nobody : JoinsParent (flags_of 3) → ⊥
both_join_nobody joins = joins.no_space refl

-- without flags, and with both, the member is let alone
no_flag_leaves_the_member : LeavesMember (flags_of 0)
no_flag_leaves_the_member =
    record { no_child = no_flag_joins_nobody; stays = λ moves. false≢true moves.space }

both_leave_the_member : LeavesMember (flags_of 3)
both_leave_the_member =
    record { no_child = both_join_nobody; stays = λ moves. moves.no_child refl }

-- with RFREND alone the caller moves, and so it does with RFNOTEG beside
rfrend_moves_the_caller : MovesCaller (flags_of 2)
rfrend_moves_the_caller = record { space = refl; no_child = false≢true }

rfnoteg_lets_it_move : MovesCaller (flags_of 6)
rfnoteg_lets_it_move = record { space = refl; no_child = false≢true }

a_child_lets_it_stay : MovesCaller (flags_of 3) → ⊥
a_child_lets_it_stay moves = moves.no_child refl

rfnoteg_alone_moves_nobody : MovesCaller (flags_of 4) → ⊥
rfnoteg_alone_moves_nobody moves = false≢true moves.space

module _ (unused : Unused) (space : TagSpace) (before after : Member) where
  -- RFREND alone needs no pid: it is refused where no row is left
  rfrend_finds_no_row : (HasRendez unused space.procs → ⊥)
      → WhyNotForked (rfork_of unused space (flags_of 2)) before after fault.NoRendez
  rfrend_finds_no_row none =
      (record { known = omega arith; pid = λ asked. absurd (false≢true asked); space = refl }, none)

module _ (before after : Member) where
  -- RFPROC spends nothing, and RFREND alone does, so that the caller may have any other
  rfproc_spends_nothing : HasSpent (flags_of 1) before None
  rfproc_spends_nothing moves = false≢true moves.space

  rfrend_may_change_the_member : KeepsMember (flags_of 2) before after
  rfrend_may_change_the_member stays = absurd (stays rfrend_moves_the_caller)

-- ---- why nothing is made

-- all members were given, and the one that asked does not know it
nobody_knows : (space : TagSpace) (before after : Member)
    → given_of after.seat < limit_of space.lock
    → KnowsAllGiven space.lock before.seat after.seat → ⊥
nobody_knows space before after fewer knows =
    let given = ap (λ view. view.given) knows.same in omega (arith, fewer, given)

module _ (unused : Unused) (space : TagSpace) (flags : Flags) (before after : Member) where
  -- flags are refused that are known
  known_flags_are_bad : AreKnown flags
      → WhyNotForked (rfork_of unused space flags) before after fault.BadFlags → ⊥
  known_flags_are_bad known why = why known

  -- a row is asked for with unknown flags, where none was asked for, before a pid, or is there
  a_row_for_unknown_flags : (AreKnown flags → ⊥)
      → WhyNotForked (rfork_of unused space flags) before after fault.NoRendez → ⊥
  a_row_for_unknown_flags unknown (wants, none) = unknown wants.known

  a_row_for_no_space : (IsTrue (asks_space flags) → ⊥)
      → WhyNotForked (rfork_of unused space flags) before after fault.NoRendez → ⊥
  a_row_for_no_space unasked (wants, none) = unasked wants.space

  a_row_before_a_pid : IsTrue (asks_child flags) → (HasPid unused → ⊥)
      → WhyNotForked (rfork_of unused space flags) before after fault.NoRendez → ⊥
  a_row_before_a_pid child no_pid (wants, none) = no_pid (wants.pid child)

  a_row_that_is_left : HasRendez unused space.procs
      → WhyNotForked (rfork_of unused space flags) before after fault.NoRendez → ⊥
  a_row_that_is_left left (wants, none) = none left

  -- memory is refused before a row
  memory_before_a_row : (HasRendez unused space.procs → ⊥)
      → WhyNotForked (rfork_of unused space flags) before after fault.Memory → ⊥
  memory_before_a_row none (wants, left) = none left

  -- a pid, or a member, is refused that nobody asked for, or that is left
  no_child_was_asked_for : (IsTrue (asks_child flags) → ⊥)
      → WhyNotForked (rfork_of unused space flags) before after fault.NoProc → ⊥
  no_child_was_asked_for unasked (inl wants) = unasked wants.child
  no_child_was_asked_for unasked (inr wants) = unasked wants.joins.child

  -- a pid, or a member, is asked for with unknown flags
  a_child_for_unknown_flags : (AreKnown flags → ⊥)
      → WhyNotForked (rfork_of unused space flags) before after fault.NoProc → ⊥
  a_child_for_unknown_flags unknown (inl wants) = unknown wants.known
  a_child_for_unknown_flags unknown (inr wants) = unknown wants.known

  a_pid_and_a_member_are_left : HasPid unused → given_of after.seat < limit_of space.lock
      → WhyNotForked (rfork_of unused space flags) before after fault.NoProc → ⊥
  a_pid_and_a_member_are_left pid fewer (inl wants) = wants.none pid
  a_pid_and_a_member_are_left pid fewer (inr wants) =
      nobody_knows space before after fewer wants.all_given

  -- a member is asked for with unknown flags, or before a pid
  a_member_for_unknown_flags : (AreKnown flags → ⊥)
      → WantsMember (rfork_of unused space flags) before after → ⊥
  a_member_for_unknown_flags unknown wants = unknown wants.known

  a_member_before_a_pid : (HasPid unused → ⊥)
      → WantsMember (rfork_of unused space flags) before after → ⊥
  a_member_before_a_pid none wants = none wants.pid

  -- a refused member comes back as another, while a member is left
  another_comes_back : after ≢ before → given_of after.seat < limit_of space.lock
      → ComesBack (rfork_of unused space flags) before after → ⊥
  another_comes_back other fewer (inl same) = other same
  another_comes_back other fewer (inr wants) =
      nobody_knows space before after fewer wants.all_given

-- ---- spaces

module _ (unused : Unused) (old new : TagSpace) (flags : Flags) where
  -- a space that was asked for is not made, or one is made that nobody asked for
  no_space_is_made : IsTrue (asks_space flags) → HasSpace unused old flags None → ⊥
  no_space_is_made asked none = none asked

  a_space_unasked : (IsTrue (asks_space flags) → ⊥) → HasSpace unused old flags (Some new) → ⊥
  a_space_unasked unasked (asked, is_new) = unasked asked

  -- it has another size, another row than the next one, or one that the kernel has not
  a_space_of_another_size : new.procs ≢ old.procs → HasSpace unused old flags (Some new) → ⊥
  a_space_of_another_size other (asked, is_new) = other is_new.procs_are

  a_space_in_a_row_that_was_given : new.first.0 ≢ unused.rendez → IsNewSpace unused old.procs new
      → ⊥
  a_space_in_a_row_that_was_given other is_new = other is_new.first_is

  a_space_in_no_row : (OwnsRow new unused.words → ⊥) → IsNewSpace unused old.procs new → ⊥
  a_space_in_no_row none is_new = none is_new.row

-- ---- who is made

module _ (unused : Unused) (space : TagSpace) (flags : Flags) (proc : Running) (own : Member) where
  -- a child that was asked for is not made, or one is that nobody asked for
  no_child_is_made : IsTrue (asks_child flags) → HasChild unused space flags None → ⊥
  no_child_is_made asked none = none asked

  a_child_unasked : (IsTrue (asks_child flags) → ⊥)
      → HasChild unused space flags (Some (proc, own)) → ⊥
  a_child_unasked unasked (asked, is_next, is_member) = unasked asked

  -- it is another process than the next one, or a member of another space
  a_child_of_another_pid : proc ≢ next_process unused
      → HasChild unused space flags (Some (proc, own)) → ⊥
  a_child_of_another_pid other (asked, is_next, is_member) = other is_next

  a_child_of_another_space : (IsMemberOf space own → ⊥)
      → HasChild unused space flags (Some (proc, own)) → ⊥
  a_child_of_another_space other (asked, is_next, is_member) = other is_member

-- ---- the caller's member

module _ (flags : Flags) (before after own : Member) (proc : Running) (spent : SpentMember) where
  -- a caller that stays gets another member's number, or one that no child needs is touched
  another_member_is_kept : (MovesCaller flags → ⊥) → number_of after ≢ number_of before
      → KeepsMember flags before after → ⊥
  another_member_is_kept stays other keeps = other (keeps stays).number

  a_member_is_touched : LeavesMember flags → after ≢ before → IsUntouched flags before after → ⊥
  a_member_is_touched leaves other untouched = other (untouched leaves)

  a_child_that_joins_leaves_it : JoinsParent flags → LeavesMember flags → ⊥
  a_child_that_joins_leaves_it joins leaves = leaves.no_child joins

  a_caller_that_moves_leaves_it : MovesCaller flags → LeavesMember flags → ⊥
  a_caller_that_moves_leaves_it moves leaves = leaves.stays moves

  -- a child that joins is given no member, or its parent's
  no_member_is_given : (space : TagSpace) → JoinsParent flags
      → GivesMember space flags before after None → ⊥
  no_member_is_given space joins none = none joins

  its_parents_member : (space : TagSpace) → JoinsParent flags
      → number_of own ≡ number_of before
      → GivesMember space flags before after (Some (proc, own)) → ⊥
  its_parents_member space joins same gives =
      let above = (gives joins).above in omega (arith, same, above)

  -- a caller that moves spends nothing or another member, or one that stays spends its own
  nothing_is_spent : MovesCaller flags → HasSpent flags before None → ⊥
  nothing_is_spent moves none = none moves

  it_is_spent_and_kept : (MovesCaller flags → ⊥) → HasSpent flags before (Some spent) → ⊥
  it_is_spent_and_kept stays (moves, same) = stays moves

  another_is_spent : spent.member ≢ before → HasSpent flags before (Some spent) → ⊥
  another_is_spent other (moves, same) = other same

-- ---- a further member

module _ (space : TagSpace) (before after further : Member) where
  -- it has called nobody
  a_child_has_called : calls_by (number_of further) (seen_of further) ≡ offer 0 1 7 5 ∷ []
      → IsFurtherMember space before after further → ⊥
  a_child_has_called calls is = let none = sym is.no_calls ∙ calls in cc

  -- the one that gave it gave one number more and no other
  a_number_too_many : (one other : ℕ) (gave : List ℕ)
      → gave_of before.seat ≡ gave → gave_of after.seat ≡ one ∷ other ∷ gave
      → IsFurtherMember space before after further → ⊥
  a_number_too_many one other gave then now is =
      let gives = ap (λ (a : Account Entry). a.gave) is.given.account.parent_is in
      let both : one ∷ other ∷ gave ≡ number_of_child is ∷ gave =
      sym now ∙ gives ∙ ap (λ (ns : List ℕ). number_of_child is ∷ ns) then in
      let lengths : length (one ∷ other ∷ gave) ≡ length (number_of_child is ∷ gave) =
      ap length both in
      omega (arith, lengths)
    where
      number_of_child : IsFurtherMember space before after further → ℕ
      number_of_child is = (account_of further.seat).number

-- ---- who is first

module _ (new : TagSpace) (member : Member) (proc : Running) (own : Member) where
  -- the first of a new space gave a member, or is no member of it
  the_first_gave_one : length (gave_of member.seat) ≡ 1 → IsFirstMember new member → ⊥
  the_first_gave_one one first =
      let gave = ap (λ account. length account.gave) first.first.account in
      omega (arith, one, gave)

  the_first_is_none_of_it : (IsMemberOf new member → ⊥) → IsFirstMember new member → ⊥
  the_first_is_none_of_it other first = other first.member_of

  -- with no child the caller is first, and else the child
  the_caller_is_not_first : (IsFirstMember new member → ⊥) → IsFirstThere (Some new) member None → ⊥
  the_caller_is_not_first other first = other first

  the_child_is_not_first : (IsFirstMember new own → ⊥)
      → IsFirstThere (Some new) member (Some (proc, own)) → ⊥
  the_child_is_not_first other first = other first
