-- What is no tag space, no member of one and no reason to refuse one, and what no call of a member
-- does: each against one row of what the calls of a space say.
use Rattle.std.proofs.Common.{◌≡◌, ◌≢◌, ◌<◌, ℕ, [], ◌∷◌, ap, arith, inl, inr, refl, Some, None}
use Rattle.std.proofs.Common.{Result}
use Rattle.kernel_lock.specs.Seats.{given_of, limit_of}
use Rattle.sleep_wakeup.specs.Kernel.{Running, Unused}
use Rattle.sync_base.specs.declared.fault.Fault.{Fault}
use Rattle.sync_base.specs.declared.fault.Fault.TheVariants as fault
use Rattle.tag_space.specs.declared.member.Member.{Member}
use Rattle.tag_space.specs.declared.space.TagSpace.{TagSpace}
use Rattle.tag_space.specs.Asking.{Meets, MeetsBy, RendezvousesInWords, meeting}
use Rattle.tag_space.specs.Members.{IsMemberOf, number_of, party_of}
use Rattle.tag_space.specs.Members as members
use Rattle.tag_space.specs.Outcome.{Exchange}
use Rattle.tag_space.specs.Rendezvous.{Offered}
use Rattle.tag_space.specs.Spaces.{IsFirstMember, IsFurtherMember, IsNewSpace}
use Rattle.waiting.specs.Runners.{IsACall, run_point}
use Rattle.waiting.specs.Waiting.{point}
use Rattle.plan9.specs.Memberships.{Calling, Hosting, Membered, IsFirstOf, IsFurtherMemberOf}
use Rattle.plan9.specs.Memberships.{IsNewSpaceFor, IsSame, IsSpareMember, SpaceEndsBefore}
use Rattle.plan9.specs.Memberships.{AreMembers, GivesAnother, KnowsNoMember, MayGive}
use Rattle.plan9.specs.Memberships.{MeetsInWords, MeetsOnce, MeetsUntil, WatchedCall}
use Rattle.plan9.specs.Memberships.{WhyNoMembers, calls}
use Rattle.plan9.specs.Watches.{until}

-- ---- a space, and its first member

module _ (space : TagSpace) (member : Member) where
  -- a member is spare that is one of another space, and a row begins elsewhere or is shorter
  a_member_of_another_space : ¬ IsMemberOf space member → ¬ IsSpareMember space (Some member)
  a_member_of_another_space other spare = other spare

  a_space_of_another_row : space.first.0 ≡ 4 → space.procs ≡ 2 → ¬ SpaceEndsBefore space 5
  a_space_of_another_row first procs row = omega (arith, first, procs, row)

  a_space_of_fewer : space.first.0 ≡ 3 → space.procs ≡ 1 → ¬ SpaceEndsBefore space 5
  a_space_of_fewer first procs row = omega (arith, first, procs, row)

module _ (hosting : Hosting) (membered : Membered) where
  -- somebody has the first member of a new space; or the space is not new, or has another size; or
  -- the spare member is not its first
  first_member_is_gone : (roster : Unused) → hosting.spare ≡ None
      → ¬ IsNewSpaceFor roster 2 hosting
  first_member_is_gone roster none (opened, (member, first, spare)) = cc

  a_space_that_is_not_new : (roster : Unused) → ¬ IsNewSpace roster 2 hosting.space
      → ¬ IsNewSpaceFor roster 2 hosting
  a_space_that_is_not_new roster old (opened, (member, first, spare)) = old opened

  a_spare_member_that_is_not_first : (roster : Unused)
      → ((member : Member) → ¬ IsFirstMember hosting.space member)
      → ¬ IsNewSpaceFor roster 2 hosting
  a_spare_member_that_is_not_first roster none (opened, (member, first, spare)) = none member first

  -- the first member is in another space, is another, or was somebody's before
  first_elsewhere : membered.space ≢ hosting.space → ¬ IsFirstOf hosting membered
  first_elsewhere other first = other first.space_is

  first_as_another : (member : Member) → hosting.spare ≡ Some member → membered.member ≢ member
      → ¬ IsFirstOf hosting membered
  first_as_another member spare other first = let is = first.member_is in other (cc)

  first_where_somebody_was : hosting.spare ≡ None → ¬ IsFirstOf hosting membered
  first_where_somebody_was none first = let member = first.member_is in cc

-- ---- who calls, and a further member

module _ (old new child : Membered) where
  -- a call moves to another space, or to another member
  call_elsewhere : new.space ≢ old.space → ¬ IsSame old new
  call_elsewhere other same = other same.space_is

  call_as_another_member : number_of new.member ≢ number_of old.member → ¬ IsSame old new
  call_as_another_member other same = other same.member_is.number

  call_at_another_rendez : new.member.rendez ≢ old.member.rendez → ¬ IsSame old new
  call_at_another_rendez other same = other same.member_is.rendez

  -- a further member is in another space, is no further one, or is the one that gave it
  further_elsewhere : child.space ≢ old.space → ¬ IsFurtherMemberOf old new child
  further_elsewhere other further = other further.space_is

  further_and_not_given : ¬ IsFurtherMember old.space old.member new.member child.member
      → ¬ IsFurtherMemberOf old new child
  further_and_not_given none further = none further.further

  further_as_its_giver : number_of child.member ≡ number_of old.member
      → ¬ IsFurtherMemberOf old new child
  further_as_its_giver same further =
      let above = further.further.above in omega (arith, same, above)

  -- all members were given, and the one that asked does not know it
  nobody_knows : given_of new.member.seat < limit_of old.space.lock → ¬ KnowsNoMember old new
  nobody_knows fewer knows =
      let given = ap (λ view. view.given) knows.same in omega (arith, fewer, given)

  -- who asked and was refused has called meanwhile
  it_called_meanwhile : members.seen_of new.member ≢ members.seen_of old.member
      → ¬ KnowsNoMember old new
  it_called_meanwhile other knows = other (ap (λ view. view.account.seen) knows.same)

-- ---- many at once

module _ (old new child : Membered) where
  -- a member that gives another is another then, or gives none
  given_by_another_member : ¬ IsSame old new → ¬ GivesAnother old new child
  given_by_another_member other gives = other gives.same

  given_and_not_further : ¬ IsFurtherMemberOf old new child → ¬ GivesAnother old new child
  given_and_not_further none gives = none gives.further

module _ (hosting : Hosting) (membered : Membered) where
  -- the first of them is not the space's first
  the_first_is_another : ((first : Membered) → ¬ IsFirstOf hosting first)
      → ¬ AreMembers hosting 1 (membered ∷ [])
  the_first_is_another none are = none are.first are.first_is

  -- nobody may have none, or more than there are
  no_member_is_no_member : ¬ MayGive hosting 0
  no_member_is_no_member may = let one = may.one in omega (arith, one)

  three_of_two_members : hosting.space.procs ≡ 2 → ¬ MayGive hosting 3
  three_of_two_members two may = let within = may.within in omega (arith, two, within)

  -- so many are refused as too many though the first is there and none was refused; for want of
  -- memory though they are too many; and there is no other reason
  refused_though_all_are_there : MayGive hosting 1 → hosting.spare ≢ None
      → ¬ WhyNoMembers hosting 1 fault.NoProc
  refused_though_all_are_there may there (inl many) = many may
  refused_though_all_are_there may there (inr (again, inl none)) = there none
  refused_though_all_are_there may there (inr (again, inr out)) =
      let fewer = out.fewer in omega (arith, fewer)

  no_memory_excuses_the_count : ¬ MayGive hosting 3 → ¬ WhyNoMembers hosting 3 fault.Memory
  no_memory_excuses_the_count many may = many may

  no_members_for_a_bad_argument : ¬ WhyNoMembers hosting 3 fault.BadArg
  no_members_for_a_bad_argument why = why

-- ---- what a call does

-- who calls is the member, and the process that it is lent
a_call_stands : (by : Membered) (proc : Running)
    → calls by proc ≡ record { by = by; proc = proc }
a_call_stands by proc = refl

module _ (offered : Offered) (old new : Calling) (answer : Result ℕ Fault) where
  -- a call is not the one that was asked for, or is two; or its process waits otherwise
  another_exchange :
      ¬ Exchange (party_of old.by.space old.by.member) offered (members.seen_of old.by.member)
      (members.seen_of new.by.member) answer
      → ¬ MeetsOnce offered old answer new
  another_exchange none meets = none meets.exchange

  another_wait :
      ¬ Meets old.by.space offered (point old.by.member old.proc) answer
      (point new.by.member new.proc)
      → ¬ MeetsOnce offered old answer new
  another_wait none meets = none meets.waited

  -- a word is another
  another_word :
      ¬ RendezvousesInWords old.by.space offered (point old.by.member old.proc) answer
      (point new.by.member new.proc)
      → ¬ MeetsInWords offered old answer new
  another_word none meets = none meets

module _ (offered : Offered) (moment : ℕ) (old new : WatchedCall) (answer : Result ℕ Fault) where
  -- until a moment: the same two, and it is no call
  another_exchange_until :
      ¬ Exchange (party_of old.by.space old.by.member) offered (members.seen_of old.by.member)
      (members.seen_of new.by.member) answer
      → ¬ MeetsUntil offered moment old answer new
  another_exchange_until none meets = none meets.exchange

  another_wait_until :
      ¬ MeetsBy (until old.watch moment) old.by.space offered
      (run_point old.by.member old.watch.seat old.proc) answer
      (run_point new.by.member new.watch.seat new.proc)
      → ¬ MeetsUntil offered moment old answer new
  another_wait_until none meets = none meets.waited

  no_call_until :
      ¬ IsACall (meeting old.by.space offered) old.by.member.rendez
      (point old.by.member old.proc) answer (point new.by.member new.proc)
      → ¬ MeetsUntil offered moment old answer new
  no_call_until none meets = none meets.is_call
