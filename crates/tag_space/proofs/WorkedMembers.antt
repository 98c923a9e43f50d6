-- What a member has and keeps, what a joined member knows, and why no space is made, each against
-- one row.
use Rattle.std.proofs.Common.{◌≡◌, ◌≢◌, ◌<◌, ◌+◌, ℕ, List, [], ◌∷◌, ◌++◌, refl, sym, ap, ◌∙◌, arith}
use Rattle.std.specs.Prelude.{max}
use Rattle.histories.specs.Account.{KnowsHistory}
use Rattle.kernel_lock.specs.Seats.{given_of, IsSeatOf}
use Rattle.rendez_words.specs.declared.words.Words.{Words}
use Rattle.rendez_words.specs.Words.{rendez_of}
use Rattle.sleep_core.specs.Limits.{IsProcCount}
use Rattle.sleep_wakeup.specs.Kernel.{Unused, HasRendez}
use Rattle.sync_base.specs.declared.fault.Fault.TheVariants as fault
use Rattle.tag_space.specs.declared.member.Member.{Member}
use Rattle.tag_space.specs.declared.space.TagSpace.{TagSpace}
use Rattle.tag_space.specs.Members.{OwnsRow, IsOneOf, IsMemberOf, IsWaitingMember, IsSameMember}
use Rattle.tag_space.specs.Members.{number_of, account_of, seen_of, space_of}
use Rattle.tag_space.specs.Outcome.{calls_by}
use Rattle.tag_space.specs.Rendezvous.{Entry, rendezvous, stage_of}
use Rattle.tag_space.specs.Rendezvous.Stage.{Over}
use Rattle.tag_space.specs.Spaces.{IsKeptIn, JoinsMembers, WhyNoGroup, WhyNoSpace}
use Rattle.tag_space.proofs.WorkedSpaces.{offer}

module _ (space : TagSpace) where
  -- the words of a kernel end before the last member's Rendez
  a_row_beyond_the_words : (words : Words) → rendez_of words < space.first.0 + space.procs
      → OwnsRow space words → ⊥
  a_row_beyond_the_words words fewer row = omega (arith, fewer, row)

  each_member_has_its_own_rendez : (member : Member) → IsOneOf space member
      → IsSeatOf space.lock member.seat
      × KnowsHistory (rendezvous (space_of space)) [] space.procs (account_of member)
      × (member.rendez.0 ≡ space.first.0 + number_of member)
  each_member_has_its_own_rendez member one = (one.seat, one.history, one.rendez)

  -- nobody rests, or waits, who is no member
  no_member_rests : (member : Member) → ¬ IsOneOf space member → ¬ IsMemberOf space member
  no_member_rests member none rests = none rests.one

  no_member_waits : (member : Member) → ¬ IsOneOf space member → ¬ IsWaitingMember space member
  no_member_waits member none waits = none waits.one

  -- and no member does both
  who_waits_does_not_rest : (member : Member) → stage_of (seen_of member) (number_of member) ≢ Over
      → ¬ IsMemberOf space member
  who_waits_does_not_rest member under_way rests = under_way rests.rests

  who_rests_does_not_wait : (member : Member) → stage_of (seen_of member) (number_of member) ≡ Over
      → ¬ IsWaitingMember space member
  who_rests_does_not_wait member over waits = waits.under_way over

module _ (before after second joined : Member) where
  -- a member of the same number sleeps in another Rendez
  a_member_with_another_rendez : after.rendez ≢ before.rendez → IsSameMember before after → ⊥
  a_member_with_another_rendez other same = other same.rendez

  a_member_of_another_number : number_of after ≢ number_of before → ¬ IsSameMember before after
  a_member_of_another_number other same = other same.number

  -- no member is joined with itself
  one_joins_itself : JoinsMembers before before joined → ⊥
  one_joins_itself joins = joins.apart refl

  -- what either had seen is kept in the joined member
  the_joined_keeps_both : JoinsMembers before second joined
      → IsKeptIn joined before × IsKeptIn joined second
  the_joined_keeps_both joins = (joins.first_kept, joins.second_kept)

  -- the joined member knows of all members that either knew of
  the_joined_knows_what_either_knew : JoinsMembers before second joined
      → given_of joined.seat ≡ max (given_of before.seat) (given_of second.seat)
  the_joined_knows_what_either_knew joins = joins.seats.given

module _ (member joined : Member) where
  not_after : (since : List Entry) (entry : Entry) → [] ≡ since ++ entry ∷ [] → ⊥
  not_after [] entry is = cc
  not_after (newer ∷ since) entry is = cc

  -- what was seen is forgotten
  what_it_saw_is_forgotten : (entry : Entry) → seen_of member ≡ entry ∷ [] → seen_of joined ≡ []
      → IsKeptIn joined member → ⊥
  what_it_saw_is_forgotten entry saw now kept =
      not_after kept.past.since entry
      (sym now ∙ kept.past.new_is ∙ ap (λ (h : List Entry). kept.past.since ++ h) saw)

  -- or a call is added that was not made
  a_call_is_added : calls_by (number_of member) (seen_of member) ≡ []
      → calls_by (number_of member) (seen_of joined) ≡ offer 0 1 7 5 ∷ []
      → IsKeptIn joined member → ⊥
  a_call_is_added none made kept = let is = sym made ∙ kept.calls ∙ none in cc

-- ---- why no space is made: each reason comes where it holds, and none before the one that is
-- tested first

module _ (unused : Unused) (procs : ℕ) where
  -- a space is refused for its size, which a space may have
  a_size_that_may_be : IsProcCount procs → WhyNoSpace unused procs fault.NoProc → ⊥
  a_size_that_may_be is_size none = none is_size

  -- a row is wanting for a size that no space has, or it is left
  a_row_before_the_size : (IsProcCount procs → ⊥) → WhyNoSpace unused procs fault.NoRendez → ⊥
  a_row_before_the_size no_size (is_size, none) = no_size is_size

  a_row_that_is_left : HasRendez unused procs → WhyNoSpace unused procs fault.NoRendez → ⊥
  a_row_that_is_left left (is_size, none) = none left

  -- memory is wanting for such a size, or before a row
  memory_before_the_size : (IsProcCount procs → ⊥) → WhyNoSpace unused procs fault.Memory → ⊥
  memory_before_the_size no_size (is_size, left) = no_size is_size

  memory_before_a_row : (HasRendez unused procs → ⊥) → WhyNoSpace unused procs fault.Memory → ⊥
  memory_before_a_row none (is_size, left) = none left

  -- the same of a space of the caller's size
  a_group_though_a_row_is_left : HasRendez unused procs → WhyNoGroup unused procs fault.NoRendez
      → ⊥
  a_group_though_a_row_is_left left none = none left

  a_group_for_memory_before_a_row : (HasRendez unused procs → ⊥)
      → WhyNoGroup unused procs fault.Memory → ⊥
  a_group_for_memory_before_a_row none left = none left

-- a space of nobody is refused for its size alone
module _ (unused : Unused) where
  nobody_is_too_few : WhyNoSpace unused 0 fault.NoProc
  nobody_is_too_few is_size = omega (arith, is_size.0)

  nobody_finds_no_row : WhyNoSpace unused 0 fault.NoRendez → ⊥
  nobody_finds_no_row (is_size, none) = omega (arith, is_size.0)
