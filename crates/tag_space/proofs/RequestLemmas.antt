-- What a request leaves of a member: it rests, or its call is under way.
use Rattle.std.proofs.Common.{◌≡◌, ◌≢◌, ◌<◌, ℕ, eqb, List, [], ◌∷◌, inl, inr}
use Rattle.std.proofs.Common.{refl, sym, ap, subst, arith}
use Rattle.std.proofs.lemmas.Bool.{cases_Bool}
use Rattle.histories.specs.History.{IsLegal}
use Rattle.sync_base.specs.declared.ids.Tag.{Tag}
use Rattle.sync_base.specs.declared.limits.TheConstants.{TOP_LEVEL}
use Rattle.tag_space.specs.declared.calls.GroupCall.{GroupCall}
use Rattle.tag_space.specs.declared.calls.GroupCall.TheVariants.{Call, Collect, Leave}
use Rattle.tag_space.specs.declared.calls.GroupReply.{GroupReply}
use Rattle.tag_space.specs.declared.calls.GroupReply.TheVariants as group
use Rattle.tag_space.specs.declared.member.Member.{Member}
use Rattle.tag_space.specs.declared.space.TagSpace.{TagSpace}
use Rattle.tag_space.specs.Asking.{Asks, Requests, IsCalled, IsCollected, IsLeft}
use Rattle.tag_space.specs.Members.{space_of, account_of, number_of, seen_of}
use Rattle.tag_space.specs.Members.{IsMemberOf, IsOneOf, IsSameMember, IsWaitingMember}
use Rattle.tag_space.specs.Rendezvous.{Entry, Stage, stage_of, count_of, found_by, rendezvous}
use Rattle.tag_space.specs.Rendezvous.Stage.{Over}
use Rattle.tag_space.proofs.AskLemmas.{Served, served, entry_of, is_below}
use Rattle.tag_space.proofs.CountLemmas.{FitsCounts, fits_counts}
use Rattle.tag_space.proofs.WaitLemmas.{yes}

module _ (space : TagSpace) (before after : Member) where
  -- a request that was made with this number is the member's
  pub requested : (call : ℕ → GroupCall) (told : GroupReply) (number : ℕ)
      → number ≡ number_of before
      → Asks (call number) told (account_of before) (account_of after) → IsOneOf space after
      → IsSameMember before after → Requests space (call (number_of before)) told before after
  requested call told number own asks one same =
      record {
        entered = subst (λ n. Asks (call n) told (account_of before) (account_of after)) own asks;
        one = one;
        same = same;
      }

  fits : (past : List Entry) → IsLegal (rendezvous (space_of space)) [] past
      → FitsCounts (space_of space) past
  fits past legal = fits_counts (space_of space) (omega arith) past legal

  -- there is a level above a count that it is told
  is_low : (past : List Entry) (count : ℕ) → IsLegal (rendezvous (space_of space)) [] past
      → count ≡ count_of (space_of space) past (number_of before) → count < TOP_LEVEL
  is_low past count legal is = let most = (fits past legal).within (number_of before) in
      omega (arith, is, most)

  module _ (call : GroupCall) (told : GroupReply) (is : Requests space call told before after)
      (its : Served (space_of space) (number_of before) call told (seen_of before) (seen_of after))
    where
      -- what its history says of the stage of the member is so
      stands : (P : Stage → Type 0)
          → P (stage_of (entry_of call told ∷ its.past) (number_of before))
          → P (stage_of (seen_of after) (number_of after))
      stands P holds =
          subst (λ n. P (stage_of (seen_of after) n)) (sym is.same.number)
          (subst (λ h. P (stage_of h (number_of before))) (sym its.seen_is) holds)

      rests : stage_of (entry_of call told ∷ its.past) (number_of before) ≡ Over
          → IsMemberOf space after
      rests over = record { one = is.one; rests = stands (λ stage. stage ≡ Over) over }

      waits : stage_of (entry_of call told ∷ its.past) (number_of before) ≢ Over
          → IsWaitingMember space after
      waits way = record { one = is.one; under_way = stands (λ stage. stage ≢ Over) way }

  -- of a member that called
  pub called : (tag : Tag) (value : ℕ) (told : GroupReply) → IsMemberOf space before
      → Requests space (Call (number_of before) tag value) told before after
      → IsCalled space after told
  called tag value told rest is =
      by told is (served space before after rest.one _ refl (λ n. Call n tag value) told is)
    where
      by : (told : GroupReply)
          → Requests space (Call (number_of before) tag value) told before after
          → Served (space_of space) (number_of before) (Call (number_of before) tag value) told
          (seen_of before) (seen_of after) → IsCalled space after told
      by (group.Met given other count) is its =
          let finds = its.answered.1 in
          let rested = its.still.over rest.rests in (
            ((fits its.past its.legal.1).waiting other finds.offer finds.waits).0,
            rests _ _ is its (elim (cases_Bool (eqb other (number_of before))) [
              | inl same ↦ rw same (ap (found_by _) rested)
              | inr not ↦ rw not rested
            ]),
          )
      by (group.Wait count) is its = (
        is_low its.past count its.legal.1 its.answered.2,
        waits _ _ is its (rw (yes (number_of before)) (λ over. cc)),
      )
      by group.Worn is its = rests _ _ is its (its.still.over rest.rests)
      by group.Busy is its =
          absurd (its.answered (record {
            exists = is_below space before rest.one;
            is_over = its.still.over rest.rests;
          }))
      by told is its = absurd its.answered

  -- of a member that asked
  pub collected : (told : GroupReply) → IsWaitingMember space before
      → Requests space (Collect (number_of before)) told before after
      → IsCollected space after told
  collected told waiting is =
      by told is (served space before after waiting.one _ refl Collect told is)
    where
      by : (told : GroupReply) → Requests space (Collect (number_of before)) told before after
          → Served (space_of space) (number_of before) (Collect (number_of before)) told
          (seen_of before) (seen_of after) → IsCollected space after told
      by (group.WasMet given) is its = rests _ _ is its (rw (yes (number_of before)) refl)
      by (group.Wait count) is its = (
        is_low its.past count its.legal.1 its.answered.1,
        waits _ _ is its (its.still.way waiting.under_way),
      )
      by group.Busy is its =
          absurd (omega (arith, is_below space before waiting.one, its.answered))
      by told is its = absurd its.answered

  -- of a member that left
  pub left : (told : GroupReply) → IsWaitingMember space before
      → Requests space (Leave (number_of before)) told before after → IsLeft space after told
  left told waiting is = by told is (served space before after waiting.one _ refl Leave told is)
    where
      by : (told : GroupReply) → Requests space (Leave (number_of before)) told before after
          → Served (space_of space) (number_of before) (Leave (number_of before)) told
          (seen_of before) (seen_of after) → IsLeft space after told
      by (group.WasMet given) is its = rests _ _ is its (rw (yes (number_of before)) refl)
      by group.Gone is its = rests _ _ is its (rw (yes (number_of before)) refl)
      by group.Busy is its =
          absurd (omega (arith, is_below space before waiting.one, its.answered))
      by told is its = absurd its.answered
