-- Two members of a space of two, each with one call: whoever is answered is answered by the other.
use Rattle.std.proofs.Common.{◌≡◌, ◌≢◌, ◌<◌, ℕ, List, [], ◌∷◌, Result, Ok, Err}
use Rattle.std.proofs.Common.{refl, sym, ap, ◌∙◌, subst, arith, inl, inr}
use Rattle.std.specs.Prelude.{IfOk, OnOk, IsOk}
use Rattle.histories.specs.History.{IsLegal}
use Rattle.sync_base.specs.declared.fault.Fault.{Fault}
use Rattle.sync_base.specs.declared.ids.Tag.{Tag}
use Rattle.tag_space.specs.declared.member.Member.{Member}
use Rattle.tag_space.specs.declared.space.TagSpace.{TagSpace}
use Rattle.tag_space.specs.Members.{space_of, number_of, party_of, seen_of, IsOneOf}
use Rattle.tag_space.specs.Outcome.{calls_by, IsOneOfCalls, IsInPair, HasPartner, Exchange}
use Rattle.tag_space.specs.Outcome.{ComesOf}
use Rattle.tag_space.specs.Promises.{IsAlone}
use Rattle.tag_space.specs.Rendezvous.{Offer, rendezvous}
use Rattle.tag_space.specs.Spaces.{IsKeptIn}
use Rattle.tag_space.proofs.PartnerLemmas.{partners_are_calls, pairs_stay, paired_is_not_alone}
use Rattle.tag_space.proofs.PartnerLemmas.{calls_are_by_members}

-- one call of these is this one
only_call : (offer only : Offer) → IsOneOfCalls offer (only ∷ []) → only ≡ offer
only_call offer only (inl is) = is
only_call offer only (inr none) = absurd none

module _ (space : TagSpace) (this other joined : Member) (two : space.procs ≡ 2)
    (one : IsOneOf space joined) (this_below : number_of this < space.procs)
    (other_below : number_of other < space.procs) (apart : number_of this ≢ number_of other)
    (kept : IsKeptIn joined this) (other_kept : IsKeptIn joined other) (offer only : Offer)
    (its : offer.member ≡ number_of this)
    (onlys : calls_by (number_of other) (seen_of other) ≡ only ∷ []) (given : ℕ)
    (in_pair : IsInPair (seen_of this) offer given) where
  partner : HasPartner (seen_of joined) offer given
  partner =
      partners_are_calls (space_of space) (seen_of joined) offer given one.history.history.legal
      (subst (λ h. IsInPair h offer given) (sym kept.past.new_is)
      (pairs_stay kept.past.since (seen_of this) offer given in_pair))

  -- the partner is the other member
  is_others : partner.partner.member ≡ number_of other
  is_others =
      let apart_from_this : partner.partner.member ≢ number_of this =
      λ same. partner.another (same ∙ sym its) in
      let below = calls_are_by_members (space_of space) space.procs (seen_of joined)
      partner.partner.member partner.partner one.history.history partner.call in
      omega (arith, two, this_below, other_below, apart, below)

  -- and its call is the one that the other made
  is_only : only ≡ partner.partner
  is_only =
      only_call partner.partner only
      (subst (IsOneOfCalls partner.partner) (other_kept.calls ∙ onlys)
      (subst (λ m. IsOneOfCalls partner.partner (calls_by m (seen_of joined))) is_others
      partner.call))

  -- so it gives the value, and gets this one's
  pub gives_only : given ≡ only.value
  gives_only = partner.gives ∙ ap (λ (o : Offer). o.value) (sym is_only)

  -- in the joined history the other's only call is in a pair, and gets this one's value
  pub only_is_paired : IsInPair (seen_of joined) only offer.value
  only_is_paired = subst (λ o. IsInPair (seen_of joined) o offer.value) (sym is_only) partner.gets

module _ (space : TagSpace) (this this_after other other_after joined : Member)
    (two : space.procs ≡ 2) (one : IsOneOf space joined)
    (this_below : number_of this_after < space.procs)
    (other_below : number_of other_after < space.procs)
    (apart : number_of this_after ≢ number_of other_after)
    (kept : IsKeptIn joined this_after) (other_kept : IsKeptIn joined other_after)
    (same : number_of this_after ≡ number_of this)
    (other_same : number_of other_after ≡ number_of other)
    (none : calls_by (number_of other) (seen_of other) ≡ []) (tag : Tag) (value others : ℕ)
    (answer other_answer : Result ℕ Fault)
    (call : Exchange (party_of space this) (record { tag = tag; value = value }) (seen_of this)
    (seen_of this_after) answer)
    (other_call : Exchange (party_of space other) (record { tag = tag; value = others })
    (seen_of other) (seen_of other_after) other_answer) where
  onlys : calls_by (number_of other_after) (seen_of other_after) ≡ other_call.offer ∷ []
  onlys =
      ap (λ n. calls_by n (seen_of other_after)) other_same ∙ other_call.one
      ∙ ap (λ (offers : List Offer). other_call.offer ∷ offers) none

  module _ (given : ℕ) (in_pair : IsInPair (seen_of this_after) call.offer given) where
    gets_value : given ≡ others
    gets_value =
        gives_only space this_after other_after joined two one this_below other_below apart kept
        other_kept call.offer other_call.offer (call.member_is ∙ sym same) onlys given in_pair
        ∙ other_call.value_is

    is_paired : IsInPair (seen_of joined) other_call.offer call.offer.value
    is_paired =
        only_is_paired space this_after other_after joined two one this_below other_below apart kept
        other_kept call.offer other_call.offer (call.member_is ∙ sym same) onlys given in_pair

  -- whoever is answered is answered the other's value
  of_answer : (told : Result ℕ Fault) → answer ≡ told → IfOk told (λ got. got ≡ others)
  of_answer (Ok given) is = gets_value given (subst
      (ComesOf (space_of space) (seen_of this_after) call.offer) is call.outcome)
  of_answer (Err why) is = tt

  -- where a call of one of two members is answered a value, it is the one that the other gave
  pub gets_others : IfOk answer (λ got. got ≡ others)
  gets_others = of_answer answer refl

  -- and then the other is answered too
  not_out : (told : Result ℕ Fault) → other_answer ≡ told
      → IsInPair (seen_of joined) other_call.offer call.offer.value → IsOk told
  not_out (Ok given) is paired = refl
  not_out (Err why) is paired =
      absurd (paired_is_not_alone (seen_of joined) other_call.offer call.offer.value paired
      (subst (λ h. IsAlone h other_call.offer.number) (sym other_kept.past.new_is)
      (subst (ComesOf (space_of space) (seen_of other_after) other_call.offer) is other_call.outcome
      other_kept.past.since
      (subst (IsLegal (rendezvous (space_of space)) []) other_kept.past.new_is
      one.history.history.legal))))

  of_both : (told : Result ℕ Fault) → answer ≡ told → OnOk told (IsOk other_answer)
  of_both (Ok given) is =
      not_out other_answer refl
      (is_paired given (subst (ComesOf (space_of space) (seen_of this_after) call.offer) is
      call.outcome))
  of_both (Err why) is = tt

  -- where a call of one of two members is answered a value, so is the other's
  pub both_are_answered : OnOk answer (IsOk other_answer)
  both_are_answered = of_both answer refl
