-- The whole of a call: from what its wait asked to what came of it, by which it is in a pair, or in
-- none for good.
use Rattle.std.proofs.Common.{◌≡◌, ℕ, List, [], ◌∷◌, length, Result, Ok, Err, inl, inr}
use Rattle.std.proofs.Common.{refl, sym, ap, ◌∙◌, subst}
use Rattle.histories.specs.History.{IsLegal}
use Rattle.rendez_words.specs.Process.{Process}
use Rattle.sync_base.specs.declared.fault.Fault.{Fault}
use Rattle.sync_base.specs.declared.fault.Fault.TheVariants as fault
use Rattle.sync_base.specs.declared.ids.RendezId.{RendezId}
use Rattle.tag_space.specs.declared.calls.GroupCall.{GroupCall}
use Rattle.tag_space.specs.declared.calls.GroupCall.TheVariants.{Call, Collect, Leave}
use Rattle.tag_space.specs.declared.calls.GroupReply.{GroupReply}
use Rattle.tag_space.specs.declared.calls.GroupReply.TheVariants.{WasMet, Wait, Worn, Gone}
use Rattle.tag_space.specs.declared.member.Member.{Member}
use Rattle.tag_space.specs.declared.space.TagSpace.{TagSpace}
use Rattle.tag_space.specs.Asking.{Requests, Begins, Collects, meeting}
use Rattle.tag_space.specs.Members.{space_of, number_of, party_of, seen_of}
use Rattle.tag_space.specs.Members.{IsMemberOf, IsOneOf, IsSameMember}
use Rattle.tag_space.specs.Outcome.{ComesOf, Exchange, IsInPair, IsOutForGood, calls_by}
use Rattle.tag_space.specs.Rendezvous.{Entry, Offer, Offered, Party, IsAnswered, IsMet, rendezvous}
use Rattle.tag_space.specs.Rendezvous.{pairs_of, stage_of}
use Rattle.tag_space.specs.Rendezvous.Stage.{Waits}
use Rattle.tag_space.proofs.AskLemmas.{Served, served, entry_of}
use Rattle.tag_space.proofs.OtherLemmas.{IsUnder}
use Rattle.tag_space.proofs.PromiseLemmas.{is_space, IsOut, stays_out, left_is_out, refused_is_out}
use Rattle.tag_space.proofs.PartnerLemmas.{found_is_in_pair}
use Rattle.tag_space.proofs.WaitLemmas.{yes}
use Rattle.waiting.specs.Runners.{ComesToSame}
use Rattle.waiting.specs.Waiting.{Point, Waited, reply_of}
use Rattle.waiting.proofs.FoldLemmas.{wait_ends}

module _ (space : TagSpace) (first : Member) (offer : Offer) where
  -- while it waits its call is under way, and the only one since
  record IsOn (now : Member) : Type 0 where
    one : IsOneOf space now
    same : IsSameMember first now
    under : IsUnder (seen_of now) (number_of first) offer
    calls : calls_by (number_of first) (seen_of now)
        ≡ offer ∷ calls_by (number_of first) (seen_of first)

  -- at the end it is the only one, and has come to what is answered
  record IsOver (answer : Result ℕ Fault) (now : Member) : Type 0 where
    same : IsSameMember first now
    calls : calls_by (number_of first) (seen_of now)
        ≡ offer ∷ calls_by (number_of first) (seen_of first)
    outcome : ComesOf (space_of space) (seen_of now) offer answer

  -- a call that is out of a history is so for good
  out_for_good : (history seen : List Entry) → seen ≡ history → IsOut history offer.number
      → IsOutForGood (space_of space) seen offer
  out_for_good history seen is out =
      subst (λ h. IsOutForGood (space_of space) h offer) (sym is)
      (λ since later. (stays_out (space_of space) since history offer.number later out).alone)

  -- who is told of a meeting is in a pair
  told_of : (past : List Entry) (given : ℕ) → IsLegal (rendezvous (space_of space)) [] past
      → IsUnder past (number_of first) offer → IsMet past (number_of first) given
      → IsInPair past offer given
  told_of past given legal (inl waits) met = let both = sym waits ∙ met.paired in cc
  told_of past given legal (inr (pair, paired, waiting)) met =
      let stages = sym paired ∙ met.paired in
      record {
        pair = met.pair;
        is_pair = ((is_space (space_of space) past legal).paired _ met.pair met.paired).0;
        exchanged = inl (cc, met.given_is);
      }

  module _ (old new : Member) (on : IsOn old) where
    same_on : IsSameMember old new → IsSameMember first new
    same_on same =
        record {
          number = same.number ∙ on.same.number;
          rendez = same.rendez ∙ on.same.rendez;
        }

    served_on : (call : ℕ → GroupCall) (told : GroupReply)
        → Requests space (call (number_of old)) told old new
        → Served (space_of space) (number_of first) (call (number_of first)) told (seen_of old)
        (seen_of new)
    served_on call told is =
        served space old new on.one (number_of first) on.same.number call told is

    on_more : (count : ℕ) → Requests space (Collect (number_of old)) (Wait count) old new
        → IsOn new
    on_more count is =
        let its = served_on Collect (Wait count) is in
        record {
          one = is.one;
          same = same_on is.same;
          under = subst (λ h. IsUnder h (number_of first) offer) (sym its.seen_is)
              (its.still.under offer on.under);
          calls = ap (calls_by (number_of first)) its.seen_is ∙ its.still.calls ∙ on.calls;
        }

    told_so : (call : ℕ → GroupCall) (given : ℕ)
        → ((past : List Entry) → pairs_of (entry_of (call (number_of first)) (WasMet given) ∷ past)
        ≡ pairs_of past)
        → ((past : List Entry) → calls_by (number_of first)
        (entry_of (call (number_of first)) (WasMet given) ∷ past) ≡ calls_by (number_of first) past)
        → ((past : List Entry)
        → IsAnswered (space_of space) past (call (number_of first)) (WasMet given)
        → IsMet past (number_of first) given)
        → Requests space (call (number_of old)) (WasMet given) old new → IsOver (Ok given) new
    told_so call given pairs calls met is =
        let its = served_on call (WasMet given) is in
        let pair = told_of its.past given its.legal.1 (its.still.under offer on.under)
        (met its.past its.answered) in
        record {
          same = same_on is.same;
          calls = ap (calls_by (number_of first)) its.seen_is ∙ calls its.past ∙ its.still.calls
              ∙ on.calls;
          outcome = record {
            pair = pair.pair;
            is_pair = rw its.seen_is (rw (pairs its.past) pair.is_pair);
            exchanged = pair.exchanged;
          };
        }

    gone_so : (why : Fault) → Requests space (Leave (number_of old)) Gone old new
        → IsOver (Err why) new
    gone_so why is =
        let its = served_on Leave Gone is in
        let waits : stage_of its.past (number_of first) ≡ Waits offer =
        elim (its.still.under offer on.under) [
          | inl waits ↦ waits
          | inr (pair, paired, waiting) ↦ absurd (its.answered.none pair paired)
        ] in
        record {
          same = same_on is.same;
          calls = ap (calls_by (number_of first)) its.seen_is ∙ its.still.calls ∙ on.calls;
          outcome = out_for_good _ _ its.seen_is (left_is_out (space_of space) its.past
              (number_of first) (number_of first) offer its.legal.1 waits);
        }

  told : (old new : Point Member) (answer : Result ℕ Fault) → IsOn old.seat
      → Collects space old (reply_of answer) new → IsOver answer new.seat
  told old new (Ok given) on collects =
      told_so old.seat new.seat on Collect given (λ past. refl) (λ past. refl) (λ past met. met.1)
      collects.requested
  told old new (Err why) on collects = absurd collects

module _ (space : TagSpace) (offered : Offered) (first : Member) (rest : IsMemberOf space first)
  where
    -- it is the same member, and its call was an exchange
    pub record Came (answer : Result ℕ Fault) (now : Member) : Type 0 where
      -- its number and its Rendez are the same
      pub same : IsSameMember first now
      -- one call of the member's, with its tag and value
      pub exchange : Exchange (party_of space first) offered (seen_of first) (seen_of now) answer

    -- the call, after this past
    abbrev offer_at : List Entry → Offer
    offer_at past =
        record {
          number = length past;
          member = number_of first;
          tag = offered.tag.0;
          value = offered.value;
        }

    came_over : (past : List Entry) (answer : Result ℕ Fault) (now : Member)
        → IsOver space first (offer_at past) answer now → Came answer now
    came_over past answer now is =
        record {
          same = is.same;
          exchange = record {
            offer = offer_at past;
            one = is.calls;
            member_is = refl;
            tag_is = refl;
            value_is = refl;
            outcome = is.outcome;
          };
        }

    served_first : (told : GroupReply) (now : Member)
        → Requests space (Call (number_of first) offered.tag offered.value) told first now
        → Served (space_of space) (number_of first)
        (Call (number_of first) offered.tag offered.value) told (seen_of first) (seen_of now)
    served_first told now is =
        served space first now rest.one _ refl (λ n. Call n offered.tag offered.value) told is

    calls_first : (told : GroupReply) (now : Member)
        (its : Served (space_of space) (number_of first)
        (Call (number_of first) offered.tag offered.value) told (seen_of first) (seen_of now))
        → calls_by (number_of first) (seen_of now)
        ≡ offer_at its.past ∷ calls_by (number_of first) (seen_of first)
    calls_first told now its =
        ap (calls_by (number_of first)) its.seen_is
        ∙ rw (yes (number_of first))
        (ap (λ (others : List Offer). offer_at its.past ∷ others) its.still.calls)

    -- a call that was answered at once
    called : (process : Process) (now : Point Member) (answer : Result ℕ Fault)
        → Begins space offered (record { seat = first; process = process }) (reply_of answer) now
        → Came answer now.seat
    called process now (Ok given) found =
        let its = served_first _ now.seat found.requested in
        came_over its.past (Ok given) now.seat (record {
          same = found.requested.same;
          calls = calls_first _ now.seat its;
          outcome = subst (λ h. IsInPair h (offer_at its.past) given) (sym its.seen_is)
              (found_is_in_pair (space_of space) its.past (number_of first) (number_of first)
              offered.tag offered.value given found.other found.count its.legal);
        })
    called process now (Err fault.Worn) refused =
        let its = served_first Worn now.seat refused.requested in
        came_over its.past (Err fault.Worn) now.seat (record {
          same = refused.requested.same;
          calls = calls_first Worn now.seat its;
          outcome = out_for_good space first (offer_at its.past) _ _ its.seen_is
              (refused_is_out (space_of space) its.past (number_of first) (number_of first)
              offered.tag offered.value its.legal.1);
        })
    called process now (Err other) refused = absurd refused

    -- any call
    pub came : (rendez : RendezId) (process : Process) (answer : Result ℕ Fault)
        (after : Point Member)
        → Waited (meeting space offered) rendez (record { seat = first; process = process }) answer
        after → Came answer after.seat
    came rendez process answer after (inl at_once) = called process after answer at_once
    came rendez process answer after (inr waits) =
        let is = waits.begun.requested in
        let its = served_first _ waits.first.at.seat is in
        let offer = offer_at its.past in
        came_over its.past answer after.seat
        (wait_ends (meeting space offered) rendez (IsOn space first offer)
        (IsOver space first offer)
        (λ old new count on asked. on_more space first offer old.seat new.seat on count
        asked.requested)
        (told space first offer)
        (λ old new given on left. told_so space first offer old new on Leave given (λ past. refl)
        (λ past. refl) (λ past met. met.1) left)
        (λ old new why on left. gone_so space first offer old new on why left)
        waits.first answer after
        (record {
          one = is.one;
          same = is.same;
          under = inl (ap (λ h. stage_of h (number_of first)) its.seen_is
              ∙ rw (yes (number_of first)) refl);
          calls = calls_first _ waits.first.at.seat its;
        })
        waits.waited)

-- two answers that come to the same are those of one exchange
pub same_exchange : (party : Party) (offered : Offered) (before after : List Entry)
    (told answer : Result ℕ Fault) → ComesToSame told answer
    → Exchange party offered before after told → Exchange party offered before after answer
same_exchange party offered before after told answer same is =
    record {
      offer = is.offer;
      one = is.one;
      member_is = is.member_is;
      tag_is = is.tag_is;
      value_is = is.value_is;
      outcome = by told answer same is.outcome;
    }
  where
    by : (told answer : Result ℕ Fault) → ComesToSame told answer
        → ComesOf party.space after is.offer told → ComesOf party.space after is.offer answer
    by (Ok one) (Ok other) same of_it =
        subst (λ given. IsInPair after is.offer given) (sym same) of_it
    by (Err why) (Err other) same of_it = of_it
    by (Ok one) (Err other) same of_it = absurd same
    by (Err why) (Ok other) same of_it = absurd same
