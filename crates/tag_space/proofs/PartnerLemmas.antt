-- Whoever is told of a meeting is in that pair, who its partner is, and that the pair stays.
use Rattle.std.proofs.Common.{◌≡◌, ◌≢◌, ◌⊎◌, ◌<◌, ℕ, eqb, List, [], ◌∷◌, ◌++◌, length}
use Rattle.std.proofs.Common.{refl, sym, ap, ◌∙◌, subst, inl, inr}
use Rattle.std.proofs.lemmas.Bool.{cases_Bool, cases_eq}
use Rattle.std.specs.List.{AllByRecursion}
use Rattle.histories.specs.Account.{AreDifferent}
use Rattle.histories.specs.History.{IsLegal, AreByBelow}
use Rattle.kernel_lock.specs.Definition.{server}
use Rattle.tag_space.specs.declared.calls.GroupCall.{GroupCall}
use Rattle.tag_space.specs.declared.calls.GroupCall.TheVariants.{Call, Collect, Leave}
use Rattle.tag_space.specs.GroupObject.{member_of}
use Rattle.tag_space.specs.Laws.{PartnersAreCalls, PairsStay, EachGetsOneValue}
use Rattle.tag_space.specs.Laws.{CallsAreByMembers, PairedIsNotAlone, FoundIsInPair, ToldIsInPair}
use Rattle.tag_space.specs.Outcome.{call_made, calls_by, IsOneOfPairs, IsOneOfCalls}
use Rattle.tag_space.specs.Outcome.{Exchanges, HasPartner}
use Rattle.tag_space.specs.Promises.{IsMade, IsMeeting, numbers_in}
use Rattle.tag_space.specs.Rendezvous.{Entry, Space, Offer, Pair, pairs_of, pair_made}
use Rattle.tag_space.specs.Rendezvous.{rendezvous}
use Rattle.tag_space.proofs.OtherLemmas.{calls_after}
use Rattle.tag_space.proofs.WaitLemmas.{waits_last, yes}
use Rattle.tag_space.proofs.PromiseLemmas.{is_space, is_right}

-- who finds a call that waits is in a pair with it, and is answered its value
pub found_is_in_pair : FoundIsInPair
found_is_in_pair space past by member tag value given other count legal =
    let offer : Offer =
    record { number = length past; member = member; tag = tag.0; value = value } in
    let finds = (is_right space past _ legal).answered.1 in
    let pair : Pair = record { waiting = finds.offer; finding = offer } in
    record {
      pair = pair;
      is_pair = rw (waits_last past other finds.offer finds.waits) (inl refl);
      exchanged = inr (refl, finds.given_is);
    }

-- who is told of a meeting is in that pair, and is told the partner's value
pub told_is_in_pair : ToldIsInPair
told_is_in_pair space past member given legal met =
    let is = (is_space space past legal).paired member met.pair met.paired in
    record {
      offer = met.pair.waiting;
      mine = is.1;
      in_pair = record {
        pair = met.pair;
        is_pair = is.0;
        exchanged = inl (refl, met.given_is);
      };
    }

-- a pair is one of more pairs too
one_of_more : (pair : Pair) (more pairs : List Pair) → IsOneOfPairs pair pairs
    → IsOneOfPairs pair (more ++ pairs)
one_of_more pair [] pairs is = is
one_of_more pair (other ∷ more) pairs is = inr (one_of_more pair more pairs is)

-- a call of the member stays one of its calls
more_calls : (offer : Offer) (number member : ℕ) (call : GroupCall) (others : List Offer)
    → IsOneOfCalls offer others → IsOneOfCalls offer (call_made number member call others)
more_calls offer number member (Call caller tag value) others is =
    elim (cases_Bool (eqb caller member)) [
      | inl same ↦ rw same (inr is)
      | inr not ↦ rw not is
    ]
more_calls offer number member (Collect caller) others is = is
more_calls offer number member (Leave caller) others is = is

-- a call that stands in the history is one of its member's
made_is_call : (history : List Entry) (offer : Offer) → IsMade history offer
    → IsOneOfCalls offer (calls_by offer.member history)
made_is_call [] offer made = made
made_is_call (entry ∷ past) offer (inl here) =
    let numbered : ℕ → Offer = λ n. record {
      number = n;
      member = offer.member;
      tag = offer.tag;
      value = offer.value;
    } in
    rw here.1 (rw (yes offer.member) (inl (ap numbered (sym here.0))))
made_is_call (entry ∷ past) offer (inr before) =
    more_calls offer (length past) offer.member entry.request (calls_by offer.member past)
    (made_is_call past offer before)

-- what is true of each pair is true of this one
of_pair : (P : Pair → Type 0) (pair : Pair) (pairs : List Pair) → AllByRecursion P pairs
    → IsOneOfPairs pair pairs → P pair
of_pair P pair [] all is = absurd is
of_pair P pair (other ∷ pairs) all (inl is) = subst P is all.0
of_pair P pair (other ∷ pairs) all (inr more) = of_pair P pair pairs all.1 more

-- a call of the pair has this number
abbrev HasNumber : ℕ → Pair → Type 0
HasNumber number pair = (pair.waiting.number ≡ number) ⊎ (pair.finding.number ≡ number)

-- and what is true of each number in pairs is true of the numbers of its calls
of_number : (P : ℕ → Type 0) (pair : Pair) (pairs : List Pair) →
    AllByRecursion P (numbers_in pairs)
    → IsOneOfPairs pair pairs → (number : ℕ) → HasNumber number pair → P number
of_number P pair [] all is number has = absurd is
of_number P pair (other ∷ pairs) all (inl is) number (inl waiting) =
    subst P (ap (λ (p : Pair). p.waiting.number) is ∙ waiting) all.0
of_number P pair (other ∷ pairs) all (inl is) number (inr finding) =
    subst P (ap (λ (p : Pair). p.finding.number) is ∙ finding) all.1.0
of_number P pair (other ∷ pairs) all (inr more) number has =
    of_number P pair pairs all.1.1 more number has

-- the call of an exchange has its number in the pair
number_of_call : (offer : Offer) (given : ℕ) (pair : Pair) → Exchanges offer given pair
    → HasNumber offer.number pair
number_of_call offer given pair (inl first) = inl (ap (λ (o : Offer). o.number) first.0)
number_of_call offer given pair (inr second) = inr (ap (λ (o : Offer). o.number) second.0)

-- a call of a pair is in none of the others
not_again : (number : ℕ) (here there : Pair) (pairs : List Pair)
    → AreDifferent (numbers_in (here ∷ pairs)) → IsOneOfPairs there pairs → HasNumber number here
    → HasNumber number there → ⊥
not_again number here there pairs different is (inl waiting) also =
    of_number (λ n. here.waiting.number ≢ n) there pairs different.0.1 is number also waiting
not_again number here there pairs different is (inr finding) also =
    of_number (λ n. here.finding.number ≢ n) there pairs different.1.0 is number also finding

-- a call is in one pair
one_pair : (number : ℕ) (first second : Pair) (pairs : List Pair)
    → AreDifferent (numbers_in pairs) → IsOneOfPairs first pairs → IsOneOfPairs second pairs
    → HasNumber number first → HasNumber number second → first ≡ second
one_pair number first second [] different is too has also = absurd is
one_pair number first second (pair ∷ pairs) different (inl is) (inl too) has also = sym is ∙ too
one_pair number first second (pair ∷ pairs) different (inl is) (inr too) has also =
    absurd (not_again number pair second pairs different too
    (subst (HasNumber number) (sym is) has) also)
one_pair number first second (pair ∷ pairs) different (inr is) (inl too) has also =
    absurd (not_again number pair first pairs different is
    (subst (HasNumber number) (sym too) also) has)
one_pair number first second (pair ∷ pairs) different (inr is) (inr too) has also =
    one_pair number first second pairs different.1.1 is too has also

-- in one pair a call gets one value, since its two calls are of two members
one_value : (offer : Offer) (first second : ℕ) (pair : Pair)
    → pair.waiting.member ≢ pair.finding.member → Exchanges offer first pair
    → Exchanges offer second pair → first ≡ second
one_value offer first second pair members (inl a) (inl b) = a.1 ∙ sym b.1
one_value offer first second pair members (inl a) (inr b) =
    absurd (members (ap (λ (o : Offer). o.member) (a.0 ∙ sym b.0)))
one_value offer first second pair members (inr a) (inl b) =
    absurd (members (ap (λ (o : Offer). o.member) (b.0 ∙ sym a.0)))
one_value offer first second pair members (inr a) (inr b) = a.1 ∙ sym b.1

-- a call that is in a pair gets one value, whichever way that is found
pub each_gets_one_value : EachGetsOneValue
each_gets_one_value space history offer first second legal one two =
    let is = is_space space history legal in
    let same = one_pair offer.number one.pair two.pair (pairs_of history) is.once one.is_pair
    two.is_pair (number_of_call offer first one.pair one.exchanged)
    (number_of_call offer second two.pair two.exchanged) in
    let meeting = of_pair (IsMeeting history) two.pair (pairs_of history) is.meetings two.is_pair in
    one_value offer first second two.pair meeting.members
    (subst (Exchanges offer first) same one.exchanged) two.exchanged

-- a call that is in a pair is none of those that end alone
pub paired_is_not_alone : PairedIsNotAlone
paired_is_not_alone history offer given is alone =
    of_number (λ n. n ≢ offer.number) is.pair (pairs_of history) alone is.is_pair offer.number
    (number_of_call offer given is.pair is.exchanged) refl

-- a call stands in the history by its member, or one of the others does
by_caller : (limit number member : ℕ) (offer : Offer) (call : GroupCall) (others : List Offer)
    → member_of call < limit → (IsOneOfCalls offer others → member < limit)
    → IsOneOfCalls offer (call_made number member call others) → member < limit
by_caller limit number member offer (Call caller tag value) others below before is =
    elim (cases_eq caller member) [
      | inl same ↦ subst (λ m. m < limit) same below
      | inr differs ↦ before (subst (IsOneOfCalls offer)
          (calls_after number member (Call caller tag value) others differs) is)
    ]
by_caller limit number member offer (Collect caller) others below before is = before is
by_caller limit number member offer (Leave caller) others below before is = before is

calls_below : (space : Space) (limit : ℕ) (history : List Entry) (member : ℕ) (offer : Offer)
    → IsLegal (rendezvous space) [] history → AreByBelow server limit history
    → IsOneOfCalls offer (calls_by member history) → member < limit
calls_below space limit [] member offer legal below is = absurd is
calls_below space limit (entry ∷ past) member offer legal below is =
    by_caller limit (length past) member offer entry.request (calls_by member past)
    (subst (λ n. n < limit) legal.0.own below.0)
    (calls_below space limit past member offer legal.1 below.1) is

-- each call of a history is by a member of its space
pub calls_are_by_members : CallsAreByMembers
calls_are_by_members space limit history member offer is =
    calls_below space limit history member offer is.legal is.within

-- the partner of a call in this pair
partner_in : (history : List Entry) (offer : Offer) (given : ℕ) (pair : Pair)
    → IsMeeting history pair → IsOneOfPairs pair (pairs_of history) → Exchanges offer given pair
    → HasPartner history offer given
partner_in history offer given pair meeting is (inl first) =
    record {
      partner = pair.finding;
      call = made_is_call history pair.finding meeting.finding;
      another = λ same. meeting.members (ap (λ (o : Offer). o.member) first.0 ∙ sym same);
      tag_is = sym meeting.tags ∙ ap (λ (o : Offer). o.tag) first.0;
      gives = first.1;
      gets = record {
        pair = pair;
        is_pair = is;
        exchanged = inr (refl, ap (λ (o : Offer). o.value) (sym first.0));
      };
    }
partner_in history offer given pair meeting is (inr second) =
    record {
      partner = pair.waiting;
      call = made_is_call history pair.waiting meeting.waiting;
      another = λ same. meeting.members (same ∙ ap (λ (o : Offer). o.member) (sym second.0));
      tag_is = meeting.tags ∙ ap (λ (o : Offer). o.tag) second.0;
      gives = second.1;
      gets = record {
        pair = pair;
        is_pair = is;
        exchanged = inl (refl, ap (λ (o : Offer). o.value) (sym second.0));
      };
    }

-- whoever is in a pair has a partner, which is a call of another member with the same tag
pub partners_are_calls : PartnersAreCalls
partners_are_calls space history offer given legal is =
    partner_in history offer given is.pair
    (of_pair (IsMeeting history) is.pair (pairs_of history) (is_space space history legal).meetings
    is.is_pair) is.is_pair is.exchanged

-- a pair of a past is a pair of the history
pair_stays : (since past : List Entry) (pair : Pair) → IsOneOfPairs pair (pairs_of past)
    → IsOneOfPairs pair (pairs_of (since ++ past))
pair_stays [] past pair is = is
pair_stays (entry ∷ since) past pair is =
    one_of_more pair (pair_made (since ++ past) entry.request entry.reply)
    (pairs_of (since ++ past)) (pair_stays since past pair is)

-- whoever is in a pair stays in it, whatever comes
pub pairs_stay : PairsStay
pairs_stay since past offer given is =
    record {
      pair = is.pair;
      is_pair = pair_stays since past is.pair is.is_pair;
      exchanged = is.exchanged;
    }
