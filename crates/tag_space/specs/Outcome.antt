-- What comes of a call of rendezvous, after rendezvous(2): two calls with one tag exchange their
-- values, and an interrupted call exchanges nothing.
use Rattle.std.specs.Prelude.{◌≡◌, ◌≢◌, ◌⊎◌, ◌==◌, ℕ, List, [], ◌∷◌, ◌++◌, length, if◌then◌else◌}
use Rattle.std.specs.Prelude.{Result, Ok, Err}
use Rattle.histories.specs.History.{IsLegal}
use Rattle.sync_base.specs.declared.fault.Fault.{Fault}
use Rattle.sync_base.specs.declared.fault.Fault.TheVariants as fault
use Rattle.tag_space.specs.declared.calls.GroupCall.{GroupCall}
use Rattle.tag_space.specs.declared.calls.GroupCall.TheVariants.{Call}
use Rattle.tag_space.specs.declared.meeting.TheConstants.{INTERRUPTED}
use Rattle.tag_space.specs.Rendezvous.{Entry, Space, Party, Offered, Offer, Pair}
use Rattle.tag_space.specs.Rendezvous.{pairs_of, rendezvous}
use Rattle.tag_space.specs.Promises.{IsAlone}

-- a request of the history, with this number: a call of the member comes before the others
abbrev pub call_made : ℕ → ℕ → GroupCall → List Offer → List Offer
call_made number member (Call caller tag value) others =
    if caller == member
    then record { number = number; member = caller; tag = tag.0; value = value } ∷ others
    else others
call_made number member request others = others

-- the member's calls of rendezvous in this history, newest first, whatever came of them
abbrev pub calls_by : ℕ → List Entry → List Offer
calls_by member [] = []
calls_by member (entry ∷ past) =
    call_made (length past) member entry.request (calls_by member past)

-- this pair is one of these
abbrev pub IsOneOfPairs : Pair → List Pair → Type 0
IsOneOfPairs pair [] = ⊥
IsOneOfPairs pair (other ∷ pairs) = (other ≡ pair) ⊎ IsOneOfPairs pair pairs

-- the call is one of the pair, and the other call gives this value
abbrev pub Exchanges : Offer → ℕ → Pair → Type 0
Exchanges offer given pair =
    ((pair.waiting ≡ offer) × (given ≡ pair.finding.value))
    ⊎ ((pair.finding ≡ offer) × (given ≡ pair.waiting.value))

-- the call is in a pair of the history, and gets its partner's value
pub record IsInPair (history : List Entry) (offer : Offer) (given : ℕ) : Type 0 where
  pub pair : Pair
  pub is_pair : IsOneOfPairs pair (pairs_of history)
  pub exchanged : Exchanges offer given pair

-- the offer is one of these
abbrev pub IsOneOfCalls : Offer → List Offer → Type 0
IsOneOfCalls offer [] = ⊥
IsOneOfCalls offer (other ∷ offers) = (other ≡ offer) ⊎ IsOneOfCalls offer offers

-- The other call of the pair: it is a call of another member, with the same tag, it gives this
-- value, and it gets the value of this call.
pub record HasPartner (history : List Entry) (offer : Offer) (given : ℕ) : Type 0 where
  pub partner : Offer
  pub call : IsOneOfCalls partner (calls_by partner.member history)
  pub another : partner.member ≢ offer.member
  pub tag_is : partner.tag ≡ offer.tag
  pub gives : given ≡ partner.value
  pub gets : IsInPair history partner offer.value

-- the call is in no pair, whatever comes
abbrev pub IsOutForGood : Space → List Entry → Offer → Type 0
IsOutForGood space history offer =
    (since : List Entry) → IsLegal (rendezvous space) [] (since ++ history)
    → IsAlone (since ++ history) offer.number

abbrev pub ComesOf : Space → List Entry → Offer → Result ℕ Fault → Type 0
ComesOf space history offer (Ok given) = IsInPair history offer given
ComesOf space history offer (Err why) = IsOutForGood space history offer

-- The member made one call, its own, with this tag and this value. The answer is a value if and
-- only if that call is in a pair, and the value is the partner's.
pub record Exchange (party : Party) (offered : Offered) (before after : List Entry)
    (answer : Result ℕ Fault) : Type 0 where
  pub offer : Offer
  pub one : calls_by party.member after ≡ offer ∷ calls_by party.member before
  pub member_is : offer.member ≡ party.member
  pub tag_is : offer.tag ≡ offered.tag.0
  pub value_is : offer.value ≡ offered.value
  pub outcome : ComesOf party.space after offer answer

-- After rendezvous(2): the word for an interruption is ~0.
abbrev pub word_of : Result ℕ Fault → Result ℕ Fault
word_of (Err (fault.Interrupted notes)) = Ok INTERRUPTED
word_of answer = answer
