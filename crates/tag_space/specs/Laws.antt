-- What holds of every tag space, over all its histories.
use Rattle.std.specs.Prelude.{◌≡◌, ◌<◌, ℕ, List, [], ◌∷◌, ◌++◌, length}
use Rattle.histories.specs.History.{IsLegal, IsHistory}
use Rattle.kernel_lock.specs.Definition.{meaning_of}
use Rattle.sync_base.specs.declared.ids.Tag.{Tag}
use Rattle.tag_space.specs.declared.calls.GroupCall.{GroupCall}
use Rattle.tag_space.specs.declared.calls.GroupCall.TheVariants.{Call, Leave}
use Rattle.tag_space.specs.declared.calls.GroupReply.{GroupReply}
use Rattle.tag_space.specs.declared.calls.GroupReply.TheVariants.{Met, Worn, Gone}
use Rattle.tag_space.specs.declared.limits.TheConstants.{LAST_MEETING}
use Rattle.tag_space.specs.declared.meeting.TheConstants.{INTERRUPTED}
use Rattle.tag_space.specs.GroupObject.{opening, group}
use Rattle.tag_space.specs.Outcome.{IsInPair, IsOneOfCalls, HasPartner, calls_by}
use Rattle.tag_space.specs.Rendezvous.{Entry, Space, rendezvous}
use Rattle.tag_space.specs.Rendezvous.{Offer, stage_of, IsAnswered, IsMet}
use Rattle.tag_space.specs.Rendezvous.Stage.{Waits}
use Rattle.tag_space.specs.Promises.{AreMeetings, MeetsOnce, WaitApart, IsAlone}

-- each history of the object is a history of a tag space
abbrev pub ObjectsAreSpaces : Type 0
ObjectsAreSpaces =
    (space : Space) (history : List Entry)
    → IsLegal (meaning_of group) (opening space.members space.count) history
    → IsLegal (rendezvous space) [] history

-- own: the last count leaves one number above it, which is the level of a hangup
abbrev pub LastMeetingIs : Type 0
LastMeetingIs = LAST_MEETING ≡ 18446744073709551614

-- in every history of a tag space the pairs are meetings of two members' calls with one tag
abbrev pub PairsAreMeetings : Type 0
PairsAreMeetings =
    (space : Space) (history : List Entry) → IsLegal (rendezvous space) [] history
    → AreMeetings history

-- no call is in two pairs
abbrev pub EachCallMeetsOnce : Type 0
EachCallMeetsOnce =
    (space : Space) (history : List Entry) → IsLegal (rendezvous space) [] history
    → MeetsOnce history

-- calls that wait have different tags
abbrev pub WaitingTagsDiffer : Type 0
WaitingTagsDiffer =
    (space : Space) (history : List Entry) → IsLegal (rendezvous space) [] history
    → WaitApart history

-- a call that waited when its member left meets nobody, whatever comes
abbrev pub WhoLeftMeetsNobody : Type 0
WhoLeftMeetsNobody =
    (space : Space) (since past : List Entry) (member : ℕ) (offer : Offer)
    → let left : Entry = record { by = member; request = Leave member; reply = Gone } in
    IsLegal (rendezvous space) [] (since ++ left ∷ past) → stage_of past member ≡ Waits offer
    → IsAlone (since ++ left ∷ past) offer.number

-- a call that was worn out meets nobody, whatever comes
abbrev pub WhoIsWornMeetsNobody : Type 0
WhoIsWornMeetsNobody =
    (space : Space) (since past : List Entry) (member : ℕ) (tag : Tag) (value : ℕ)
    → let worn : Entry = record { by = member; request = Call member tag value; reply = Worn } in
    IsLegal (rendezvous space) [] (since ++ worn ∷ past)
    → IsAlone (since ++ worn ∷ past) (length past)

-- after every history of a tag space each call has one answer
abbrev pub EachCallHasOneAnswer : Type 0
EachCallHasOneAnswer =
    (space : Space) (past : List Entry) (call : GroupCall) (first second : GroupReply)
    → IsLegal (rendezvous space) [] past → IsAnswered space past call first
    → IsAnswered space past call second → first ≡ second

-- a call that finds a partner is in a pair, and gets the partner's value
abbrev pub FoundIsInPair : Type 0
FoundIsInPair =
    (space : Space) (past : List Entry) (by member : ℕ) (tag : Tag) (value given other count : ℕ)
    → IsLegal (rendezvous space) []
    (record { by = by; request = Call member tag value; reply = Met given other count } ∷ past)
    → IsInPair
    (record { by = by; request = Call member tag value; reply = Met given other count } ∷ past)
    (record { number = length past; member = member; tag = tag.0; value = value }) given

-- the member gets this value: a call of its own is in a pair, whose partner gives it
pub record IsToldOf (past : List Entry) (member given : ℕ) : Type 0 where
  pub offer : Offer
  pub mine : offer.member ≡ member
  pub in_pair : IsInPair past offer given

-- a member that may get the answer of a meeting is in that pair
abbrev pub ToldIsInPair : Type 0
ToldIsInPair =
    (space : Space) (past : List Entry) (member given : ℕ) → IsLegal (rendezvous space) [] past
    → IsMet past member given → IsToldOf past member given

-- a call that is in a pair has a partner, which is a call of the same history
abbrev pub PartnersAreCalls : Type 0
PartnersAreCalls =
    (space : Space) (history : List Entry) (offer : Offer) (given : ℕ)
    → IsLegal (rendezvous space) [] history → IsInPair history offer given
    → HasPartner history offer given

-- a call that is in a pair stays in it, and its value stays, whatever comes
abbrev pub PairsStay : Type 0
PairsStay =
    (since past : List Entry) (offer : Offer) (given : ℕ) → IsInPair past offer given
    → IsInPair (since ++ past) offer given

-- the calls of a history are by members of its space
abbrev pub CallsAreByMembers : Type 0
CallsAreByMembers =
    (space : Space) (limit : ℕ) (history : List Entry) (member : ℕ) (offer : Offer)
    → IsHistory (rendezvous space) [] limit history
    → IsOneOfCalls offer (calls_by member history) → member < limit

-- a call with a partner did not end alone
abbrev pub PairedIsNotAlone : Type 0
PairedIsNotAlone =
    (history : List Entry) (offer : Offer) (given : ℕ) → IsInPair history offer given
    → ¬ IsAlone history offer.number

-- a call gets one value
abbrev pub EachGetsOneValue : Type 0
EachGetsOneValue =
    (space : Space) (history : List Entry) (offer : Offer) (first second : ℕ)
    → IsLegal (rendezvous space) [] history → IsInPair history offer first
    → IsInPair history offer second → first ≡ second

-- after rendezvous(2): the word for an interruption is ~0
abbrev pub InterruptedIs : Type 0
InterruptedIs = INTERRUPTED ≡ 18446744073709551615
