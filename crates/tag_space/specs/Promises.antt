-- What is promised of every history of a tag space: which calls meet, each once, and that a member
-- that left meets nobody.
use Rattle.std.specs.Prelude.{◌≡◌, ◌≢◌, ◌⊎◌, ℕ, List, [], ◌∷◌, length}
use Rattle.std.specs.List.{AllByRecursion}
use Rattle.histories.specs.Account.{AreDifferent}
use Rattle.tag_space.specs.declared.calls.GroupCall.TheVariants.{Call}
use Rattle.tag_space.specs.Rendezvous.{Entry, Offer, Pair, stage_of, pairs_of}
use Rattle.tag_space.specs.Rendezvous.Stage.{Waits}

-- the offer is a call of this history, with its number, its member, its tag and its value
abbrev pub IsMade : List Entry → Offer → Type 0
IsMade [] offer = ⊥
IsMade (entry ∷ past) offer =
    ((offer.number ≡ length past)
    × (entry.request ≡ Call offer.member (record { 0 = offer.tag }) offer.value))
    ⊎ IsMade past offer

-- After rendezvous(2): a pair is two calls with one tag. Own: they are of two members.
pub record IsMeeting (history : List Entry) (pair : Pair) : Type 0 where
  pub waiting : IsMade history pair.waiting
  pub finding : IsMade history pair.finding
  pub tags : pair.waiting.tag ≡ pair.finding.tag
  pub members : pair.waiting.member ≢ pair.finding.member

-- each of the pairs is such a meeting
abbrev pub AreMeetings : List Entry → Type 0
AreMeetings history = AllByRecursion (IsMeeting history) (pairs_of history)

-- the numbers of the calls in these pairs
abbrev pub numbers_in : List Pair → List ℕ
numbers_in [] = []
numbers_in (pair ∷ pairs) = pair.waiting.number ∷ pair.finding.number ∷ numbers_in pairs

-- After rendezvous(2): a call meets one other call.
abbrev pub MeetsOnce : List Entry → Type 0
MeetsOnce history = AreDifferent (numbers_in (pairs_of history))

-- two calls that wait have different tags
abbrev pub WaitApart : List Entry → Type 0
WaitApart history =
    (member other : ℕ) (first second : Offer) → stage_of history member ≡ Waits first
    → stage_of history other ≡ Waits second → first.tag ≡ second.tag → member ≡ other

-- the call with this number is in no pair
abbrev pub IsAlone : List Entry → ℕ → Type 0
IsAlone history number = AllByRecursion (λ other. other ≢ number) (numbers_in (pairs_of history))
