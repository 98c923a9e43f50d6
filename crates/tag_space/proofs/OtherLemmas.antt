-- What entries of others leave as it was: a member that rests, a call under way, the member's
-- calls.
use Rattle.std.proofs.Common.{◌≡◌, ◌≢◌, ◌⊎◌, ◌<◌, ℕ, true, false, List, [], ◌∷◌, ◌++◌, append-nil}
use Rattle.std.proofs.Common.{length, refl, sym, ap, ◌∙◌, subst, arith, inl, inr}
use Rattle.std.proofs.lemmas.Bool.{false≢true}
use Rattle.std.specs.List.{AllByRecursion}
use Rattle.histories.specs.Account.{has_number, AreByOthers}
use Rattle.histories.specs.History.{IsLegal, AreByBelow}
use Rattle.histories.specs.declared.account.Share.{Share}
use Rattle.histories.proofs.ListLemmas.{all_weaker}
use Rattle.kernel_lock.specs.Definition.{server}
use Rattle.tag_space.specs.declared.calls.GroupCall.{GroupCall}
use Rattle.tag_space.specs.declared.calls.GroupCall.TheVariants.{Call, Collect, Leave}
use Rattle.tag_space.specs.GroupObject.{member_of}
use Rattle.tag_space.specs.Outcome.{call_made, calls_by}
use Rattle.tag_space.specs.Rendezvous.{Entry, Space, Offer, Pair, Stage, stage_of, rendezvous}
use Rattle.tag_space.specs.Rendezvous.Stage.{Over, Waits, Paired}
use Rattle.tag_space.proofs.PromiseLemmas.{Change, change_of}
use Rattle.tag_space.proofs.WaitLemmas.{no}

-- none of the entries is by the member
abbrev pub NoneBy : ℕ → List Entry → Type 0
NoneBy member entries = AllByRecursion (λ entry. entry.by ≢ member) entries

-- what is by others of a seat is not by a number of the seat
pub none_by : (member : ℕ) (shares : List (Share Entry)) (entries : List Entry)
    → has_number shares member ≡ true → AreByOthers server shares entries → NoneBy member entries
none_by member shares entries has others =
    all_weaker (λ entry. has_number shares (server entry) ≡ false) (λ entry. entry.by ≢ member)
    (λ entry without same. false≢true (sym without ∙ ap (has_number shares) same ∙ has))
    entries others

-- the member's call is under way: it waits, or was found by another, of which it was not told
abbrev pub IsUnder : List Entry → ℕ → Offer → Type 0
IsUnder past member offer =
    (stage_of past member ≡ Waits offer)
    ⊎ ((pair : Pair) × (stage_of past member ≡ Paired pair) × (pair.waiting ≡ offer))

-- what one history says of the member the other says too
pub record StandsStill (member : ℕ) (past new : List Entry) : Type 0 where
  -- who rests, rests on
  pub over : stage_of past member ≡ Over → stage_of new member ≡ Over
  -- who has a call under way has it still
  pub way : stage_of past member ≢ Over → stage_of new member ≢ Over
  -- and that is the same call
  pub under : (offer : Offer) → IsUnder past member offer → IsUnder new member offer
  -- it made no call
  pub calls : calls_by member new ≡ calls_by member past

-- an entry of another is no call of the member
pub calls_after : (number member : ℕ) (call : GroupCall) (others : List Offer) →
    member_of call ≢ member
    → call_made number member call others ≡ others
calls_after number member (Call caller tag value) others differs =
    rw (no caller member differs) refl
calls_after number member (Collect caller) others differs = refl
calls_after number member (Leave caller) others differs = refl

module _ (space : Space) (member : ℕ) (past : List Entry) (entry : Entry)
    (change : Change space past entry) (others : member_of entry.request ≢ member) where
  over_after : (stage : Stage) → stage_of (entry ∷ past) member ≡ stage
      → stage_of past member ≡ Over → stage ≡ Over
  over_after Over is over = refl
  over_after (Waits offer) is over = elim (change.turn member (Waits offer) is) [
    | inl before ↦ cc
    | inr begins ↦ absurd (others (ap member_of begins.call ∙ begins.mine))
  ]
  over_after (Paired pair) is over = elim (change.turn member (Paired pair) is) [
    | inl before ↦ cc
    | inr meets ↦ let waiting = meets.waiting in cc
  ]

  under_after : (offer : Offer) (stage : Stage) → stage_of (entry ∷ past) member ≡ stage
      → IsUnder past member offer → IsUnder (entry ∷ past) member offer
  under_after offer Over is under = elim (change.turn member Over is) [
    | inl before ↦ elim under [
      | inl waits ↦ cc
      | inr (pair, paired, waiting) ↦ cc
    ]
    | inr own ↦ absurd (others own)
  ]
  under_after offer (Waits other) is under = elim (change.turn member (Waits other) is) [
    | inl before ↦ elim under [
      | inl waits ↦ inl (is ∙ sym before ∙ waits)
      | inr (pair, paired, waiting) ↦ cc
    ]
    | inr begins ↦ absurd (others (ap member_of begins.call ∙ begins.mine))
  ]
  under_after offer (Paired pair) is under = elim (change.turn member (Paired pair) is) [
    | inl before ↦ elim under [
      | inl waits ↦ cc
      | inr (other, paired, waiting) ↦ inr (other, is ∙ sym before ∙ paired, waiting)
    ]
    | inr meets ↦ elim under [
      | inl waits ↦ inr (pair, is, let both = sym meets.waiting ∙ waits in cc)
      | inr (other, paired, waiting) ↦ let waits = meets.waiting in cc
    ]
  ]

  still_after : StandsStill member past (entry ∷ past)
  still_after = record {
    over = λ over. over_after (stage_of (entry ∷ past) member) refl over;
    way = λ before now. elim (change.turn member Over now) [
      | inl over ↦ before over
      | inr own ↦ others own
    ];
    under = λ offer under. under_after offer (stage_of (entry ∷ past) member) refl under;
    calls = calls_after (length past) member entry.request (calls_by member past) others;
  }

-- entries of others leave what the history says of the member
pub stands_still : (space : Space) (member : ℕ) (since past : List Entry)
    → IsLegal (rendezvous space) [] (since ++ past) → NoneBy member since
    → StandsStill member past (since ++ past)
stands_still space member [] past legal none =
    record { over = λ o. o; way = λ w. w; under = λ offer u. u; calls = refl }
stands_still space member (entry ∷ since) past legal none =
    let before = stands_still space member since past legal.1 none.1 in
    let own : entry.by ≡ member_of entry.request = legal.0.own in
    let now = still_after space member (since ++ past) entry
    (change_of space (since ++ past) entry legal) (λ same. none.0 (own ∙ same)) in
    record {
      over = λ over. now.over (before.over over);
      way = λ way. now.way (before.way way);
      under = λ offer under. now.under offer (before.under offer under);
      calls = now.calls ∙ before.calls;
    }

-- a number that made no entry rests, and has made no call
pub stands_fresh : (space : Space) (number : ℕ) (history : List Entry)
    → IsLegal (rendezvous space) [] history → AreByBelow server number history
    → StandsStill number [] history
stands_fresh space number history legal below =
    subst (StandsStill number []) (append-nil history)
    (stands_still space number history []
    (subst (IsLegal (rendezvous space) []) (sym (append-nil history)) legal)
    (all_weaker (λ entry. entry.by < number) (λ entry. entry.by ≢ number)
    (λ entry less same. omega (arith, less, same)) history below))
