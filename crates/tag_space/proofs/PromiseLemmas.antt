-- The promises hold of every history of a tag space, by induction on it.
use Rattle.std.proofs.Common.{◌≡◌, ◌≢◌, ◌⊎◌, ℕ, ◌<◌, eqb, true, if◌then◌else◌}
use Rattle.std.proofs.Common.{List, [], ◌∷◌, ◌++◌, length, refl, sym, ap, ◌∙◌, subst, arith}
use Rattle.std.proofs.Common.{inl, inr}
use Rattle.std.proofs.lemmas.Bool.{cases_eq}
use Rattle.std.specs.List.{AllByRecursion}
use Rattle.histories.specs.History.{IsLegal, state_after}
use Rattle.histories.proofs.ListLemmas.{all_weaker}
use Rattle.sync_base.specs.declared.ids.Tag.{Tag}
use Rattle.tag_space.specs.declared.calls.GroupCall.{GroupCall}
use Rattle.tag_space.specs.declared.calls.GroupCall.TheVariants.{Call, Collect, Leave}
use Rattle.tag_space.specs.declared.calls.GroupReply.{GroupReply}
use Rattle.tag_space.specs.declared.calls.GroupReply.TheVariants.{Met, WasMet, Wait, Worn, Gone}
use Rattle.tag_space.specs.declared.calls.GroupReply.TheVariants.{Busy}
use Rattle.tag_space.specs.declared.limits.TheConstants.{LAST_MEETING}
use Rattle.tag_space.specs.GroupObject.{member_of}
use Rattle.tag_space.specs.Outcome.{IsOneOfPairs}
use Rattle.tag_space.specs.Rendezvous.{Entry, Space, Offer, Pair, Stage, stage_of, pairs_of}
use Rattle.tag_space.specs.Rendezvous.{count_of, found_by, IsAnswered, IsRight}
use Rattle.tag_space.specs.Rendezvous.{NobodyWaits, rendezvous}
use Rattle.tag_space.specs.Rendezvous.Stage.{Over, Waits, Paired}
use Rattle.tag_space.specs.Promises.{IsMade, IsMeeting, AreMeetings, numbers_in, MeetsOnce}
use Rattle.tag_space.specs.Promises.{WaitApart, IsAlone}
use Rattle.tag_space.proofs.WaitLemmas.{waits_last, yes, no}

-- the state of a space is its history
pub state_is_past : (space : Space) (history : List Entry) →
    state_after (rendezvous space) [] history ≡ history
state_is_past space [] = refl
state_is_past space (entry ∷ past) = ap (λ (h : List Entry). entry ∷ h) (state_is_past space past)

-- the newest entry of a legal history is right after its past
pub is_right : (space : Space) (past : List Entry) (entry : Entry) →
    IsLegal (rendezvous space) [] (entry ∷ past) → IsRight space past entry
is_right space past entry legal =
    subst (λ h. IsRight space h entry) (state_is_past space past) legal.0

module _ (space : Space) (past : List Entry) (entry : Entry) where
  -- the member waits by this call, which is the entry
  pub record Begins (member : ℕ) (offer : Offer) : Type 0 where
    -- it is the member's own
    pub mine : offer.member ≡ member
    -- its number is the entry's
    pub number : offer.number ≡ length past
    -- it is what the entry asks
    pub call : entry.request ≡ Call offer.member (record { 0 = offer.tag }) offer.value
    -- nobody waited with its tag
    pub alone : NobodyWaits past offer.tag
    -- there is such a member
    pub exists : member < space.members
    -- and one more meeting of it can be counted
    pub counts : count_of space past member ≢ LAST_MEETING
    -- there is no pair more
    pub pairs : pairs_of (entry ∷ past) ≡ pairs_of past

  -- the member's call was found by the entry
  pub record Meets (other : ℕ) (pair : Pair) : Type 0 where
    -- it waited
    pub waiting : stage_of past other ≡ Waits pair.waiting
    -- it is found now
    pub here : stage_of (entry ∷ past) other ≡ Paired pair
    -- the number of the call that found it is the entry's
    pub number : pair.finding.number ≡ length past
    -- that call is what the entry asks
    pub call : entry.request ≡ Call pair.finding.member (record { 0 = pair.finding.tag })
        pair.finding.value
    -- its member had no other under way
    pub over : stage_of past pair.finding.member ≡ Over
    -- both have one tag
    pub tags : pair.waiting.tag ≡ pair.finding.tag
    -- there is one pair more
    pub pairs : pairs_of (entry ∷ past) ≡ pair ∷ pairs_of past

  -- the entry brought the member to this stage
  abbrev pub Became : ℕ → Stage → Type 0
  Became member Over = member_of entry.request ≡ member
  Became member (Waits offer) = Begins member offer
  Became member (Paired pair) = Meets member pair

  -- what a right entry does to the stages and pairs
  pub record Change : Type 0 where
    -- each stage stood before, or the entry brought its member there
    pub turn : (member : ℕ) (stage : Stage) → stage_of (entry ∷ past) member ≡ stage →
        (stage_of past member ≡ stage) ⊎ Became member stage
    -- there is no pair more, or one
    pub pairs : (pairs_of (entry ∷ past) ≡ pairs_of past)
        ⊎ ((other : ℕ) × (pair : Pair) × Meets other pair)

  -- the stage of one member changes
  turned : (who : ℕ) (new : Stage) → stage_of (entry ∷ past) who ≡ new →
      ((other : ℕ) → who ≢ other → stage_of (entry ∷ past) other ≡ stage_of past other) →
      Became who new → (pairs_of (entry ∷ past) ≡ pairs_of past)
      ⊎ ((other : ℕ) × (pair : Pair) × Meets other pair) → Change
  turned who new here elsewhere became pairs = record {
    turn = λ member stage is. elim (cases_eq who member) [
      | inl same ↦ inr (subst (λ m. Became m stage) same (subst (Became who) (sym here ∙
          subst (λ m. stage_of (entry ∷ past) m ≡ stage) (sym same) is) became))
      | inr differs ↦ inl (sym (elsewhere member differs) ∙ is)
    ];
    pairs = pairs;
  }

module _ (space : Space) (past : List Entry) (by : ℕ) where
  -- the member's call is over
  ended : (call : GroupCall) (told : GroupReply) (member : ℕ) →
      ((other : ℕ) → stage_of (record { by = by; request = call; reply = told } ∷ past) other ≡
      (if eqb member other then Over else stage_of past other)) → member_of call ≡ member →
      pairs_of (record { by = by; request = call; reply = told } ∷ past) ≡ pairs_of past →
      Change space past (record { by = by; request = call; reply = told })
  ended call told member stages own pairs =
      turned space past _ member Over (stages member ∙ rw (yes member) refl)
      (λ other differs. stages other ∙ rw (no member other differs) refl) own (inl pairs)

  change_of_answer : (call : GroupCall) (told : GroupReply) → IsAnswered space past call told →
      Change space past (record { by = by; request = call; reply = told })
  change_of_answer (Call member tag value) (Met given other count) answered =
      let finds = answered.1 in
      let finding : Offer =
      record { number = length past; member = member; tag = tag.0; value = value } in
      let meets : Meets space past
      (record { by = by; request = Call member tag value; reply = Met given other count }) other
      (record { waiting = finds.offer; finding = finding }) = record {
        waiting = finds.waits;
        here = rw (yes other) (ap (found_by finding) finds.waits);
        number = refl;
        call = refl;
        over = answered.0.is_over;
        tags = finds.tag_is;
        pairs = rw (waits_last past other finds.offer finds.waits) refl;
      } in
      turned space past _ other (Paired _) meets.here
      (λ third differs. rw (no other third differs) refl) meets (inr (other, _, meets))
  change_of_answer (Call member tag value) (Wait count) answered =
      turned space past _ member (Waits (record {
        number = length past;
        member = member;
        tag = tag.0;
        value = value;
      })) (rw (yes member) refl) (λ other differs. rw (no member other differs) refl) (record {
        mine = refl;
        number = refl;
        call = refl;
        alone = answered.1;
        exists = answered.0.exists;
        counts = λ last. answered.3 (answered.2 ∙ last);
        pairs = refl;
      }) (inl refl)
  change_of_answer (Call member tag value) Worn answered =
      record { turn = λ other stage is. inl is; pairs = inl refl }
  change_of_answer (Call member tag value) Busy answered =
      record { turn = λ other stage is. inl is; pairs = inl refl }
  change_of_answer (Collect member) (Wait count) answered =
      record { turn = λ other stage is. inl is; pairs = inl refl }
  change_of_answer (Collect member) Busy answered =
      record { turn = λ other stage is. inl is; pairs = inl refl }
  change_of_answer (Leave member) Busy answered =
      record { turn = λ other stage is. inl is; pairs = inl refl }
  change_of_answer (Collect member) (WasMet given) answered =
      ended _ _ member (λ other. refl) refl refl
  change_of_answer (Leave member) (WasMet given) answered =
      ended _ _ member (λ other. refl) refl refl
  change_of_answer (Leave member) Gone answered =
      ended _ _ member (λ other. refl) refl refl
  change_of_answer call told answered = absurd answered

-- how the newest entry of a legal history changes the stages and the pairs
pub change_of : (space : Space) (past : List Entry) (entry : Entry) →
    IsLegal (rendezvous space) [] (entry ∷ past) → Change space past entry
change_of space past entry legal =
    change_of_answer space past entry.by entry.request entry.reply
    (is_right space past entry legal).answered

-- a call that was made has a number of its history
made_below : (history : List Entry) (offer : Offer) → IsMade history offer → offer.number <
    length history
made_below [] offer made = absurd made
made_below (entry ∷ past) offer (inl here) = omega (arith, here.0)
made_below (entry ∷ past) offer (inr before) = omega (arith, made_below past offer before)

-- and no other call has it
one_made : (history : List Entry) (first second : Offer) → IsMade history first →
    IsMade history second → first.number ≡ second.number → first.member ≡ second.member
one_made [] first second one two same = absurd one
one_made (entry ∷ past) first second (inl one) (inl two) same =
    ap member_of (sym one.1 ∙ two.1)
one_made (entry ∷ past) first second (inl one) (inr two) same =
    absurd (omega (arith, one.0, made_below past second two))
one_made (entry ∷ past) first second (inr one) (inl two) same =
    absurd (omega (arith, two.0, made_below past first one))
one_made (entry ∷ past) first second (inr one) (inr two) same =
    one_made past first second one two same

-- the calls of pairs were made before
pub numbers_below : (history : List Entry) (pairs : List Pair) →
    AllByRecursion (IsMeeting history) pairs →
    AllByRecursion (λ number. number < length history) (numbers_in pairs)
numbers_below history [] meetings = tt
numbers_below history (pair ∷ pairs) meetings = (
  made_below history pair.waiting meetings.0.waiting,
  (
    made_below history pair.finding meetings.0.finding,
    numbers_below history pairs meetings.1,
  ),
)

-- a call by which a member waits
pub record IsWaiting (past : List Entry) (member : ℕ) (offer : Offer) : Type 0 where
  -- it is the member's own
  pub mine : offer.member ≡ member
  -- it stands in the history
  pub made : IsMade past offer
  -- it is in no pair
  pub alone : IsAlone past offer.number

-- what holds of a history that a tag space can have
pub record IsSpace (past : List Entry) : Type 0 where
  -- who waits does so by a call of its own that met nobody
  pub waits : (member : ℕ) (offer : Offer) → stage_of past member ≡ Waits offer →
      IsWaiting past member offer
  -- calls that wait differ in their tags
  pub apart : WaitApart past
  -- who was found is in a pair of the history, by a call of its own
  pub paired : (member : ℕ) (pair : Pair) → stage_of past member ≡ Paired pair →
      IsOneOfPairs pair (pairs_of past) × (pair.waiting.member ≡ member)
  -- the pairs are meetings of calls that stand in the history
  pub meetings : AreMeetings past
  -- no call is in two pairs
  pub once : MeetsOnce past

module _ (space : Space) (past : List Entry) (entry : Entry) (is : IsSpace past)
    (change : Change space past entry) where
  older : AllByRecursion (λ number. number < length past) (numbers_in (pairs_of past))
  older = numbers_below past (pairs_of past) is.meetings

  -- a number that is not of the past is in none of its pairs
  new_number : (number : ℕ) → length past ≡ number → IsAlone past number
  new_number number new =
      all_weaker (λ n. n < length past) (λ n. n ≢ number) (λ n less same. omega arith)
      (numbers_in (pairs_of past)) older

  waits_after : (member : ℕ) (offer : Offer) → stage_of (entry ∷ past) member ≡ Waits offer →
      IsWaiting (entry ∷ past) member offer
  waits_after member offer waits = elim (change.turn member (Waits offer) waits) [
    | inl before ↦
        let it = is.waits member offer before in
        record {
          mine = it.mine;
          made = inr it.made;
          alone = elim change.pairs [
            | inl same ↦ rw same it.alone
            | inr (other, pair, meets) ↦
                let found = is.waits other pair.waiting meets.waiting in
                rw meets.pairs (
                  (λ same. let me : other ≡ member = sym found.mine ∙
                      one_made past pair.waiting offer found.made it.made same ∙ it.mine in
                      let both = sym meets.here ∙
                      subst (λ m. stage_of (entry ∷ past) m ≡ Waits offer) (sym me) waits in cc),
                  (
                    (λ same. omega (arith, made_below past offer it.made, meets.number)),
                    it.alone,
                  ),
                )
          ];
        }
    | inr begins ↦ record {
      mine = begins.mine;
      made = inl (begins.number, begins.call);
      alone = rw begins.pairs (new_number offer.number (sym begins.number));
    }
  ]

  apart_after : WaitApart (entry ∷ past)
  apart_after member other first second one two tags =
      elim (change.turn member (Waits first) one) [
        | inl before ↦ elim (change.turn other (Waits second) two) [
          | inl also ↦ is.apart member other first second before also tags
          | inr begins ↦ absurd (begins.alone member first before tags)
        ]
        | inr begins ↦ elim (change.turn other (Waits second) two) [
          | inl before ↦ absurd (begins.alone other second before (sym tags))
          | inr also ↦ sym begins.mine ∙ ap member_of (sym begins.call ∙ also.call) ∙ also.mine
        ]
      ]

  paired_after : (member : ℕ) (pair : Pair) → stage_of (entry ∷ past) member ≡ Paired pair →
      IsOneOfPairs pair (pairs_of (entry ∷ past)) × (pair.waiting.member ≡ member)
  paired_after member pair paired = elim (change.turn member (Paired pair) paired) [
    | inl before ↦
        let it = is.paired member pair before in
        elim change.pairs [
          | inl same ↦ (rw same it.0, it.1)
          | inr (other, more, meets) ↦ (rw meets.pairs (inr it.0), it.1)
        ]
    | inr meets ↦
        (rw meets.pairs (inl refl), (is.waits member pair.waiting meets.waiting).mine)
  ]

  -- what was made stays made
  meet_still : AllByRecursion (IsMeeting (entry ∷ past)) (pairs_of past)
  meet_still =
      all_weaker (IsMeeting past) (IsMeeting (entry ∷ past))
      (λ pair meeting. record {
        waiting = inr meeting.waiting;
        finding = inr meeting.finding;
        tags = meeting.tags;
        members = meeting.members;
      })
      (pairs_of past) is.meetings

  space_keeps : IsSpace (entry ∷ past)
  space_keeps = record {
    waits = waits_after;
    apart = apart_after;
    paired = paired_after;
    meetings = elim change.pairs [
      | inl same ↦ rw same meet_still
      | inr (other, pair, meets) ↦
          let found = is.waits other pair.waiting meets.waiting in
          rw meets.pairs (
            record {
              waiting = inr found.made;
              finding = inl (meets.number, meets.call);
              tags = meets.tags;
              members = λ same. let both = sym meets.waiting ∙
                  subst (λ m. stage_of past m ≡ Over) (sym same ∙ found.mine) meets.over in cc;
            },
            meet_still,
          )
    ];
    once = elim change.pairs [
      | inl same ↦ rw same is.once
      | inr (other, pair, meets) ↦
          let found = is.waits other pair.waiting meets.waiting in
          let differs : (number : ℕ) → IsAlone past number → AllByRecursion (λ n. number ≢ n)
          (numbers_in (pairs_of past)) = λ number alone. all_weaker (λ n. n ≢ number)
          (λ n. number ≢ n) (λ n apart same. apart (sym same)) (numbers_in (pairs_of past)) alone in
          rw meets.pairs (
            (
              (λ same. omega (arith, made_below past pair.waiting found.made, meets.number)),
              differs pair.waiting.number found.alone,
            ),
            (
              differs pair.finding.number (new_number pair.finding.number (sym meets.number)),
              is.once,
            ),
          )
    ];
  }

-- every history of a space is one
pub is_space : (space : Space) (history : List Entry) → IsLegal (rendezvous space) [] history →
    IsSpace history
is_space space [] legal = record {
  waits = λ member offer waits. cc;
  apart = λ member other first second one two tags. cc;
  paired = λ member pair paired. cc;
  meetings = tt;
  once = tt;
}
is_space space (entry ∷ past) legal =
    space_keeps space past entry (is_space space past legal.1) (change_of space past entry legal)

-- the call with this number is out: it waits for nobody, and is in no pair
pub record IsOut (history : List Entry) (number : ℕ) : Type 0 where
  -- an entry of the history has this number
  pub made : number < length history
  -- of the calls that wait none has this number
  pub waits : (member : ℕ) (offer : Offer) → stage_of history member ≡ Waits offer →
      offer.number ≢ number
  -- no pair has a call with this number
  pub alone : IsAlone history number

-- and then it stays out
out_keeps : (space : Space) (past : List Entry) (entry : Entry) (number : ℕ) →
    IsOut past number → Change space past entry → IsOut (entry ∷ past) number
out_keeps space past entry number out change = record {
  made = omega (arith, out.made);
  waits = λ member offer waits. elim (change.turn member (Waits offer) waits) [
    | inl before ↦ out.waits member offer before
    | inr begins ↦ λ same. omega (arith, out.made, begins.number)
  ];
  alone = elim change.pairs [
    | inl same ↦ rw same out.alone
    | inr (other, pair, meets) ↦ rw meets.pairs (
      out.waits other pair.waiting meets.waiting,
      ((λ same. omega (arith, out.made, meets.number)), out.alone),
    )
  ];
}

-- a call that is out stays out, whatever comes
pub stays_out : (space : Space) (since past : List Entry) (number : ℕ) →
    IsLegal (rendezvous space) [] (since ++ past) → IsOut past number → IsOut (since ++ past) number
stays_out space [] past number legal out = out
stays_out space (entry ∷ since) past number legal out =
    out_keeps space (since ++ past) entry number (stays_out space since past number legal.1 out)
    (change_of space (since ++ past) entry legal)

-- a call whose member left is out
pub left_is_out : (space : Space) (past : List Entry) (member by : ℕ) (offer : Offer) →
    IsLegal (rendezvous space) [] past → stage_of past member ≡ Waits offer →
    IsOut (record { by = by; request = Leave member; reply = Gone } ∷ past) offer.number
left_is_out space past member by offer legal waits =
    let is = is_space space past legal in
    let mine = is.waits member offer waits in
    record {
      made = omega (arith, made_below past offer mine.made);
      waits = λ other second also same. elim (cases_eq member other) [
        | inl me ↦ let gone = rw (subst (λ m. eqb member m ≡ true) me (yes member)) at also in cc
        | inr differs ↦
            let its = is.waits other second (rw (no member other differs) at also) in
            differs (sym mine.mine ∙ sym (one_made past second offer its.made mine.made same)
            ∙ its.mine)
      ];
      alone = mine.alone;
    }

-- a call that was refused is out
pub refused_is_out : (space : Space) (past : List Entry) (by member : ℕ) (tag : Tag) (value : ℕ) →
    IsLegal (rendezvous space) [] past →
    IsOut (record { by = by; request = Call member tag value; reply = Worn } ∷ past) (length past)
refused_is_out space past by member tag value legal =
    let is = is_space space past legal in
    record {
      made = omega arith;
      waits = λ other offer waits same. let made = made_below past offer
          (is.waits other offer waits).made in omega arith;
      alone = all_weaker (λ n. n < length past) (λ n. n ≢ length past) (λ n less same. omega arith)
          (numbers_in (pairs_of past)) (numbers_below past (pairs_of past) is.meetings);
    }
