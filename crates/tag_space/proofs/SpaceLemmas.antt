-- The object keeps what its history says: each step is answered as a tag space answers it.
use Rattle.std.proofs.Common.{◌≡◌, ◌≢◌, ℕ, ◌+◌, ◌<◌, ◌≤◌, eqb, nat_lt, true, false}
use Rattle.std.proofs.Common.{if◌then◌else◌, Option, Some, None, List, [], ◌∷◌, ◌++◌, length}
use Rattle.std.proofs.Common.{refl, sym, ap, ◌∙◌, subst, arith, inl, inr}
use Rattle.std.proofs.lemmas.Bool.{cases_eq, cases_lt, cases_Bool, false≢true}
use Rattle.std.proofs.lemmas.Bool.Decides.{nat_tests}
use Rattle.std.proofs.lemmas.List.{get_or-set_same, get_or-set_other, length-set, set-get_or}
use Rattle.std.proofs.lemmas.List.{get_or_past, length-replicate, get_or-replicate}
use Rattle.std.proofs.lemmas.List.Quantifiers.{position-Some}
use Rattle.std.proofs.lemmas.List.Sums.{fails_before_first}
use Rattle.std.specs.List.{position_or_len}
use Rattle.histories.specs.History.{IsLegal, state_after}
use Rattle.kernel_lock.specs.Definition.{meaning_of}
use Rattle.sync_base.specs.declared.ids.Tag.{Tag}
use Rattle.tag_space.specs.declared.calls.GroupCall.{GroupCall}
use Rattle.tag_space.specs.declared.calls.GroupCall.TheVariants.{Call, Collect, Leave}
use Rattle.tag_space.specs.declared.calls.GroupReply.{GroupReply}
use Rattle.tag_space.specs.declared.limits.TheConstants.{LAST_MEETING}
use Rattle.tag_space.specs.declared.place.CallState.{CallState}
use Rattle.tag_space.specs.declared.place.CallState.TheVariants.{Idle, Waiting, Met}
use Rattle.tag_space.specs.declared.place.Place.{Place}
use Rattle.tag_space.specs.GroupObject.{group, opening, place_of, fresh_place, put, is_idle}
use Rattle.tag_space.specs.GroupObject.{waits_with, value_given, waiter_of, may_call}
use Rattle.tag_space.specs.GroupObject.{answer_to, answer_to_call, answer_to_collect}
use Rattle.tag_space.specs.GroupObject.{answer_to_leave, places_after, after_call, after_collect}
use Rattle.tag_space.specs.Laws.{ObjectsAreSpaces}
use Rattle.tag_space.specs.Rendezvous.{Entry, Space, Offer, Pair, Stage, stage_of, pairs_of}
use Rattle.tag_space.specs.Rendezvous.{count_of, MayCall, NobodyWaits, IsAnswered, IsRight}
use Rattle.tag_space.specs.Rendezvous.{found_by, pair_with, rendezvous}
use Rattle.tag_space.specs.Rendezvous.Stage.{Over, Waits, Paired}
use Rattle.tag_space.specs.Table.{waits_at}
use Rattle.tag_space.proofs.CountLemmas.{counted_here, counted_elsewhere}
use Rattle.tag_space.proofs.PromiseLemmas.{is_space, state_is_past}
use Rattle.tag_space.proofs.TableLemmas.{waiter_in_range}
use Rattle.tag_space.proofs.WaitLemmas.{waits_last, yes, no}

-- how a member with this stage stands
abbrev pub state_of : Stage → CallState
state_of Over = Idle
state_of (Waits offer) = Waiting (record { 0 = offer.tag }) offer.value
state_of (Paired pair) = Met pair.finding.value

-- the object keeps of each member what the history says
pub record Shows (space : Space) (places : List Place) (past : List Entry) : Type 0 where
  -- there is a place for each member
  pub members : length places ≡ space.members
  -- each member stands as the history says of its last call that had to wait
  pub states : (member : ℕ) → (place_of places member).state ≡
      state_of (stage_of past member)
  -- each member has the count of meetings that the history says
  pub counts : (member : ℕ) → member < space.members → (place_of places member).meetings ≡
      count_of space past member

-- who stands idle has no call that isn't over
over_from_idle : (stage : Stage) → is_idle (state_of stage) ≡ true → stage ≡ Over
over_from_idle Over idle = refl
over_from_idle (Waits offer) idle = absurd (false≢true idle)
over_from_idle (Paired pair) idle = absurd (false≢true idle)

-- who stands waiting with a tag has a call that waits with it
pub record WaitsWith (stage : Stage) (tag : ℕ) : Type 0 where
  -- the call that waits
  pub offer : Offer
  -- the member waits by it
  pub stage_is : stage ≡ Waits offer
  -- it has this tag
  pub tag_is : offer.tag ≡ tag
  -- the value that is kept is the one that it gives
  pub value_is : value_given (state_of stage) ≡ offer.value

waits_from_state : (stage : Stage) (tag : ℕ) → waits_with tag (state_of stage) ≡ true →
    WaitsWith stage tag
waits_from_state Over tag waits = absurd (false≢true waits)
waits_from_state (Waits offer) tag waits =
    record { offer = offer; stage_is = refl; tag_is = grind (arith, nat_tests); value_is = refl }
waits_from_state (Paired pair) tag waits = absurd (false≢true waits)

module _ (space : Space) (places : List Place) (past : List Entry) (shows :
    Shows space places past) where
  -- the object lets a member call where the history does
  may_call_is : (member : ℕ) → may_call places member ≡ true → MayCall space past member
  may_call_is member may = record {
    exists = rw (← shows.members) (grind (arith, nat_tests, may));
    is_over = over_from_idle (stage_of past member)
        (rw (← shows.states member) (grind (arith, nat_tests, may)));
  }

  -- who may not call by what is kept of it may not call by the history either
  may_not_call_is : (member : ℕ) → may_call places member ≡ false → MayCall space past member →
      ⊥
  may_not_call_is member not_may may =
      let below : nat_lt member (length places) ≡ true =
      rw shows.members (grind (arith, nat_tests, may.exists)) in
      let idle : is_idle (place_of places member).state ≡ true =
      rw (shows.states member) (rw may.is_over refl) in
      let yes : may_call places member ≡ true = rw below idle in
      false≢true (sym not_may ∙ yes)

  -- nobody whom the object doesn't find waits
  nobody_waits : (tag : ℕ) → waiter_of places tag ≡ None → NobodyWaits past tag
  nobody_waits tag none member offer waits same =
      let state : (place_of places member).state ≡
      Waiting (record { 0 = offer.tag }) offer.value = shows.states member ∙
      ap state_of waits in
      let here : waits_at places tag member ≡ true = rw state (grind (arith, nat_tests)) in
      let below = waiter_in_range places tag member here in
      elim (cases_lt (position_or_len (λ (place : Place). waits_with tag place.state) places)
      (length places)) [
        | inl found ↦
            let test : nat_lt (position_or_len (λ (place : Place). waits_with tag place.state)
            places) (length places) ≡ true = grind (arith, nat_tests) in
            let some : Some (position_or_len (λ (place : Place). waits_with tag place.state)
            places) ≡ None = rw test at none in
            cc
        | inr past_last ↦
            let fails = fails_before_first (λ (place : Place). waits_with tag place.state) places
            member (fresh_place 0) (omega arith) in
            false≢true (sym fails ∙ here)
      ]

  -- whom the object finds waits with the tag
  somebody_waits : (tag other : ℕ) → waiter_of places tag ≡ Some other →
      (other < space.members) × WaitsWith (stage_of past other) tag
  somebody_waits tag other found =
      let first = position-Some (λ (place : Place). waits_with tag place.state) places other
      (fresh_place 0) found in (
        rw (← shows.members) first.0,
        waits_from_state (stage_of past other) tag (rw (← shows.states other) first.1),
      )

module _ (space : Space) (places : List Place) (past : List Entry)
    (legal : IsLegal (rendezvous space) [] past) (shows : Shows space places past) (by : ℕ) where
  -- the answer is a tag space's, and what is kept is then what the history says
  record IsStepped (call : GroupCall) (told : GroupReply) (after : List Place) : Type 0 where
    answered : IsAnswered space past call told
    shown : Shows space after (record { by = by; request = call; reply = told } ∷ past)

  module _ (call : GroupCall) (told : GroupReply) where
    abbrev longer : List Entry
    longer = record { by = by; request = call; reply = told } ∷ past

    -- an entry that changes no stage and makes no pair is shown as before
    shows_still : ((member : ℕ) → stage_of longer member ≡ stage_of past member)
        → pairs_of longer ≡ pairs_of past → Shows space places longer
    shows_still stages pairs = record {
      members = shows.members;
      states = λ member. rw (stages member) (shows.states member);
      counts = λ member below. rw pairs (shows.counts member below);
    }

    -- so is one that changes one member
    shows_put : (member : ℕ) (stage : Stage) (count : ℕ) → member < space.members
        → stage_of longer member ≡ stage
        → ((other : ℕ) → member ≢ other → stage_of longer other ≡ stage_of past other)
        → count ≡ count_of space longer member
        → ((other : ℕ) → member ≢ other → count_of space longer other ≡ count_of space past other)
        → Shows space (put places member (state_of stage) count) longer
    shows_put member stage count below here elsewhere is_count counted = record {
      members = length-set places member _ ∙ shows.members;
      states = λ other. elim (cases_eq member other) [
        | inl same ↦ subst (λ m. (place_of new m).state ≡ state_of (stage_of longer m)) same
            (rw (mine, here) refl)
        | inr differs ↦ rw (others other differs, elsewhere other differs) (shows.states other)
      ];
      counts = λ other within. elim (cases_eq member other) [
        | inl same ↦ subst (λ m. (place_of new m).meetings ≡ count_of space longer m) same
            (rw mine is_count)
        | inr differs ↦
            rw (others other differs, counted other differs) (shows.counts other within)
      ];
    }
      where
        new : List Place
        new = put places member (state_of stage) count

        mine : place_of new member ≡ record { state = state_of stage; meetings = count }
        mine = get_or-set_same places member _ (fresh_place 0) (rw shows.members below)

        others : (other : ℕ) → member ≢ other → place_of new other ≡ place_of places other
        others other differs =
            get_or-set_other places member other _ (fresh_place 0) (λ same. differs (sym same))

    -- a call that is over
    shows_over : (member : ℕ) → member < space.members
        → ((other : ℕ) → stage_of longer other ≡
        (if eqb member other then Over else stage_of past other))
        → pairs_of longer ≡ pairs_of past
        → Shows space (put places member Idle (place_of places member).meetings) longer
    shows_over member below stages pairs =
        shows_put member Over _ below (stages member ∙ rw (yes member) refl)
        (λ other differs. stages other ∙ rw (no member other differs) refl)
        (rw pairs (shows.counts member below)) (λ other differs. rw pairs refl)

  -- a call that finds another
  call_finds : (member : ℕ) (tag : Tag) (value other : ℕ) → MayCall space past member
      → other < space.members → WaitsWith (stage_of past other) tag.0
      → IsStepped (Call member tag value) (answer_to_call places member (Some other))
      (after_call places member tag value (Some other))
  call_finds member tag value other may below waits =
      let finding : Offer =
      record { number = length past; member = member; tag = tag.0; value = value } in
      let pair : Pair = record { waiting = waits.offer; finding = finding } in
      let new = longer (Call member tag value) (answer_to_call places member (Some other)) in
      let mine = ((is_space space past legal).waits other waits.offer waits.stage_is).mine in
      let pairs = ap (λ (o : Option Offer). pair_with finding o ++ pairs_of past)
      (waits_last past other waits.offer waits.stage_is) in
      record {
        answered = (
          may,
          record {
            offer = waits.offer;
            waits = waits.stage_is;
            tag_is = waits.tag_is;
            given_is = ap value_given (shows.states other) ∙ waits.value_is;
            count_is = ap (λ n. n + 1) (shows.counts other below);
          },
        );
        shown = shows_put _ _ other (Paired pair) _ below
            (rw (yes other) (ap (found_by finding) waits.stage_is))
            (λ third differs. rw (no other third differs) refl)
            (ap (λ n. n + 1) (shows.counts other below)
            ∙ sym (counted_here space past new pair pairs other mine))
            (λ third differs. counted_elsewhere space past new pair pairs third
            (λ same. differs (sym mine ∙ same)));
      }

  -- a call of a member that may call, by who waits with its tag
  call_by_waiter : (member : ℕ) (tag : Tag) (value : ℕ) → MayCall space past member →
      (found : Option ℕ) → waiter_of places tag.0 ≡ found →
      IsStepped (Call member tag value) (answer_to_call places member found)
      (after_call places member tag value found)
  call_by_waiter member tag value may (Some other) found =
      let waits = somebody_waits space places past shows tag.0 other found in
      call_finds member tag value other may waits.0 waits.1
  call_by_waiter member tag value may None none =
      let nobody = nobody_waits space places past shows tag.0 none in
      let count = shows.counts member may.exists in
      elim (cases_eq (place_of places member).meetings LAST_MEETING) [
        | inl last ↦
            let test : eqb (place_of places member).meetings LAST_MEETING ≡ true =
            grind (arith, nat_tests) in
            rw test (record {
              answered = (may, nobody, sym count ∙ last);
              shown = shows_still _ _ (λ other. refl) refl;
            })
        | inr more ↦
            rw (no _ LAST_MEETING more) (record {
              answered = (may, nobody, count, more);
              shown = shows_put _ _ member (Waits (record {
                number = length past;
                member = member;
                tag = tag.0;
                value = value;
              })) _ may.exists (rw (yes member) refl)
                  (λ other differs. rw (no member other differs) refl) count
                  (λ other differs. refl);
            })
      ]

  -- a member asks, by what became of its call
  collect_by_stage : (member : ℕ) → member < space.members → (stage : Stage) →
      stage_of past member ≡ stage → IsStepped (Collect member)
      (answer_to_collect (state_of stage) (place_of places member).meetings)
      (put places member (after_collect (state_of stage)) (place_of places member).meetings)
  collect_by_stage member below (Paired pair) is = record {
    answered = (below, record { pair = pair; paired = is; given_is = refl });
    shown = shows_over _ _ member below (λ other. refl) refl;
  }
  collect_by_stage member below stage is = record {
    answered = (
      record { exists = below; none = λ pair paired. let never = sym is ∙ paired in cc },
      shows.counts member below,
    );
    shown = rw (ap (λ (state : CallState). put places member state
        (place_of places member).meetings) (ap state_of (sym is) ∙ sym (shows.states member))
        ∙ set-get_or places member (fresh_place 0)) (shows_still _ _ (λ other. refl) refl);
  }

  leave_by_stage : (member : ℕ) → member < space.members → (stage : Stage) → stage_of past member ≡
      stage → IsStepped (Leave member) (answer_to_leave (state_of stage))
      (put places member Idle (place_of places member).meetings)
  leave_by_stage member below (Paired pair) is = record {
    answered = (below, record { pair = pair; paired = is; given_is = refl });
    shown = shows_over _ _ member below (λ other. refl) refl;
  }
  leave_by_stage member below stage is = record {
    answered = record { exists = below; none = λ pair paired. let never = sym is ∙ paired in cc };
    shown = shows_over _ _ member below (λ other. refl) refl;
  }

  -- who is no member is busy
  module _ (member : ℕ) where
    is_there : member < length places → nat_lt member (length places) ≡ true
    is_there below = grind (arith, nat_tests)

    is_not_there : length places ≤ member → nat_lt member (length places) ≡ false
    is_not_there past_last = grind (arith, nat_tests)

  -- each request is answered as a tag space may answer, and leaves what the history then says
  step : (call : GroupCall) → IsStepped call (answer_to places call) (places_after places call)
  step (Call member tag value) = elim (cases_Bool (may_call places member)) [
    | inl may ↦ rw may (call_by_waiter member tag value
        (may_call_is space places past shows member may) (waiter_of places tag.0) refl)
    | inr not ↦ rw not (record {
      answered = may_not_call_is space places past shows member not;
      shown = shows_still _ _ (λ other. refl) refl;
    })
  ]
  step (Collect member) = elim (cases_lt member (length places)) [
    | inl below ↦ rw (is_there member below, shows.states member) (collect_by_stage member
        (rw (← shows.members) below) (stage_of past member) refl)
    | inr past_last ↦ rw (is_not_there member past_last) (record {
      answered = rw (← shows.members) past_last;
      shown = shows_still _ _ (λ other. refl) refl;
    })
  ]
  step (Leave member) = elim (cases_lt member (length places)) [
    | inl below ↦ rw (is_there member below, shows.states member) (leave_by_stage member
        (rw (← shows.members) below) (stage_of past member) refl)
    | inr past_last ↦ rw (is_not_there member past_last) (record {
      answered = rw (← shows.members) past_last;
      shown = shows_still _ _ (λ other. refl) refl;
    })
  ]

module _ (space : Space) where
  -- before the first call nobody waits and nobody was met
  shows_opening : Shows space (opening space.members space.count) []
  shows_opening = record {
    members = length-replicate space.members (fresh_place space.count);
    states = λ member. elim (cases_lt member space.members) [
      | inl below ↦ ap (λ (place : Place). place.state)
          (get_or-replicate space.members member (fresh_place space.count) (fresh_place 0) below)
      | inr past_last ↦ ap (λ (place : Place). place.state)
          (get_or_past (opening space.members space.count) member (fresh_place 0)
          (rw (length-replicate space.members (fresh_place space.count)) past_last))
    ];
    counts = λ member below. ap (λ (place : Place). place.meetings)
        (get_or-replicate space.members member (fresh_place space.count) (fresh_place 0) below) ∙
        omega arith;
  }

  -- each history of the object is one of the space, and shows what the object keeps
  keeps : (history : List Entry)
      → IsLegal (meaning_of group) (opening space.members space.count) history
      → IsLegal (rendezvous space) [] history × Shows space
      (state_after (meaning_of group) (opening space.members space.count) history) history
  keeps [] legal = (tt, shows_opening)
  keeps (entry ∷ past) legal =
      let before = keeps past legal.1 in
      let places = state_after (meaning_of group) (opening space.members space.count) past in
      let stepped = step space places past before.0 before.1 entry.by entry.request in
      let now : GroupReply → Entry =
      λ told. record { by = entry.by; request = entry.request; reply = told } in
      subst (λ told. IsLegal (rendezvous space) [] (now told ∷ past)
      × Shows space (places_after places entry.request) (now told ∷ past)) (sym legal.0.reply) (
        (
          subst (λ h. IsRight space h (now (answer_to places entry.request)))
              (sym (state_is_past space past))
              (record { own = sym legal.0.named; answered = stepped.answered }),
          before.0,
        ),
        stepped.shown,
      )

-- each history of the object is one of the space
pub objects_are_spaces : ObjectsAreSpaces
objects_are_spaces space history legal = (keeps space history legal).0
