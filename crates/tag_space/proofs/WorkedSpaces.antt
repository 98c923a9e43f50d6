-- Short histories of tag spaces, computed, and for each promise a history that would break it.
use Rattle.std.proofs.Common.{◌≡◌, ℕ, List, [], ◌∷◌, refl, ap, arith, Some, inl, inr}
use Rattle.std.proofs.Common.{rules}
use Rattle.histories.specs.History.{IsLegal}
use Rattle.tag_space.specs.declared.calls.GroupCall.{GroupCall}
use Rattle.tag_space.specs.declared.calls.GroupCall.TheVariants.{Call, Collect, Leave}
use Rattle.tag_space.specs.declared.calls.GroupReply.{GroupReply}
use Rattle.tag_space.specs.declared.calls.GroupReply.TheVariants.{Met, WasMet, Wait, Worn, Gone}
use Rattle.tag_space.specs.declared.calls.GroupReply.TheVariants.{Busy}
use Rattle.tag_space.specs.GroupObject.{opening}
use Rattle.kernel_lock.specs.Definition.{meaning_of}
use Rattle.tag_space.specs.GroupObject.{group, member_of}
use Rattle.tag_space.specs.Rendezvous.{Entry, Space, Offer, Pair, stage_of, pairs_of, count_of}
use Rattle.tag_space.specs.Rendezvous.Stage.{Over, Waits, Paired}
use Rattle.tag_space.specs.Rendezvous.{rendezvous, last_wait}
use Rattle.tag_space.specs.Laws.{IsToldOf}
use Rattle.tag_space.specs.Outcome.{IsInPair}
use Rattle.tag_space.specs.Promises.{AreMeetings, IsMeeting, IsMade, MeetsOnce, WaitApart}
use Rattle.tag_space.specs.Promises.{IsAlone}
use Rattle.tag_space.proofs.SpaceLemmas.{objects_are_spaces}

-- a member's own call, answered so
abbrev pub told : GroupCall → GroupReply → Entry
told call reply = record { by = member_of call; request = call; reply = reply }

-- a call of this member with this tag and value
abbrev pub gives : ℕ → ℕ → ℕ → GroupCall
gives member tag value = Call member (record { 0 = tag }) value

-- the call with this number, of this member, with this tag and value
abbrev pub offer : ℕ → ℕ → ℕ → ℕ → Offer
offer number member tag value =
    record { number = number; member = member; tag = tag; value = value }

-- a space of two members whose meetings are counted from 0
abbrev pub two : Space
two = record { members = 2; count = 0 }

-- 0 waits, 1 finds it, 0 is told
abbrev pub one_waits : List Entry
one_waits = told (gives 0 7 5) (Wait 0) ∷ []

-- and member 1 finds it: it is answered the value 5, and whom to wake
abbrev pub one_is_found : List Entry
one_is_found = told (gives 1 7 9) (Met 5 0 1) ∷ one_waits

-- and member 0 is told of the value 9
abbrev pub one_is_told : List Entry
one_is_told = told (Collect 0) (WasMet 9) ∷ one_is_found

-- the two calls that met
abbrev pub the_pair : Pair
the_pair = record { waiting = offer 0 0 7 5; finding = offer 1 1 7 9 }

a_call_waits : stage_of one_waits 0 ≡ Waits (offer 0 0 7 5)
a_call_waits = refl

a_call_waits_alone : stage_of one_waits 1 ≡ Over
a_call_waits_alone = refl

a_call_is_found : stage_of one_is_found 0 ≡ Paired the_pair
a_call_is_found = refl

who_finds_does_not_wait : stage_of one_is_found 1 ≡ Over
who_finds_does_not_wait = refl

two_calls_are_a_pair : pairs_of one_is_found ≡ the_pair ∷ []
two_calls_are_a_pair = refl

a_call_is_over_once_told : stage_of one_is_told 0 ≡ Over
a_call_is_over_once_told = refl

a_meeting_counts_not_for_who_found : count_of two one_is_told 1 ≡ 0
a_meeting_counts_not_for_who_found = refl

-- it counts for who waited, from where the space begins
counts_begin_where_the_space_begins : count_of (record { members = 2; count = 6 }) one_is_told 0 ≡ 7
counts_begin_where_the_space_begins = refl

-- leaving tells of a meeting too
leaving_late : stage_of (told (Leave 0) (WasMet 9) ∷ one_is_found) 0 ≡ Over
leaving_late = refl

-- who leaves waits no longer
abbrev one_left : List Entry
one_left = told (Leave 0) Gone ∷ one_waits

who_left_is_out : stage_of one_left 0 ≡ Over
who_left_is_out = refl

-- asking too early changes nothing, and neither does a refusal
asking_early : stage_of (told (Collect 0) (Wait 0) ∷ one_waits) 0 ≡ Waits (offer 0 0 7 5)
asking_early = refl

calling_twice : stage_of (told (gives 0 8 1) Busy ∷ one_waits) 0 ≡ Waits (offer 0 0 7 5)
calling_twice = refl

-- a whole run of the object, and so of a space
abbrev a_run : List Entry
a_run =
    told (gives 1 8 1) Busy ∷ told (gives 1 7 9) (Wait 0) ∷ told (Leave 0) Gone
    ∷ told (gives 0 7 5) (Wait 1) ∷ one_is_told

the_object_runs_so : IsLegal (meaning_of group) (opening 2 0) a_run
the_object_runs_so = search rules

the_space_runs_so : IsLegal (rendezvous two) [] a_run
the_space_runs_so = objects_are_spaces two a_run the_object_runs_so

-- the last count: who has it finds others, and waits no more
abbrev a_worn_run : List Entry
a_worn_run =
    told (gives 0 8 3) (Met 2 1 18446744073709551614)
    ∷ told (gives 1 8 2) (Wait 18446744073709551613)
    ∷ told (gives 0 7 1) Worn
    ∷ told (Collect 0) (WasMet 9)
    ∷ told (gives 1 7 9) (Met 5 0 18446744073709551614)
    ∷ told (gives 0 7 5) (Wait 18446744073709551613) ∷ []

the_last_count_waits_no_more :
    IsLegal (meaning_of group) (opening 2 18446744073709551613) a_worn_run
the_last_count_waits_no_more = search rules

-- nobody but a member calls, and a member has one call at a time
no_such_member : IsLegal (rendezvous two) [] (told (gives 2 7 5) (Wait 0) ∷ []) → ⊥
no_such_member legal = omega (arith, legal.0.answered.0.exists)

waiting_twice : IsLegal (rendezvous two) [] (told (gives 0 8 1) (Wait 0) ∷ one_waits) → ⊥
waiting_twice legal = let over = legal.0.answered.0.is_over in cc

busy_for_nothing : IsLegal (rendezvous two) [] (told (gives 0 7 5) Busy ∷ []) → ⊥
busy_for_nothing legal = legal.0.answered (record { exists = omega arith; is_over = refl })

-- another's call
by_another : IsLegal (rendezvous two) [] (record { by = 1; request = gives 0 7 5; reply = Wait 0 } ∷
    []) → ⊥
by_another legal = omega (arith, legal.0.own)

-- a call whose tag waits doesn't wait beside it
waiting_beside : IsLegal (rendezvous two) [] (told (gives 1 7 9) (Wait 0) ∷ one_waits) → ⊥
waiting_beside legal = legal.0.answered.1 0 (offer 0 0 7 5) refl refl

-- a partner of another tag, an invented value, a count that stands still
another_tag : IsLegal (rendezvous two) [] (told (gives 1 8 9) (Met 5 0 1) ∷ one_waits) → ⊥
another_tag legal =
    let finds = legal.0.answered.1 in
    let same : Waits (offer 0 0 7 5) ≡ Waits finds.offer = finds.waits in
    let tag : 7 ≡ finds.offer.tag = cc in
    omega (arith, finds.tag_is)

an_invented_value : IsLegal (rendezvous two) [] (told (gives 1 7 9) (Met 6 0 1) ∷ one_waits) → ⊥
an_invented_value legal =
    let finds = legal.0.answered.1 in
    let same : Waits (offer 0 0 7 5) ≡ Waits finds.offer = finds.waits in
    let value : 5 ≡ finds.offer.value = cc in
    omega (arith, finds.given_is)

a_count_that_stands : IsLegal (rendezvous two) [] (told (gives 1 7 9) (Met 5 0 0) ∷ one_waits) → ⊥
a_count_that_stands legal = omega (arith, legal.0.answered.1.count_is)

-- a partner that left
one_that_left : IsLegal (rendezvous two) [] (told (gives 1 7 9) (Met 5 0 1) ∷ one_left) → ⊥
one_that_left legal = let waits = legal.0.answered.1.waits in cc

-- a call that meets itself
meets_itself : IsLegal (rendezvous two) [] (told (gives 0 7 9) (Met 5 0 1) ∷ one_waits) → ⊥
meets_itself legal = let over = legal.0.answered.0.is_over in cc

-- Gone though it was met, and met though it was not
gone_though_met : IsLegal (rendezvous two) [] (told (Leave 0) Gone ∷ one_is_found) → ⊥
gone_though_met legal = legal.0.answered.none the_pair refl

met_too_early : IsLegal (rendezvous two) [] (told (Collect 0) (WasMet 9) ∷ one_waits) → ⊥
met_too_early legal = let paired = legal.0.answered.1.paired in cc

another_value_told : IsLegal (rendezvous two) [] (told (Collect 0) (WasMet 8) ∷ one_is_found) → ⊥
another_value_told legal =
    let told = legal.0.answered.1 in
    let same : Paired the_pair ≡ Paired told.pair = told.paired in
    let pair : the_pair ≡ told.pair = cc in
    let value : 9 ≡ told.pair.finding.value = ap (λ (p : Pair). p.finding.value) pair in
    omega (arith, told.given_is)

-- ---- histories that break a promise: no space has them

the_first_call_has_the_number_0 : (entry : Entry) (first : Offer) → IsMade (entry ∷ []) first
    → first.number ≡ 0
the_first_call_has_the_number_0 entry first (inl made) = made.0
the_first_call_has_the_number_0 entry first (inr none) = absurd none

who_is_told_has_called : (past : List Entry) (member : ℕ) (told : IsToldOf past member 9)
    → (told.offer.member ≡ member) × IsInPair past told.offer 9
who_is_told_has_called past member told = (told.mine, told.in_pair)

a_meeting_is_of_two_calls : (history : List Entry) (pair : Pair) → IsMeeting history pair
    → IsMade history pair.waiting × IsMade history pair.finding
a_meeting_is_of_two_calls history pair is = (is.waiting, is.finding)

last_wait_of_who_left : last_wait one_left 0 ≡ Some (offer 0 0 7 5)
last_wait_of_who_left = refl

two_tags_meet : AreMeetings (told (gives 1 8 9) (Met 5 0 1) ∷ one_waits) → ⊥
two_tags_meet meetings = let same : 7 ≡ 8 = meetings.0.tags in omega (arith, same)

one_meets_itself : AreMeetings (told (gives 0 7 9) (Met 5 0 1) ∷ one_waits) → ⊥
one_meets_itself meetings = meetings.0.members refl

one_meets_twice : MeetsOnce (told (gives 1 7 4) (Met 5 0 2) ∷ one_is_found) → ⊥
one_meets_twice once = once.0.1.0 refl

two_wait_with_a_tag : WaitApart (told (gives 1 7 9) (Wait 0) ∷ one_waits) → ⊥
two_wait_with_a_tag apart =
    let same : 0 ≡ 1 = apart 0 1 (offer 0 0 7 5) (offer 1 1 7 9) refl refl refl in
    omega (arith, same)

one_meets_who_left : IsAlone (told (gives 1 7 9) (Met 5 0 1) ∷ one_left) 0 → ⊥
one_meets_who_left alone = alone.0 refl
