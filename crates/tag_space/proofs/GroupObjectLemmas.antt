-- What a space keeps stays whole in each step, and answers it as the definition does: a member is
-- met, begins to wait, is told or leaves.
use Rattle.std.proofs.Common.{◌≡◌, ℕ, ◌+◌, ◌<◌, ◌≤◌, ◌≢◌, true, false, List, length, get_or, cond}
use Rattle.std.proofs.Common.{eqb, if◌then◌else◌, Option, refl, sym, ap, ◌∙◌, arith, inl, inr}
use Rattle.std.specs.List.{insert, remove}
use Rattle.std.proofs.lemmas.Bool.{cases_eq, false≢true}
use Rattle.std.proofs.lemmas.Bool.Decides.{nat_tests}
use Rattle.std.proofs.lemmas.Grind.{common_steps}
use Rattle.std.proofs.lemmas.List.{get_or-set_same, get_or-set_other, length-set, get_or_default}
use Rattle.std.proofs.lemmas.List.Edits.{length-insert, length-remove}
use Rattle.std.proofs.lemmas.List.Sums.{count_by-le-length}
use Rattle.sync_base.specs.declared.ids.Tag.{Tag}
use Rattle.tag_space.specs.declared.calls.GroupCall.TheVariants.{Call}
use Rattle.tag_space.specs.declared.calls.GroupReply.TheVariants as reply
use Rattle.tag_space.specs.declared.limits.TheConstants.{LAST_MEETING}
use Rattle.tag_space.specs.declared.place.CallState.{CallState}
use Rattle.tag_space.specs.declared.place.CallState.TheVariants.{Idle, Waiting, Met}
use Rattle.tag_space.specs.declared.place.Place.{Place}
use Rattle.tag_space.specs.GroupObject.{place_of, fresh_place, put, waiter_of, may_call}
use Rattle.tag_space.specs.GroupObject.{answer_to, places_after, answer_to_call, after_call}
use Rattle.tag_space.specs.GroupObject.{value_given}
use Rattle.tag_space.specs.Table.{TagEntry, no_entry, member_at, IsAt, IsGapFor, waits_at}
use Rattle.tag_space.specs.Table.{is_waiting, ListsWaiting, IsGroupObject}
use Rattle.tag_space.proofs.TableLemmas.{waits_with_some, waiter_in_range, waiters_put}
use Rattle.tag_space.proofs.TableLemmas.{waits_there, alone_there, finds_waiter, finds_nobody}
use Rattle.tag_space.proofs.TableLemmas.{nobody_there, lists_without, lists_still, lists_with}

module _ (table : List TagEntry) (places : List Place) (room : ℕ)
    (group : IsGroupObject table places room) where
  -- it stays whole where one member is put, and the entries are those who wait then
  module _ (member : ℕ) (state : CallState) (count : ℕ) (below : member < length places) where
    kept : (new : List TagEntry) → ListsWaiting new (put places member state count)
        → length new + cond (is_waiting (place_of places member).state) 1 0
        ≡ length table + cond (is_waiting state) 1 0
        → count ≤ LAST_MEETING → (is_waiting state ≡ true → count < LAST_MEETING)
        → IsGroupObject new (put places member state count) room
    kept new entries many most less =
        let waiters = waiters_put places member state count below in
        record {
          entries = entries;
          as_many = omega (arith, many, waiters, group.as_many);
          counts = record {
            within = λ other. (counts other).0;
            waiting = λ other. (counts other).1;
          };
          enough = rw length-set group.enough;
        }
      where
        counts : (other : ℕ)
            → ((place_of (put places member state count) other).meetings ≤ LAST_MEETING)
            × (is_waiting (place_of (put places member state count) other).state ≡ true
            → (place_of (put places member state count) other).meetings < LAST_MEETING)
        counts other = elim (cases_eq other member) [
          | inl same ↦
              rw same (rw (get_or-set_same places member _ (fresh_place 0) below) (most, less))
          | inr differs ↦ rw (get_or-set_other places member other _ (fresh_place 0) differs)
              (group.counts.within other, group.counts.waiting other)
        ]

  -- the member whose call waits goes out with its entry
  module _ (tag i : ℕ) (at : IsAt table tag i) (member : ℕ) (mine : member ≡ member_at table i)
    where
      waits_here : waits_at places tag member ≡ true
      waits_here = rw mine (waits_there table places group.entries tag i at)

      in_range : member < length places
      in_range = waiter_in_range places tag member waits_here

      its_count : (place_of places member).meetings < LAST_MEETING
      its_count =
          group.counts.waiting member
          (waits_with_some (place_of places member).state tag waits_here)

      goes_out : (state : CallState) (count : ℕ) → is_waiting state ≡ false → count ≤ LAST_MEETING
          → IsGroupObject (remove table i) (put places member state count) room
      goes_out state count over most =
          kept member state count in_range (remove table i)
          (lists_without table places group.entries member state count in_range over tag i at mine)
          (rw (waits_with_some (place_of places member).state tag waits_here, over)
          (omega (arith, length-remove table i at.in_range)))
          most (λ waits. absurd (false≢true (sym over ∙ waits)))

  -- ---- a member, as its place is read

  module _ (slice : List Place) (is_slice : slice ≡ places) (member : ℕ) (place : Place)
      (its : (member < length slice) × ((d : Place) → place ≡ get_or slice member d)) where
    below : member < length places
    below = rw (← is_slice) its.0

    -- it is the member's place
    is_place : place ≡ place_of places member
    is_place = rw is_slice at (its.1 (fresh_place 0))

    -- and so it is where it is read again
    pub read_again : (again : Place) → again ≡ get_or places member again → again ≡ place
    read_again again read =
        read ∙ get_or_default places member again (fresh_place 0) below ∙ sym is_place

    module _ (rests : is_waiting place.state ≡ false) where
      its_rests : is_waiting (place_of places member).state ≡ false
      its_rests = rw is_place at rests

      -- a member that doesn't wait is told
      pub told : IsGroupObject table (put places member Idle place.meetings) room
      told =
          kept member Idle place.meetings below table
          (lists_still table places group.entries member Idle place.meetings below its_rests refl)
          (rw its_rests refl) (rw is_place (group.counts.within member))
          (λ waits. absurd (false≢true waits))

      -- there is room for its entry
      pub has_place : length table < room
      has_place =
          let one_more = waiters_put places member (Waiting (record { 0 = 0 }) 0) 0 below in
          let most = count_by-le-length (λ (place : Place). is_waiting place.state)
          (put places member (Waiting (record { 0 = 0 }) 0) 0) in
          let rests = its_rests in
          grind (arith, group.as_many, group.enough, common_steps)

      -- it begins to wait
      pub waits : (key : Tag) (i value : ℕ) → IsGapFor table key.0 i
          → place.meetings ≢ LAST_MEETING
          → IsGroupObject (insert table i (key, member))
          (put places member (Waiting key value) place.meetings) room
      waits key i value gap not_last =
          let most : place.meetings ≤ LAST_MEETING = rw is_place (group.counts.within member) in
          kept member (Waiting key value) place.meetings below (insert table i (key, member))
          (lists_with table places group.entries member key value place.meetings i below its_rests
          gap)
          (rw its_rests (omega (arith, length-insert table i (key, member) gap.in_range)))
          most (λ waits. omega arith)

    -- a member that waits is found by a search
    pub is_found : (tag i : ℕ) → waits_at places tag member ≡ true → IsGapFor table tag i → ⊥
    is_found tag i waits gap = nobody_there table places group.entries tag i gap member waits

    -- and leaves with its entry
    pub left : (tag i : ℕ) → waits_at places tag member ≡ true → IsAt table tag i
        → IsGroupObject (remove table i) (put places member Idle place.meetings) room
    left tag i waits at =
        goes_out tag i at member (alone_there table places group.entries tag i at member waits) Idle
        place.meetings refl (rw is_place (group.counts.within member))

    -- a call of a member that may call is answered by who waits with its tag
    module _ (idle : place.state ≡ Idle) (tag : Tag) (value : ℕ) where
      answers_call : (found : Option ℕ) → waiter_of places tag.0 ≡ found →
          (answer_to places (Call member tag value) ≡ answer_to_call places member found) ×
          (places_after places (Call member tag value) ≡ after_call places member tag value found)
      answers_call found waiter =
          let may : may_call places member ≡ true =
          rw (← is_place) (rw idle (grind (arith, nat_tests, below))) in
          (rw may (rw waiter refl), rw may (rw waiter refl))

      -- one whose tag has none waits, or is worn out
      pub answers_alone : (i : ℕ) → IsGapFor table tag.0 i
          → (answer_to places (Call member tag value) ≡
          (if eqb place.meetings LAST_MEETING then reply.Worn else reply.Wait place.meetings)) ×
          (places_after places (Call member tag value) ≡ (if eqb place.meetings LAST_MEETING
          then places else put places member (Waiting tag value) place.meetings))
      answers_alone i gap =
          rw is_place (answers_call _ (finds_nobody table places group.entries tag.0 i gap))

  -- ---- the member whose entry is read

  module _ (slice : List TagEntry) (is_slice : slice ≡ table) (tag : Tag) (i : ℕ)
      (found : IsAt slice tag.0 i) (entry : TagEntry) (read : entry ≡ get_or table i entry) where
    at : IsAt table tag.0 i
    at = rw (← is_slice) found

    mine : entry.1 ≡ member_at table i
    mine = ap (λ (e : TagEntry). e.1) (read ∙ get_or_default table i entry no_entry at.in_range)

    -- it is a member
    pub found_below : entry.1 < length places
    found_below = in_range tag.0 i at entry.1 mine

    module _ (place : Place) (its : place ≡ get_or places entry.1 place) where
      found_place : place ≡ place_of places entry.1
      found_place = its ∙ get_or_default places entry.1 place (fresh_place 0) found_below

      -- one more meeting of it can be counted
      pub found_counts : place.meetings < LAST_MEETING
      found_counts = rw found_place (its_count tag.0 i at entry.1 mine)

      -- it is met
      pub found_met : (value : ℕ)
          → IsGroupObject (remove table i) (put places entry.1 (Met value) (place.meetings + 1))
          room
      found_met value =
          goes_out tag.0 i at entry.1 mine (Met value) (place.meetings + 1) refl
          (omega (arith, found_counts))

      -- by a call with its tag
      pub answers_met : (slice : List Place) (is_slice : slice ≡ places) (member : ℕ) (own : Place)
          (its : (member < length slice) × ((d : Place) → own ≡ get_or slice member d))
          → own.state ≡ Idle → (value : ℕ)
          → (answer_to places (Call member tag value)
          ≡ reply.Met (value_given place.state) entry.1 (place.meetings + 1))
          × (places_after places (Call member tag value)
          ≡ put places entry.1 (Met value) (place.meetings + 1))
      answers_met slice is_slice member own its idle value =
          rw (found_place, mine) (answers_call slice is_slice member own its idle tag value _
          (finds_waiter table places group.entries tag.0 i at))
