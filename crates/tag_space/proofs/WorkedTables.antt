-- What the table of those who wait is, and what a space keeps: each against the rows that it names.
use Rattle.std.proofs.Common.{◌≡◌, ◌<◌, ◌≤◌, ℕ, List, length, true}
use Rattle.tag_space.specs.declared.limits.TheConstants.{LAST_MEETING}
use Rattle.tag_space.specs.declared.place.Place.{Place}
use Rattle.tag_space.specs.GroupObject.{place_of}
use Rattle.tag_space.specs.Table.{TagEntry, IsAt, IsGapFor, IsRising, AreCounts}
use Rattle.tag_space.specs.Table.{IsGroupObject}
use Rattle.tag_space.specs.Table.{ListsWaiting, tag_at, member_at, waits_at, waiters}
use Rattle.tag_space.specs.Table.{is_waiting}

module _ (table : List TagEntry) (places : List Place) where
  tags_rise : IsRising table → (i j : ℕ) → i < j → j < length table
      → tag_at table i < tag_at table j
  tags_rise rising = rising

  module _ (tag i : ℕ) where
    a_line_has_its_tag : IsAt table tag i → (i < length table) × (tag_at table i ≡ tag)
    a_line_has_its_tag is = (is.in_range, is.has_tag)

    a_gap_is_between_its_neighbours : IsGapFor table tag i → (i ≤ length table)
        × ((j : ℕ) → j < i → tag_at table j < tag)
        × ((j : ℕ) → i ≤ j → j < length table → tag < tag_at table j)
    a_gap_is_between_its_neighbours is = (is.in_range, is.smaller_before, is.greater_after)

  a_list_has_a_line_for_each_who_waits : ListsWaiting table places → IsRising table
      × ((i : ℕ) → i < length table
      → waits_at places (tag_at table i) (member_at table i) ≡ true)
      × ((tag member : ℕ) → waits_at places tag member ≡ true
      → (i : ℕ) × (i < length table) × (tag_at table i ≡ tag) × (member_at table i ≡ member))
  a_list_has_a_line_for_each_who_waits lists = (lists.rising, lists.waits, lists.has_entry)

  who_waits_can_be_counted : AreCounts places → (member : ℕ)
      → ((place_of places member).meetings ≤ LAST_MEETING)
      × (is_waiting (place_of places member).state ≡ true
      → (place_of places member).meetings < LAST_MEETING)
  who_waits_can_be_counted are member = (are.within member, are.waiting member)

  a_space_has_room_for_each : (room : ℕ) → IsGroupObject table places room
      → ListsWaiting table places × (length table ≡ waiters places) × AreCounts places
      × (length places ≤ room)
  a_space_has_room_for_each room is = (is.entries, is.as_many, is.counts, is.enough)
