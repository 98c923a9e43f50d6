-- The table in which a tag space finds the call that waits with a tag: an entry for each call that
-- waits, tags rising, in one piece of memory, with room on both sides.
use Rattle.std.specs.Prelude.{◌≡◌, ℕ, ◌+◌, ◌*◌, ◌-◌, ◌<◌, ◌≤◌, Bool, true, false}
use Rattle.std.specs.Prelude.{List, length, take, drop, slice_index_or, count_by}
use Rattle.sync_base.specs.declared.ids.Tag.{Tag}
use Rattle.tag_space.specs.declared.place.CallState.{CallState}
use Rattle.tag_space.specs.declared.place.CallState.TheVariants.{Idle, Waiting, Met}
use Rattle.tag_space.specs.declared.place.Place.{Place}
use Rattle.tag_space.specs.declared.limits.TheConstants.{LAST_MEETING}
use Rattle.tag_space.specs.declared.tag_table.TagTable.{TagTable}
use Rattle.tag_space.specs.GroupObject.{place_of, waits_with}

-- a tag, and the member that waits with it
abbrev pub TagEntry : Type 0
TagEntry = Tag × ℕ

abbrev pub no_entry : TagEntry
no_entry = (record { 0 = 0 }, 0)

abbrev pub tag_at : List TagEntry → ℕ → ℕ
tag_at table i = let entry = slice_index_or table i no_entry in entry.0.0

abbrev pub member_at : List TagEntry → ℕ → ℕ
member_at table i = let entry = slice_index_or table i no_entry in entry.1

-- the tags rise, so no tag comes twice
abbrev pub IsRising : List TagEntry → Type 0
IsRising table = (i j : ℕ) → i < j → j < length table → tag_at table i < tag_at table j

-- the entry at place i has the tag
pub record IsAt (table : List TagEntry) (tag i : ℕ) : Type 0 where
  pub in_range : i < length table
  pub has_tag : tag_at table i ≡ tag

-- the tag would be at place i: smaller tags are before it, and greater ones from it on
pub record IsGapFor (table : List TagEntry) (tag i : ℕ) : Type 0 where
  pub in_range : i ≤ length table
  pub smaller_before : (j : ℕ) → j < i → tag_at table j < tag
  pub greater_after : (j : ℕ) → i ≤ j → j < length table → tag < tag_at table j

-- whether this member waits with the tag
abbrev pub waits_at : List Place → ℕ → ℕ → Bool
waits_at places tag member = waits_with tag (place_of places member).state

-- whether a member with this state waits
abbrev pub is_waiting : CallState → Bool
is_waiting Idle = false
is_waiting (Waiting tag value) = true
is_waiting (Met value) = false

-- how many members wait
abbrev pub waiters : List Place → ℕ
waiters places = count_by (λ place. is_waiting place.state) places

-- the list has the calls that wait, each once, tags rising
pub record ListsWaiting (entries : List TagEntry) (places : List Place) : Type 0 where
  pub rising : IsRising entries
  pub waits : (i : ℕ) → i < length entries
      → waits_at places (tag_at entries i) (member_at entries i) ≡ true
  pub has_entry : (tag member : ℕ) → waits_at places tag member ≡ true
      → (i : ℕ) × (i < length entries) × (tag_at entries i ≡ tag) × (member_at entries i ≡ member)

-- no count is above the last count, and the next meeting of a member that waits can still be
-- counted
pub record AreCounts (places : List Place) : Type 0 where
  pub within : (member : ℕ) → (place_of places member).meetings ≤ LAST_MEETING
  pub waiting : (member : ℕ) → is_waiting (place_of places member).state ≡ true
      → (place_of places member).meetings < LAST_MEETING

-- what a space keeps: its members, the table of the members that wait, an entry for each, and room
-- for an entry of each member
pub record IsGroupObject (table : List TagEntry) (places : List Place) (room : ℕ) : Type 0 where
  pub entries : ListsWaiting table places
  pub as_many : length table ≡ waiters places
  pub counts : AreCounts places
  pub enough : length places ≤ room

-- ---- a search for a tag in a table, narrowed step by step

-- the tags before place i are smaller, and from `left` entries further on no tag is
pub record IsNarrowed (table : List TagEntry) (tag i left : ℕ) : Type 0 where
  pub in_range : i + left ≤ length table
  pub smaller_before : (j : ℕ) → j < i → tag_at table j < tag
  pub none_after : (j : ℕ) → i + left ≤ j → j < length table → tag ≤ tag_at table j

-- of the three quarters from place i on, this many end with a smaller tag, and they are the first
pub record AreSmaller (table : List TagEntry) (tag i quarter count : ℕ) : Type 0 where
  pub most : count ≤ 3
  pub last : 0 < count → tag_at table (i + count * quarter - 1) < tag
  pub next : count < 3 → tag ≤ tag_at table (i + (count + 1) * quarter - 1)

-- ---- the piece of memory

-- the entries, in their order
abbrev pub entries_of : TagTable → List TagEntry
entries_of entries = take entries.count (drop entries.first entries.slots.items)

-- how many entries there is room for
abbrev pub room_of : TagTable → ℕ
room_of entries = length entries.slots.items
