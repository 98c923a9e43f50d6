-- Where the ring keeps a direction: the tail, and a sequence word and a slot for each place. Writes
-- are counted from 0: write c is the one with the number first + c + 1. Own; like the ring of
-- Vyukov's bounded queue, but for its numbering, which distinguishes stored and free where there is
-- one place.
use Rattle.std.specs.Prelude.{◌≡◌, ◌≢◌, ◌⊎◌, ◌+◌, ◌*◌, ◌/◌, ◌%◌, ◌<◌, ◌≤◌, ℕ, Bool, false}
use Rattle.std.specs.Prelude.{if◌then◌else◌, Option, Some, None}
use Rattle.std.specs.Prelude.{List, length, slice_get, slice_index}
use mathlib.Core.Option.{some}
use mathlib.Core.Option as maybe
use lib.ListN.{get_elem?}
use Rattle.sync_base.specs.Pipe.{PipeState}
use Rattle.sync_base.specs.Write.{Write}
use Rattle.sync_base.specs.declared.limits.TheConstants.{LAST_WRITE}
use Rattle.sync_base.specs.declared.line.TheConstants.{LINE}
use Rattle.block_queue.specs.declared.places.TheConstants.{MARK}
use Rattle.block_queue.specs.History.{QueueState}

-- the tail: how many writes were accepted, with the mark where the queue is hung up
abbrev pub tail_word : PipeState → ℕ
tail_word s = if s.hung then length s.accepted + MARK else length s.accepted

-- the place of a write, and how many times the ring went round before it
abbrev pub place_of : ℕ → ℕ → ℕ
place_of limit count = count % limit

abbrev pub lap_of : ℕ → ℕ → ℕ
lap_of limit count = count / limit

-- the word of a place: the tail has the first line to itself, and each place has two words
abbrev pub sequence_of : ℕ → ℕ
sequence_of place = LINE + 2 * place

-- how many words there are
abbrev pub ring_words : ℕ → ℕ
ring_words limit = LINE + 2 * limit

-- the word of a place while it is free for the write, and while the write stands there
abbrev pub free_word : ℕ → ℕ → ℕ
free_word limit count = 2 * lap_of limit count

abbrev pub stored_word : ℕ → ℕ → ℕ
stored_word limit count = 2 * lap_of limit count + 1

-- what the slots hold; a slot that is out with a seat has none
abbrev pub Homes : Type 0
Homes = List (maybe.Option (Option Write))

-- a write that was accepted and whose put has not returned
abbrev pub IsUnstored : ℕ → QueueState → Write → ℕ → Type 0
IsUnstored first s write count = s.putting (write.writer + 1) ≡ Some (first + count + 1)

-- the word and slot of the place of a write that no read has begun
pub record IsPlace (limit first : ℕ) (s : QueueState) (out : Bool) (words : List ℕ) (homes : Homes)
    (count : ℕ) : Type 0 where
  -- no write has taken the place: it is free, and its slot empty
  pub free : length s.pipe.accepted ≤ count →
      slice_index words (sequence_of (place_of limit count)) ≡ free_word limit count
  pub empty : length s.pipe.accepted ≤ count →
      get_elem? homes (place_of limit count) ≡ some (some None)
  -- a write has taken the place, and does not stand yet: the word is as it was
  pub begun : (write : Write) → slice_get s.pipe.accepted count ≡ Some write →
      IsUnstored first s write count →
      slice_index words (sequence_of (place_of limit count)) ≡ free_word limit count
  -- the write stands there
  pub stored : (write : Write) → slice_get s.pipe.accepted count ≡ Some write →
      (IsUnstored first s write count → ⊥) →
      slice_index words (sequence_of (place_of limit count)) ≡ stored_word limit count
  -- the write's block is in the slot, unless the reader has taken it out
  pub full : (write : Write) → slice_get s.pipe.accepted count ≡ Some write →
      (IsUnstored first s write count → ⊥) → (out ≡ false) ⊎ (count ≢ s.pipe.read_whole) →
      get_elem? homes (place_of limit count) ≡ some (some (Some write))

-- the words and slots of the ring are those of the direction
pub record AreWords (limit first : ℕ) (s : QueueState) (out : Bool) (words : List ℕ)
    (homes : Homes) : Type 0 where
  pub word_count : length words ≡ ring_words limit
  pub slot_count : length homes ≡ limit
  pub tail : slice_index words 0 ≡ tail_word s.pipe
  pub places : (count : ℕ) → s.pipe.read_whole ≤ count → count < s.pipe.read_whole + limit →
      IsPlace limit first s out words homes count

-- what holds in each state that a legal history leaves
pub record IsQueueState (limit first : ℕ) (s : QueueState) : Type 0 where
  pub limit_is : s.pipe.limit ≡ limit
  pub whole : s.pipe.offset ≡ 0
  pub within : s.pipe.read_whole ≤ length s.pipe.accepted
  pub room : length s.pipe.accepted ≤ s.pipe.read_whole + limit
  pub given : first + length s.pipe.accepted ≤ LAST_WRITE
