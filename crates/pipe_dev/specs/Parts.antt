-- What a reader got of a direction, part by part, the newest first; and the pieces that the parts
-- of one write make.
use Rattle.std.specs.Prelude.{◌==◌, ◌&&◌, ◌+◌, ℕ, Bool, true, false, not, if◌then◌else◌, nat_le}
use Rattle.std.specs.Prelude.{List, [], ◌∷◌, ◌++◌, length, take, drop, map, Option, Some, None}
use Rattle.std.specs.List.{filter}
use Rattle.sync_base.specs.Write.{Write}

-- some bytes of a write: the place of the write among the accepted writes, counted from 0, and its
-- writer
pub record Part : Type 0 where
  pub place : ℕ
  pub writer : ℕ
  pub bytes : List ℕ

-- After pipe(3). What a read of at most this many bytes gives of what is left of a write, and what
-- it leaves: a write that is used up is read whole.
abbrev pub part_of : ℕ → Part → Part
part_of most left = record left { bytes = take most left.bytes }

abbrev pub rest_of : ℕ → Part → Option Part
rest_of most left =
    if nat_le (length left.bytes) most then None
    else Some (record left { bytes = drop most left.bytes })

abbrev pub is_empty : List ℕ → Bool
is_empty [] = true
is_empty (byte ∷ bytes) = false

-- The part goes on where the piece ended: both are of one write. An empty part continues no piece:
-- it is all of a write that has no bytes.
abbrev pub goes_on : Part → Part → Bool
goes_on piece part =
    (piece.place == part.place) && (piece.writer == part.writer)
    && not (is_empty piece.bytes) && not (is_empty part.bytes)

-- the piece with the bytes of the part after its own
abbrev pub longer_by : Part → Part → Part
longer_by piece part = record piece { bytes = piece.bytes ++ part.bytes }

-- one more part: it continues the latest piece, or begins another
abbrev pub with_part : Part → List Part → List Part
with_part part [] = part ∷ []
with_part part (piece ∷ past) =
    if goes_on piece part then longer_by piece part ∷ past else part ∷ piece ∷ past

-- the pieces that the parts make, the newest first
abbrev pub pieces_of : List Part → List Part
pieces_of [] = []
pieces_of (part ∷ past) = with_part part (pieces_of past)

-- the write at this place, whole
abbrev pub whole_at : ℕ → Write → Part
whole_at place write = record { place = place; writer = write.writer; bytes = write.bytes }

-- these writes, each whole, the first at this place
abbrev pub whole_from : ℕ → List Write → List Part
whole_from place [] = []
whole_from place (write ∷ writes) = whole_at place write ∷ whole_from (place + 1) writes

-- what was read, continued by what is left of a write that was begun
abbrev pub continued : Option Part → List Part → List Part
continued None parts = parts
continued (Some rest) parts = rest ∷ parts

-- the bytes of the pieces by this writer
abbrev pub bytes_by : ℕ → List Part → List (List ℕ)
bytes_by writer pieces =
    map (λ piece. piece.bytes) (filter (λ piece. piece.writer == writer) pieces)

-- the bytes of parts, the newest first, one part after the other
abbrev pub bytes_of : List Part → List ℕ
bytes_of [] = []
bytes_of (part ∷ parts) = bytes_of parts ++ part.bytes
