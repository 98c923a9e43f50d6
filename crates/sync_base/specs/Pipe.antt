-- One direction of a pipe: what was accepted, how far it is read, whether a read stops at the end
-- of a write, and whether it is hung up. It is the same for a pipe of one thread and for a queue
-- between threads, which numbers its writes.
use Rattle.std.specs.Prelude.{◌≡◌, ◌==◌, ℕ, ◌+◌, ◌-◌, ◌<◌, ◌≤◌, nat_lt, nat_le, Bool, true, false}
use Rattle.std.specs.Prelude.{if◌then◌else◌, List, [], ◌∷◌, ◌++◌, length, take, drop, slice_get}
use Rattle.std.specs.Prelude.{Option, None, Some, unwrap_or, Result, Ok, Err, ◌≢◌}
use Rattle.std.specs.List.{flat_map}
use Rattle.std.specs.Option.{option_map}
use Rattle.sync_base.specs.declared.answers.WriteAnswer.{WriteAnswer}
use Rattle.sync_base.specs.declared.answers.WriteAnswer.TheVariants.{Taken, Full, Hungup}
use Rattle.sync_base.specs.declared.answers.ReadAnswer.{ReadAnswer}
use Rattle.sync_base.specs.declared.answers.ReadAnswer.TheVariants.{Got, Empty, End}
use Rattle.sync_base.specs.declared.mode.Mode.{Mode}
use Rattle.sync_base.specs.declared.mode.Mode.TheVariants.{Message, Stream}
use Rattle.sync_base.specs.declared.fault.Fault.{Fault}
use Rattle.sync_base.specs.declared.fault.Fault.TheVariants.{TooBig, BadCount}
use Rattle.sync_base.specs.declared.limits.TheConstants.{ATOMIC_SIZE}
use Rattle.sync_base.specs.Write.{Write}

-- After pipe(3): a direction is a queue of writes, and a read begins where the last one ended.
pub record PipeState : Type 0 where
  pub limit : ℕ  -- how many writes may stand that no read has begun
  pub mode : Mode  -- whether a read stops at the end of a write
  pub accepted : List Write  -- each write that was accepted, the oldest first
  pub read_whole : ℕ  -- how many of them are read whole
  pub offset : ℕ  -- how many bytes of the next one are read; above 0 it is begun
  pub hung : Bool  -- whether the direction is hung up

-- a new direction in this mode
abbrev pub opening_in : Mode → ℕ → PipeState
opening_in mode limit =
    record {
      limit = limit;
      mode = mode;
      accepted = [];
      read_whole = 0;
      offset = 0;
      hung = false;
    }

-- a new direction, whose reads stop at the end of a write
abbrev pub opening : ℕ → PipeState
opening limit = opening_in Message limit

-- a new direction, whose reads go on
abbrev pub stream_opening : ℕ → PipeState
stream_opening limit = opening_in Stream limit

-- how many writes a read has begun
abbrev pub begun_of : PipeState → ℕ
begun_of s = if nat_lt 0 s.offset then s.read_whole + 1 else s.read_whole

-- how many writes no read has begun
abbrev pub waiting_of : PipeState → ℕ
waiting_of s = length s.accepted - begun_of s

-- the write that is read next, if there is one
abbrev pub next_write : PipeState → Option Write
next_write s = slice_get s.accepted s.read_whole

-- the writes that are not read whole, the oldest first
abbrev pub unread_writes : PipeState → List Write
unread_writes s = drop s.read_whole s.accepted

-- the bytes of these writes, one write after the other
abbrev pub joined : List Write → List ℕ
joined writes = flat_map (λ (write : Write). write.bytes) writes

-- the bytes that are not read
abbrev pub unread_bytes : PipeState → List ℕ
unread_bytes s = drop s.offset (joined (unread_writes s))

-- Own: the number of the next write, where the first one is first + 1.
abbrev pub next_number : ℕ → PipeState → ℕ
next_number first s = first + length s.accepted + 1

-- Own: the number of the last write that a read has begun, where the first one is first + 1.
abbrev pub begun_number : ℕ → PipeState → ℕ
begun_number first s = first + begun_of s

-- When a write may get this answer. After pipe(2): a write to a hung up pipe fails. The limit is
-- the library's own.
abbrev pub MayAnswerWrite : PipeState → WriteAnswer → Type 0
MayAnswerWrite s Hungup = s.hung ≡ true
MayAnswerWrite s Full = waiting_of s ≡ s.limit
MayAnswerWrite s Taken = (s.hung ≡ false) × (waiting_of s < s.limit)

-- When a read of at most this many bytes of one write may get this answer. After pipe(3): it never
-- joins two writes, and an empty write is read as an empty piece. A read in message mode is such a
-- read, and so is the take of a queue in either mode.
abbrev pub MayAnswerRead : ℕ → PipeState → ReadAnswer → Type 0
MayAnswerRead most s (Got piece) =
    (write : Write)
    × (next_write s ≡ Some write)
    × (piece ≡ take most (drop s.offset write.bytes))
MayAnswerRead most s End = (s.hung ≡ true) × (next_write s ≡ None)
MayAnswerRead most s Empty = next_write s ≡ None

-- Own: the same for a read in stream mode. It gives the next bytes, of however many writes; an
-- empty write has no bytes.
abbrev pub MayAnswerStreamRead : ℕ → PipeState → ReadAnswer → Type 0
MayAnswerStreamRead most s (Got bytes) =
    (bytes ≡ take most (unread_bytes s)) × (bytes ≢ [])
MayAnswerStreamRead most s End = (s.hung ≡ true) × (unread_bytes s ≡ [])
MayAnswerStreamRead most s Empty = unread_bytes s ≡ []

-- the first of Hungup, Full and Taken that may be answered
abbrev pub write_answer : PipeState → WriteAnswer
write_answer s = if s.hung then Hungup else if waiting_of s == s.limit then Full else Taken

-- The result of a write of these bytes. Own: a write above the atomic size is refused first, and
-- then the direction is not looked at.
abbrev pub write_result : PipeState → List ℕ → Result WriteAnswer Fault
write_result s bytes =
    if nat_lt ATOMIC_SIZE (length bytes) then Err TooBig else Ok (write_answer s)

-- the state after a write with this answer: a write that is taken comes after the others, and
-- nothing else changes
abbrev pub after_write : PipeState → Write → WriteAnswer → PipeState
after_write s write Taken = record s { accepted = s.accepted ++ write ∷ [] }
after_write s write Full = s
after_write s write Hungup = s

-- the answer to a read that found no write
abbrev pub nothing_read : Bool → ReadAnswer
nothing_read true = End
nothing_read false = Empty

-- the next piece of this write
abbrev pub piece_of : ℕ → PipeState → Write → List ℕ
piece_of most s write = take most (drop s.offset write.bytes)

-- the first of Got, End and Empty that may be answered of one write
abbrev pub message_answer : ℕ → PipeState → ReadAnswer
message_answer most s =
    unwrap_or
    (option_map (λ write. Got (piece_of most s write)) (next_write s))
    (nothing_read s.hung)

-- the answer to a read that met these bytes
abbrev pub bytes_read : Bool → List ℕ → ReadAnswer
bytes_read hung [] = nothing_read hung
bytes_read hung (byte ∷ bytes) = Got (byte ∷ bytes)

-- the first of Got, End and Empty that may be answered of all that is not read
abbrev pub stream_answer : ℕ → PipeState → ReadAnswer
stream_answer most s = bytes_read s.hung (take most (unread_bytes s))

-- the first of these in message mode, the second in stream mode
abbrev pub by_mode : {A : Type 0} → Mode → A → A → A
by_mode Message of_messages of_stream = of_messages
by_mode Stream of_messages of_stream = of_stream

-- the answer to a read of at most this many bytes
abbrev pub read_answer : ℕ → PipeState → ReadAnswer
read_answer most s = by_mode s.mode (message_answer most s) (stream_answer most s)

-- The result of a read of at most this many bytes. Own: a read of no bytes is refused first, and
-- then the direction is not looked at.
abbrev pub read_result : ℕ → PipeState → Result ReadAnswer Fault
read_result most s = if most == 0 then Err BadCount else Ok (read_answer most s)

-- the position after the next piece of this write: a write that is used up is read whole
abbrev pub after_piece : ℕ → PipeState → Write → PipeState
after_piece most s write =
    if nat_le (length write.bytes - s.offset) most
    then record s { read_whole = s.read_whole + 1; offset = 0 }
    else record s { offset = s.offset + most }

-- the position after the next piece of the next write, if there is one
abbrev pub after_message : ℕ → PipeState → PipeState
after_message most s = unwrap_or (option_map (after_piece most s) (next_write s)) s

-- How far a read comes that goes on from write to write.
pub record Reach : Type 0 where
  pub whole : ℕ  -- how many writes more are read whole
  pub offset : ℕ  -- how many bytes of the one after them are read

-- it stops in the write that is next
abbrev pub stops_at : ℕ → Reach
stops_at offset = record { whole = 0; offset = offset }

-- one more write is read whole
abbrev pub and_one : Reach → Reach
and_one reach = record { whole = reach.whole + 1; offset = reach.offset }

-- Own. How far a read of at most this many bytes comes in these writes, where the first is read up
-- to this offset and it goes on from write to write. It stops where no write is left, where its
-- buffer is full, and in a write that has more than it takes. A write with no more is read whole,
-- so an empty write is passed.
abbrev pub reach_of : ℕ → ℕ → List Write → Reach
reach_of most offset [] = stops_at offset
reach_of most offset (write ∷ writes) =
    if most == 0 then stops_at offset
    else if nat_lt most (length write.bytes - offset) then stops_at (offset + most)
    else and_one (reach_of (most - (length write.bytes - offset)) 0 writes)

-- the position that the read comes to
abbrev pub after_reach : PipeState → Reach → PipeState
after_reach s reach =
    record s { read_whole = s.read_whole + reach.whole; offset = reach.offset }

abbrev pub after_stream : ℕ → PipeState → PipeState
after_stream most s = after_reach s (reach_of most s.offset (unread_writes s))

-- a read of at most this many bytes: nothing but the position changes
abbrev pub after_read : ℕ → PipeState → PipeState
after_read most s = by_mode s.mode (after_message most s) (after_stream most s)

-- After pipe(2): what was accepted stays, and nothing opens the direction again.
abbrev pub after_hangup : PipeState → PipeState
after_hangup s = record s { hung = true }

-- a state that a direction can be in
pub record IsPipeState (s : PipeState) : Type 0 where
  pub position : s.read_whole ≤ length s.accepted
  pub begun : 0 < s.offset
      → (write : Write) × (next_write s ≡ Some write) × (s.offset < length write.bytes)
  pub room : waiting_of s ≤ s.limit

-- the answer gives bytes
abbrev pub IsGot : ReadAnswer → Type 0
IsGot (Got piece) = Unit {0}
IsGot Empty = ⊥
IsGot End = ⊥
