-- What a read is answered in each mode, and that a read in stream mode keeps a state.
use Rattle.std.proofs.Common.{◌≡◌, ℕ, ◌+◌, ◌-◌, ◌<◌, ◌≤◌, List, [], ◌∷◌, length, take, drop}
use Rattle.std.proofs.Common.{Bool, true, false, nat_lt, nat_le, cond, Option, None, Some}
use Rattle.std.proofs.Common.{unwrap_or, refl, ◌∙◌, sym, ap, subst, arith, length-drop, drop-drop}
use Rattle.std.proofs.Common.{suc, zero}
use Rattle.std.specs.Option.{option_map}
use Rattle.std.specs.List.{slice_get}
use Rattle.std.proofs.lemmas.List.{nil_from_length, length-take}
use Rattle.std.proofs.lemmas.Option.{slice_get_within}
use Rattle.std.proofs.lemmas.Bool.Decides.{nat_tests}
use Rattle.sync_base.specs.declared.answers.ReadAnswer.TheVariants.{Got, End}
use Rattle.sync_base.specs.declared.mode.Mode.{Mode}
use Rattle.sync_base.specs.declared.mode.Mode.TheVariants.{Message, Stream}
use Rattle.sync_base.specs.Write.{Write}
use Rattle.sync_base.specs.PlainPipe.{first_bytes}
use Rattle.sync_base.specs.Pipe.{PipeState, IsPipeState, Reach, reach_of, joined, by_mode}
use Rattle.sync_base.specs.Pipe.{waiting_of, next_write, unread_bytes, unread_writes, piece_of}
use Rattle.sync_base.specs.Pipe.{nothing_read, bytes_read, MayAnswerRead, MayAnswerStreamRead}
use Rattle.sync_base.specs.Pipe.{read_answer, message_answer, stream_answer, after_read}
use Rattle.sync_base.specs.Pipe.{after_message, after_piece, after_stream, after_reach}
use Rattle.sync_base.proofs.StreamLemmas.{take_none, reach_within, reach_grows, reach_begun}
use Rattle.sync_base.proofs.StreamLemmas.{reach_loses_nothing, reach_passes_all}

-- the answer in each mode
pub answer_of_message : (most : ℕ) (s : PipeState) → s.mode ≡ Message
    → read_answer most s ≡ message_answer most s
answer_of_message most s is =
    ap (λ mode. by_mode mode (message_answer most s) (stream_answer most s)) is

-- and in stream mode
pub answer_of_stream : (most : ℕ) (s : PipeState) → s.mode ≡ Stream
    → read_answer most s ≡ stream_answer most s
answer_of_stream most s is =
    ap (λ mode. by_mode mode (message_answer most s) (stream_answer most s)) is

-- the state after it
pub after_read_of_message : (most : ℕ) (s : PipeState) → s.mode ≡ Message
    → after_read most s ≡ after_message most s
after_read_of_message most s is =
    ap (λ mode. by_mode mode (after_message most s) (after_stream most s)) is

-- and in stream mode
pub after_read_of_stream : (most : ℕ) (s : PipeState) → s.mode ≡ Stream
    → after_read most s ≡ after_stream most s
after_read_of_stream most s is =
    ap (λ mode. by_mode mode (after_message most s) (after_stream most s)) is

-- a read of one write is answered what may be answered
message_applies : (most : ℕ) (s : PipeState) (next : Option Write) → next_write s ≡ next
    → MayAnswerRead most s
    (unwrap_or (option_map (λ write. Got (piece_of most s write)) next) (nothing_read s.hung))
message_applies most s (Some write) is = (write, is, refl)
message_applies most s None is = nothing s.hung refl
  where
    nothing : (hung : Bool) → s.hung ≡ hung → MayAnswerRead most s (nothing_read hung)
    nothing true hung = (hung, is)
    nothing false hung = is

-- in message mode
pub message_answers_apply : (most : ℕ) (s : PipeState) → s.mode ≡ Message
    → MayAnswerRead most s (read_answer most s)
message_answers_apply most s is =
    subst (MayAnswerRead most s) (sym (answer_of_message most s is))
    (message_applies most s (next_write s) refl)

-- a read that goes on is answered what may be answered
stream_applies : (most : ℕ) (s : PipeState) (bytes : List ℕ) → 0 < most
    → take most (unread_bytes s) ≡ bytes → MayAnswerStreamRead most s (bytes_read s.hung bytes)
stream_applies most s (byte ∷ bytes) some is =
    (sym is, λ none. let size = ap length none in absurd (omega (arith, size)))
stream_applies most s [] some is = nothing s.hung refl
  where
    none : unread_bytes s ≡ []
    none =
        let size = length-take most (unread_bytes s) in
        let size' : length (take most (unread_bytes s)) ≡ 0 = ap length is in
        nil_from_length (unread_bytes s) (omega (arith, size, size'))

    nothing : (hung : Bool) → s.hung ≡ hung → MayAnswerStreamRead most s (nothing_read hung)
    nothing true hung = (hung, none)
    nothing false hung = none

-- in stream mode
pub stream_answers_apply : (most : ℕ) (s : PipeState) → 0 < most → s.mode ≡ Stream
    → MayAnswerStreamRead most s (read_answer most s)
stream_answers_apply most s some is =
    subst (MayAnswerStreamRead most s) (sym (answer_of_stream most s is))
    (stream_applies most s (take most (unread_bytes s)) some refl)

-- the end comes before that nothing is there
pub message_ends : (most : ℕ) (s : PipeState) → s.mode ≡ Message → MayAnswerRead most s End
    → read_answer most s ≡ End
message_ends most s is ends =
    answer_of_message most s is
    ∙ (ap (λ next. unwrap_or (option_map (λ write. Got (piece_of most s write)) next)
    (nothing_read s.hung)) ends.1
    ∙ ap nothing_read ends.0)

-- and in stream mode
pub stream_ends : (most : ℕ) (s : PipeState) → s.mode ≡ Stream → MayAnswerStreamRead most s End
    → read_answer most s ≡ End
stream_ends most s is ends =
    answer_of_stream most s is
    ∙ (ap (bytes_read s.hung) (take_none most (unread_bytes s) ends.1)
    ∙ ap nothing_read ends.0)

-- the first bytes of the writes from a place on are those of the write there
first_read : (writes : List Write) (at k : ℕ) → k < length (first_bytes (drop at writes))
    → (write : Write) × (slice_get writes at ≡ Some write) × (k < length write.bytes)
first_read [] zero k some = absurd (omega (arith, some))
first_read [] (suc at) k some = absurd (omega (arith, some))
first_read (write ∷ writes) zero k some = (write, refl, some)
first_read (write ∷ writes) (suc at) k some = first_read writes at k some

-- and the other way round
read_first : (writes : List Write) (at : ℕ) (write : Write) → slice_get writes at ≡ Some write
    → first_bytes (drop at writes) ≡ write.bytes
read_first [] at write is = cc
read_first (next ∷ writes) zero write is = cc
read_first (next ∷ writes) (suc at) write is = read_first writes at write is

-- the next write of a state is the first that is not read whole
begun_write : (s : PipeState) → IsPipeState s
    → 0 < s.offset → s.offset < length (first_bytes (unread_writes s))
begun_write s state some =
    let begun = state.begun some in
    subst (λ (bytes : List ℕ). s.offset < length bytes)
    (sym (read_first s.accepted s.read_whole begun.0 begun.1)) begun.2

-- a read in stream mode leaves a state
after_stream_is_state : (most : ℕ) (s : PipeState) → IsPipeState s
    → IsPipeState (after_stream most s)
after_stream_is_state most s state =
    let reach = reach_of most s.offset (unread_writes s) in
    let left : length (unread_writes s) ≡ length s.accepted - s.read_whole =
    length-drop s.read_whole s.accepted in
    let within = reach_within most s.offset (unread_writes s) in
    let grows = reach_grows most s.offset (unread_writes s) in
    let position = state.position in
    record {
      position = omega (arith, left, within, position);
      begun = λ some.
          first_read s.accepted (s.read_whole + reach.whole) reach.offset
          (subst (λ (ws : List Write). reach.offset < length (first_bytes ws))
          (drop-drop reach.whole s.read_whole s.accepted)
          (reach_begun most s.offset (unread_writes s) (begun_write s state) some));
      room = room reach grows;
    }
  where
    fewer : (reach : Reach) → (reach.whole ≡ 0 → s.offset ≤ reach.offset)
        → (a : Bool) → nat_lt 0 s.offset ≡ a → (b : Bool) → nat_lt 0 reach.offset ≡ b
        → length s.accepted - cond a (s.read_whole + 1) s.read_whole ≤ s.limit
        → length s.accepted
        - cond b (s.read_whole + reach.whole + 1) (s.read_whole + reach.whole) ≤ s.limit
    fewer reach grows false at b to before = grind (arith, nat_tests)
    fewer reach grows true at true to before = grind (arith, nat_tests)
    fewer reach grows true at false to before = stays reach.whole refl
      where
        stays : (n : ℕ) → reach.whole ≡ n
            → length s.accepted - (s.read_whole + reach.whole) ≤ s.limit
        stays zero none = let more = grows none in absurd (grind (arith, nat_tests))
        stays (suc n) some = omega arith

    -- no more writes are not begun than before
    room : (reach : Reach) → (reach.whole ≡ 0 → s.offset ≤ reach.offset)
        → waiting_of (after_reach s reach) ≤ s.limit
    room reach grows =
        fewer reach grows (nat_lt 0 s.offset) refl (nat_lt 0 reach.offset) refl state.room

-- each read in stream mode does
pub stream_keeps_state : (most : ℕ) (s : PipeState) → s.mode ≡ Stream → IsPipeState s
    → IsPipeState (after_read most s)
stream_keeps_state most s is state =
    subst IsPipeState (sym (after_read_of_stream most s is)) (after_stream_is_state most s state)

-- what it leaves unread
pub stream_loses_nothing : (most : ℕ) (s : PipeState) → s.mode ≡ Stream → IsPipeState s
    → unread_bytes (after_read most s) ≡ drop most (unread_bytes s)
stream_loses_nothing most s is state =
    let reach = reach_of most s.offset (unread_writes s) in
    ap unread_bytes (after_read_of_stream most s is)
    ∙ (ap (λ (ws : List Write). drop reach.offset (joined ws))
    (sym (drop-drop reach.whole s.read_whole s.accepted))
    ∙ reach_loses_nothing most s.offset (unread_writes s) (begun_write s state))

-- where it had room for more than there is
pub stream_passes_all : (most : ℕ) (s : PipeState) → s.mode ≡ Stream → IsPipeState s
    → length (unread_bytes s) < most → (after_read most s).read_whole ≡ length s.accepted
stream_passes_all most s is state more =
    let all : (reach_of most s.offset (unread_writes s)).whole ≡ length (unread_writes s) =
    reach_passes_all most s.offset (unread_writes s) (begun_write s state) more in
    let left : length (unread_writes s) ≡ length s.accepted - s.read_whole =
    length-drop s.read_whole s.accepted in
    let position = state.position in
    let same : s.read_whole + (reach_of most s.offset (unread_writes s)).whole ≡ length s.accepted =
    omega (arith, all, left, position) in
    ap (λ (after : PipeState). after.read_whole) (after_read_of_stream most s is) ∙ same

-- a read of one write leaves a state
after_message_is_state : (most : ℕ) (s : PipeState) → 0 < most → IsPipeState s
    → IsPipeState (after_message most s)
after_message_is_state most s some state = found (next_write s) refl
  where
    passed : (write : Write) → next_write s ≡ Some write → (b : Bool)
        → nat_le (length write.bytes - s.offset) most ≡ b
        → IsPipeState (cond b (record s { read_whole = s.read_whole + 1; offset = 0 })
        (record s { offset = s.offset + most }))
    passed write is true used_up =
        let within = slice_get_within s.accepted s.read_whole write is in
        let room = state.room in
        record {
          position = omega (arith, within);
          begun = λ some. absurd (omega (arith, some));
          room = grind (arith, nat_tests);
        }
    passed write is false more =
        let position = state.position in
        let room = state.room in
        record {
          position = position;
          begun = λ some. (write, is, grind (arith, nat_tests));
          room = grind (arith, nat_tests);
        }

    found : (next : Option Write) → next_write s ≡ next
        → IsPipeState (unwrap_or (option_map (after_piece most s) next) s)
    found None is = state
    found (Some write) is =
        passed write is (nat_le (length write.bytes - s.offset) most) refl

-- each read does
pub reads_keep_state : (most : ℕ) (s : PipeState) → 0 < most → IsPipeState s
    → IsPipeState (after_read most s)
reads_keep_state most s some state = in_mode s.mode refl
  where
    in_mode : (mode : Mode) → s.mode ≡ mode → IsPipeState (after_read most s)
    in_mode Message is =
        subst IsPipeState (sym (after_read_of_message most s is))
        (after_message_is_state most s some state)
    in_mode Stream is = stream_keeps_state most s is state
