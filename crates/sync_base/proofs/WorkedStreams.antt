-- Reads in stream mode, computed from the definitions alone, and what a wrong one would leave.
use Rattle.std.proofs.Common.{◌≡◌, ◌≢◌, ℕ, List, [], ◌∷◌, true, false, refl, ap, arith}
use Rattle.sync_base.specs.declared.answers.ReadAnswer.TheVariants.{Got, Empty, End}
use Rattle.sync_base.specs.declared.mode.Mode.TheVariants.{Message, Stream}
use Rattle.sync_base.specs.Write.{Write}
use Rattle.sync_base.specs.Pipe.{PipeState, reach_of, stops_at, unread_bytes, waiting_of}
use Rattle.sync_base.specs.Pipe.{read_answer, after_read}

-- a write of the writer 0
abbrev written : List ℕ → Write
written bytes = record { writer = 0; bytes = bytes }

-- `ab`, no bytes, `c`, no bytes: the first byte is read
abbrev begun : PipeState
begun =
    record {
      limit = 4;
      mode = Stream;
      accepted = written (97 ∷ 98 ∷ []) ∷ written [] ∷ written (99 ∷ []) ∷ written [] ∷ [];
      read_whole = 0;
      offset = 1;
      hung = false;
    }

-- the buffer is full within a write, or where the write ends
the_buffer_is_full : read_answer 1 begun ≡ Got (98 ∷ [])
the_buffer_is_full = refl

the_next_write_is_empty : (after_read 1 begun).read_whole ≡ 1
the_next_write_is_empty = refl

-- an empty write is passed, and bytes are joined; the empty write after them is not passed
bytes_are_joined : read_answer 2 begun ≡ Got (98 ∷ 99 ∷ [])
bytes_are_joined = refl

an_empty_write_stays : after_read 2 begun ≡ record begun { read_whole = 3; offset = 0 }
an_empty_write_stays = refl

-- it counts against the limit, as it would not if it was passed
it_still_waits : waiting_of (after_read 2 begun) ≡ 1
it_still_waits = refl

it_is_not_passed : after_read 2 begun ≢ record begun { read_whole = 4; offset = 0 }
it_is_not_passed same =
    let whole : 3 ≡ 4 = ap (λ (s : PipeState). s.read_whole) same in
    absurd (omega (arith, whole))

-- where there is room for more, all is passed
all_is_passed : after_read 3 begun ≡ record begun { read_whole = 4; offset = 0 }
all_is_passed = refl

-- after it nothing is there, or the end
nothing_is_there : read_answer 1 (after_read 3 begun) ≡ Empty
nothing_is_there = refl

the_end_is_there : read_answer 1 (record (after_read 2 begun) { hung = true }) ≡ End
the_end_is_there = refl

-- bytes come before the end, and no read joins across it: the next one begins where this one ended
bytes_come_first : read_answer 8 (record begun { hung = true }) ≡ Got (98 ∷ 99 ∷ [])
bytes_come_first = refl

no_byte_is_lost : unread_bytes (after_read 1 begun) ≡ 99 ∷ []
no_byte_is_lost = refl

-- a read that goes a byte too far has lost it
a_byte_too_far : after_read 1 (record begun { offset = 0 }) ≢ record begun { offset = 2 }
a_byte_too_far same =
    let offset : 1 ≡ 2 = ap (λ (s : PipeState). s.offset) same in
    absurd (omega (arith, offset))

-- a read that ends in a write has begun it, and no more
ends_in_a_write : reach_of 1 0 (written (97 ∷ 98 ∷ []) ∷ []) ≡ stops_at 1
ends_in_a_write = refl

-- in message mode the same read stops at the end of its write
a_message_is_one_write : read_answer 8 (record begun { mode = Message }) ≡ Got (98 ∷ [])
a_message_is_one_write = refl

an_empty_message_is_read :
    read_answer 8 (record begun { mode = Message; read_whole = 1; offset = 0 }) ≡ Got []
an_empty_message_is_read = refl
