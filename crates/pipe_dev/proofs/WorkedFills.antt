-- What a read in stream mode takes, worked out by the definitions alone: where it goes on, where it
-- stops, and whom it wakes.
use Rattle.std.proofs.Common.{◌≡◌, ℕ, false, true, List, [], ◌∷◌, ◌++◌, Some, None, refl, inr}
use Rattle.std.proofs.Common.{ap, rules, ◌+◌, ◌-◌, length}
use Rattle.std.specs.Prelude.{Ok, Err}
use Rattle.histories.specs.declared.account.Account.{Account}
use Rattle.sync_base.specs.declared.fault.Fault.TheVariants as fault
use Rattle.sync_base.specs.declared.mode.Mode.TheVariants.{Message, Stream}
use Rattle.rendez_words.specs.Process.{Process}
use Rattle.block_queue.specs.declared.entry.Entry.{Entry}
use Rattle.block_queue.specs.declared.entry.Entry.TheVariants as entry
use Rattle.block_queue.specs.declared.view.Key.{Key}
use Rattle.block_queue.specs.Meaning.{Enters}
use Rattle.pipe_dev.specs.declared.answers.ReadAnswer.TheVariants as read
use Rattle.pipe_dev.specs.declared.answers.TryAnswer.TheVariants as try
use Rattle.pipe_dev.specs.declared.filling.Stop.{Stop}
use Rattle.pipe_dev.specs.declared.filling.Stop.TheVariants as stop
use Rattle.pipe_dev.specs.declared.row.Row.{Row}
use Rattle.pipe_dev.specs.Chain.{AddsRead, AddsTry}
use Rattle.pipe_dev.specs.Parts.{Part, bytes_of, part_of, rest_of}
use Rattle.pipe_dev.specs.ReadCalls.{Calling, TriesOn, came_to, is_got}
use Rattle.pipe_dev.specs.Filling.{Taker, TakesMore, Extent, Filling, StopsAt, begins, IsFilledBy}
use Rattle.pipe_dev.specs.Filling.{TakesPart, goes_further, last_number, number_of}
use Rattle.pipe_dev.specs.Rendezes.{WakesWith}
use Rattle.pipe_dev.specs.Rounds.{Rounds}
use Rattle.pipe_dev.proofs.WorkedEntries.{a, b, tight, taker, taker_enters, unread}

-- these bytes of the write at this place
abbrev pub part : ℕ → List ℕ → Part
part place bytes = record { place = place; writer = 0; bytes = bytes }

-- ---- whether a read goes on

abbrev messages : ℕ → Extent
messages room = record { mode = Message; room = room }

-- a read in stream mode with so much room
abbrev pub stream : ℕ → Extent
stream room = record { mode = Stream; room = room }

message_is_begun : goes_further (messages 4) [] ≡ true
message_is_begun = refl

-- a message ends a read, also one of no bytes
message_ends : goes_further (messages 4) (part 0 a ∷ []) ≡ false
message_ends = refl

empty_message_ends : goes_further (messages 4) (part 0 [] ∷ []) ≡ false
empty_message_ends = refl

-- a stream goes on after a write and after an empty one
stream_goes_on : goes_further (stream 4) (part 1 [] ∷ part 0 a ∷ []) ≡ true
stream_goes_on = refl

-- and not after its last byte
stream_is_full : goes_further (stream 2) (part 0 a ∷ []) ≡ false
stream_is_full = refl

-- the oldest bytes come first
bytes_in_order : bytes_of (part 2 b ∷ part 1 [] ∷ part 0 a ∷ []) ≡ 97 ∷ 98 ∷ 99 ∷ []
bytes_in_order = refl

-- ---- who is woken with which number

takes_nothing_out : last_number None [] ≡ None
takes_nothing_out = refl

takes_one_out : last_number None (part 4 a ∷ []) ≡ Some 5
takes_one_out = refl

-- what is left of a write that was begun wakes nobody again
goes_on_in_a_write : last_number (Some (part 4 a)) (part 4 a ∷ []) ≡ None
goes_on_in_a_write = refl

-- the last one counts, and not the first
wakes_with_the_last : last_number None (part 6 b ∷ part 5 [] ∷ part 4 a ∷ []) ≡ Some 7
wakes_with_the_last = refl

goes_on_and_takes_out : last_number (Some (part 4 a)) (part 5 b ∷ part 4 a ∷ []) ≡ Some 6
goes_on_and_takes_out = refl

-- ---- what a try is answered

full_is_got : is_got (came_to 2 stop.Enough) ≡ true
full_is_got = refl

some_bytes_are_got : is_got (came_to 1 (stop.NotYet 1)) ≡ true
some_bytes_are_got = refl

none_are_not : is_got (came_to 0 stop.End) ≡ false
none_are_not = refl

-- ---- what a call adds

adds_all_parts : AddsRead Stream (Ok (read.Got 3)) (97 ∷ 98 ∷ 99 ∷ 0 ∷ []) []
    (part 2 b ∷ part 1 [] ∷ part 0 a ∷ [])
adds_all_parts =
    record {
      added = part 2 b ∷ part 1 [] ∷ part 0 a ∷ [];
      bytes_are = refl;
      parts_are = refl;
    }

adds_what_it_passed : AddsRead Stream (Err fault.DoubleSleep) [] [] (part 0 [] ∷ [])
adds_what_it_passed = record { added = part 0 [] ∷ []; bytes_are = refl; parts_are = refl }

-- a call that gave no byte read none
end_adds_no_byte : AddsRead Stream (Ok read.End) [] [] (part 0 b ∷ []) → ⊥
end_adds_no_byte adds = by adds.added adds.parts_are adds.bytes_are
  where
    by : (added : List Part) → part 0 b ∷ [] ≡ added ++ [] → bytes_of added ≡ [] → ⊥
    by [] is none = cc
    by (p ∷ []) is none =
        let same : p ≡ part 0 b = cc in
        let bytes = ap (λ (q : Part). q.bytes) same in
        cc
    by (p ∷ q ∷ added) is none = cc

not_yet_adds_no_byte : AddsTry Stream try.NotYet [] [] (part 0 [] ∷ [])
not_yet_adds_no_byte = record { added = part 0 [] ∷ []; bytes_are = refl; parts_are = refl }

-- ---- a whole direction: two bytes, an empty write and one byte more

-- it holds four writes, of one writer
abbrev pub loose : Key
loose = record tight { limit = 4 }

abbrev written : List Entry
written =
    entry.Stood 0 3 ∷ entry.Taken 0 b 3 ∷ entry.Stood 0 2 ∷ entry.Taken 0 [] 2
    ∷ entry.Stood 0 1 ∷ entry.Taken 0 a 1 ∷ []

abbrev first_out : List Entry
first_out = entry.Block 0 a 1 ∷ written

abbrev second_out : List Entry
second_out = entry.Block 0 [] 2 ∷ first_out

abbrev third_out : List Entry
third_out = entry.Block 0 b 3 ∷ second_out

abbrev none_there : List Entry
none_there = entry.NotYet 3 ∷ third_out

-- the seat that took the first write out
abbrev pub one_out : Account Entry
one_out = taker (entry.Block 0 a 1 ∷ []) first_out

-- the first two
abbrev pub two_out : Account Entry
two_out = taker (entry.Block 0 [] 2 ∷ entry.Block 0 a 1 ∷ []) second_out

-- all three
abbrev pub all_out : Account Entry
all_out = taker (entry.Block 0 b 3 ∷ entry.Block 0 [] 2 ∷ entry.Block 0 a 1 ∷ []) third_out

-- and after the answer that no more is there
abbrev pub told : Account Entry
told =
    taker (entry.NotYet 3 ∷ entry.Block 0 b 3 ∷ entry.Block 0 [] 2 ∷ entry.Block 0 a 1 ∷ [])
    none_there

-- it takes the first write out
pub takes_first : Enters loose (entry.Block 0 a 1) unread one_out
takes_first =
    taker_enters 4 (entry.Block 0 a 1) written [] []
    (search rules) refl refl refl (search rules)

takes_second : Enters loose (entry.Block 0 [] 2) one_out two_out
takes_second =
    taker_enters 4 (entry.Block 0 [] 2) [] (entry.Block 0 a 1 ∷ []) first_out tt refl refl refl
    (search rules)

takes_third : Enters loose (entry.Block 0 b 3) two_out all_out
takes_third =
    taker_enters 4 (entry.Block 0 b 3) [] (entry.Block 0 [] 2 ∷ entry.Block 0 a 1 ∷ []) second_out
    tt refl refl refl (search rules)

-- and after all three it finds none
pub finds_none : Enters loose (entry.NotYet 3) all_out told
finds_none =
    taker_enters 4 (entry.NotYet 3) []
    (entry.Block 0 b 3 ∷ entry.Block 0 [] 2 ∷ entry.Block 0 a 1 ∷ []) third_out tt refl refl refl
    (search rules)

-- a read end with nothing left of a write
abbrev pub free : Account Entry → Taker
free account = record { account = account; rest = None }

-- these parts were taken, and nothing of a write is left
abbrev pub filling : Account Entry → List Part → Filling
filling account parts = record { taker = free account; parts = parts }

-- after some parts a whole write more is taken out, with room for all of it
takes_whole : (old new : Account Entry) (parts : List Part) (left : Part)
    → goes_further (stream 4) parts ≡ true
    → Enters loose (entry.Block left.writer left.bytes (left.place + 1)) old new
    → left ≡ part_of (4 - length (bytes_of parts)) left
    → None ≡ rest_of (4 - length (bytes_of parts)) left
    → TakesMore loose (stream 4) (filling old parts) (filling new (left ∷ parts))
takes_whole old new parts left further enters part_is rest =
    record {
      further = further;
      part = left;
      taken = record {
        left = left;
        next = inr record { none_left = refl; taken = enters };
        part_is = part_is;
        rest = rest;
      };
      parts = refl;
    }

-- all three writes of it, the empty one too, by a read with room for four bytes
pub fills_all : Rounds (TakesMore loose (stream 4)) 3 (begins (free unread))
    (filling all_out (part 2 b ∷ part 1 [] ∷ part 0 a ∷ []))
fills_all =
    record {
      between = filling two_out (part 1 [] ∷ part 0 a ∷ []);
      rounds = record {
        between = filling one_out (part 0 a ∷ []);
        rounds = record {
          between = begins (free unread);
          rounds = refl;
          last = takes_whole unread one_out [] (part 0 a) refl takes_first refl refl;
        };
        last = takes_whole one_out two_out (part 0 a ∷ []) (part 1 []) refl takes_second refl refl;
      };
      last = takes_whole two_out all_out (part 1 [] ∷ part 0 a ∷ []) (part 2 b) refl takes_third
          refl refl;
    }

-- a read of two bytes is full after the first write, and passes no empty one
passes_after_its_last_byte : TakesMore loose (stream 2) (filling one_out (part 0 a ∷ []))
    (filling two_out (part 1 [] ∷ part 0 a ∷ [])) → ⊥
passes_after_its_last_byte takes = let further : false ≡ true = takes.further in cc

-- a read of messages joins none
joins_two_messages : TakesMore loose (messages 4) (filling one_out (part 0 a ∷ []))
    (filling two_out (part 1 [] ∷ part 0 a ∷ [])) → ⊥
joins_two_messages takes = let further : false ≡ true = takes.further in cc

-- a read with room does not stop at the first write
stops_at_the_first : StopsAt loose (stream 4) stop.Enough (filling one_out (part 0 a ∷ []))
    (free one_out) → ⊥
stops_at_the_first stops = let enough : true ≡ false = stops.0 in cc

-- a full read asks no more
asks_when_full : StopsAt loose (stream 3) (stop.NotYet 3)
    (filling all_out (part 2 b ∷ part 1 [] ∷ part 0 a ∷ [])) (free told) → ⊥
asks_when_full stops = let further : false ≡ true = stops.0 in cc

-- an empty write gives no byte
counts_an_empty_write : IsFilledBy (bytes_of (part 0 [] ∷ [])) (0 ∷ []) (0 ∷ []) 1 → ⊥
counts_an_empty_write filled = let count = filled.count_is in cc

-- ---- a try, from its parts

-- a call by this process that fills this buffer
abbrev pub calls : Taker → Process → List ℕ → Calling
calls taker process buffer =
    record { seat = record { taker = taker; buffer = buffer }; process = process }

module _ (key : Key) (row : Row) where
  -- a try that read one part
  pub one_part : (old : Calling) (count : ℕ) (why : Stop) (new : Calling) (part : Part)
      (after : Taker)
      → goes_further (record { mode = row.mode; room = length old.seat.buffer }) [] ≡ true
      → TakesPart key (length old.seat.buffer - 0) old.seat.taker part after
      → StopsAt key (record { mode = row.mode; room = length old.seat.buffer }) why
      (record { taker = after; parts = part ∷ [] }) new.seat.taker
      → IsFilledBy part.bytes old.seat.buffer new.seat.buffer count
      → WakesWith row (number_of old.seat.taker.rest part) old.process new.process
      → TriesOn key row old (came_to count why) new
  one_part old count why new part after further taken stopped filled woken =
      record {
        fills = record {
          times = 1;
          filling = record { taker = after; parts = part ∷ [] };
          taken = record {
            between = begins old.seat.taker;
            rounds = refl;
            last = record { further = further; part = part; taken = taken; parts = refl };
          };
          stopped = stopped;
          filled = filled;
        };
        woken = woken;
      }

  -- and one that read none
  pub no_part : (old : Calling) (why : Stop) (new : Calling)
      → StopsAt key (record { mode = row.mode; room = length old.seat.buffer }) why
      (begins old.seat.taker) new.seat.taker
      → new.seat.buffer ≡ old.seat.buffer → new.process ≡ old.process
      → TriesOn key row old (came_to 0 why) new
  no_part old why new stopped buffer process =
      record {
        fills = record {
          times = 0;
          filling = begins old.seat.taker;
          taken = refl;
          stopped = stopped;
          filled = record { count_is = refl; bytes_are = buffer };
        };
        woken = process;
      }
