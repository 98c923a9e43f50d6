-- Directions of a pipe worked out by the definitions alone, and what they refuse.
use Rattle.std.proofs.Common.{◌≡◌, ℕ, false, List, [], ◌∷◌, Some, None, refl, inl, inr}
use Rattle.std.proofs.Common.{ap, arith, rules, length, ◌⊎◌}
use Rattle.std.specs.Prelude.{Err, reverse}
use Rattle.histories.specs.declared.account.Account.{Account}
use Rattle.sync_base.specs.declared.fault.Fault.TheVariants as fault
use Rattle.sync_base.specs.declared.mode.Mode.TheVariants.{Message}
use Rattle.sync_base.specs.Pipe.{PipeState}
use Rattle.sync_base.specs.Write.{Write}
use Rattle.rendez_words.specs.Process.{Process}
use Rattle.block_queue.specs.declared.entry.Entry.{Entry}
use Rattle.block_queue.specs.declared.entry.Entry.TheVariants.{Taken, Stood, Block, Hung}
use Rattle.block_queue.specs.declared.view.Key.{Key}
use Rattle.block_queue.specs.Opening.{new_account}
use Rattle.pipe_dev.specs.declared.row.Row.{Row}
use Rattle.pipe_dev.specs.Chain.{HasWritten, AddsOne, written_by, IsNoBlock}
use Rattle.pipe_dev.specs.Finishing.{Finishes, Holdings}
use Rattle.pipe_dev.specs.Laws.{NoWriteAfterHangup, read_and_held}
use Rattle.pipe_dev.specs.Parts.{Part, pieces_of, bytes_by, part_of, rest_of}
use Rattle.pipe_dev.specs.declared.answers.ReadAnswer.TheVariants as read
use Rattle.pipe_dev.specs.declared.answers.TryAnswer.TheVariants as try
use Rattle.pipe_dev.specs.CallLaws.{GetsOne}
use Rattle.pipe_dev.specs.Filling.{IsFilledBy, IsLeft, IsTakenOut, Taker}
use Rattle.pipe_dev.specs.ReadCalls.{Calling, Tries}
use Rattle.pipe_dev.specs.Reading.{Reading, IsRight}
use Rattle.pipe_dev.specs.Rendezes.{WakesWriters}
use Rattle.pipe_dev.specs.WriteCalls.{HasHang, atomic_writes, bytes_in}
use Rattle.waiting.specs.declared.call.Reply.TheVariants.{Done}
use Rattle.pipe_dev.proofs.ModeLemmas.{messages_are_read_one_by_one}
use Rattle.pipe_dev.proofs.WorkedEntries.{woke, wakes_one}
use Rattle.pipe_dev.proofs.WorkedFills.{calls}

abbrev part : ℕ → ℕ → List ℕ → Part
part place writer bytes = record { place = place; writer = writer; bytes = bytes }

abbrev write : ℕ → List ℕ → Write
write writer bytes = record { writer = writer; bytes = bytes }

-- ---- what was read

-- three writes were read whole: two bytes, one byte of another writer, and none
abbrev three : PipeState
three =
    record {
      limit = 2;
      mode = Message;
      accepted = write 0 (97 ∷ 98 ∷ []) ∷ write 1 (99 ∷ []) ∷ write 0 [] ∷ [];
      read_whole = 3;
      offset = 0;
      hung = false;
    }

abbrev first_bytes : List Part → List ℕ
first_bytes [] = []
first_bytes (first ∷ others) = first.bytes

abbrev second_writer : List Part → ℕ
second_writer (first ∷ second ∷ others) = second.writer
second_writer others = 0

-- the first in two parts
read_in_parts : IsRight three
    (part 2 0 [] ∷ part 1 1 (99 ∷ []) ∷ part 0 0 (98 ∷ []) ∷ part 0 0 (97 ∷ []) ∷ []) None
read_in_parts = record { whole = refl; some_left = tt }

-- of the last nothing is left, and of the first one byte
read_with_a_rest : IsRight (record three { read_whole = 1 }) (part 0 0 (97 ∷ []) ∷ [])
    (Some (part 0 0 (98 ∷ [])))
read_with_a_rest = record { whole = refl; some_left = λ is. cc }

joined_read : IsRight three (part 2 0 [] ∷ part 0 0 (97 ∷ 98 ∷ 99 ∷ []) ∷ []) None → ⊥
joined_read right = let whole = right.whole in cc

torn_parts : IsRight three
    (part 2 0 [] ∷ part 0 0 (98 ∷ []) ∷ part 1 1 (99 ∷ []) ∷ part 0 0 (97 ∷ []) ∷ []) None → ⊥
torn_parts right = let whole = right.whole in cc

invented_empty_part : IsRight three
    (part 2 0 [] ∷ part 1 1 [] ∷ part 1 1 (99 ∷ []) ∷ part 0 0 (97 ∷ 98 ∷ []) ∷ []) None → ⊥
invented_empty_part right = let whole = right.whole in cc

skipped_empty_write : IsRight three (part 1 1 (99 ∷ []) ∷ part 0 0 (97 ∷ 98 ∷ []) ∷ []) None → ⊥
skipped_empty_write right = let whole = right.whole in cc

read_twice : IsRight three
    (part 2 0 [] ∷ part 1 1 (99 ∷ []) ∷ part 1 1 (99 ∷ []) ∷ part 0 0 (97 ∷ 98 ∷ []) ∷ []) None → ⊥
read_twice right = let whole = right.whole in cc

lost_rest : IsRight (record three { read_whole = 1 }) (part 0 0 (97 ∷ []) ∷ []) None → ⊥
lost_rest right = let bytes = ap first_bytes right.whole in cc

empty_rest : IsRight (record three { read_whole = 1 }) (part 0 0 (97 ∷ 98 ∷ []) ∷ [])
    (Some (part 0 0 [])) → ⊥
empty_rest right = right.some_left refl

as_another_writers : IsRight three (part 2 0 [] ∷ part 1 0 (99 ∷ []) ∷ part 0 0 (97 ∷ 98 ∷ []) ∷ [])
    None → ⊥
as_another_writers right = let writer = ap second_writer right.whole in
    absurd (omega (arith, writer))

by_writer : bytes_by 0
    (reverse (pieces_of
    (part 2 0 [] ∷ part 1 1 (99 ∷ []) ∷ part 0 0 (98 ∷ []) ∷ part 0 0 (97 ∷ []) ∷ [])))
    ≡ (97 ∷ 98 ∷ []) ∷ [] ∷ []
by_writer = refl

-- ---- one read

abbrev abc : Part
abc = part 0 0 (97 ∷ 98 ∷ 99 ∷ [])

two_of_three : part_of 2 abc ≡ part 0 0 (97 ∷ 98 ∷ [])
two_of_three = refl

one_is_left : rest_of 2 abc ≡ Some (part 0 0 (99 ∷ []))
one_is_left = refl

none_is_left : rest_of 3 abc ≡ None
none_is_left = refl

empty_is_used_up : rest_of 1 (part 0 0 []) ≡ None
empty_is_used_up = refl

filled_in_front : IsFilledBy abc.bytes (0 ∷ 0 ∷ 0 ∷ 0 ∷ 7 ∷ []) (97 ∷ 98 ∷ 99 ∷ 0 ∷ 7 ∷ []) 3
filled_in_front = record { count_is = refl; bytes_are = refl }

fills_after_itself : IsFilledBy (part_of 1 abc).bytes (0 ∷ 0 ∷ []) (97 ∷ 98 ∷ []) 1 → ⊥
fills_after_itself filled = let bytes = filled.bytes_are in cc

module _ (process : Process) (account : Account Entry) (key : Key) (row : Row) where
  abbrev begun : Taker
  begun = record { account = account; rest = Some (part 0 0 (97 ∷ [])) }

  -- a write that was begun is read to its end and no further, however much room there is
  joins_the_next : row.mode ≡ Message → (new : Calling)
      → ¬ Tries key row (calls begun process (0 ∷ 0 ∷ [])) (try.Got 2) new
  joins_the_next messages new tries = by gets.taken.next
    where
      gets : GetsOne key row (calls begun process (0 ∷ 0 ∷ [])) 2 new
      gets =
          messages_are_read_one_by_one key row (calls begun process (0 ∷ 0 ∷ []))
          (Done (read.Got 2)) new messages tries

      by : IsLeft begun gets.taken.left new.seat.taker
          ⊎ IsTakenOut key begun gets.taken.left new.seat.taker → ⊥
      by (inl goes) =
          let is : gets.taken.left ≡ part 0 0 (97 ∷ []) = let same = goes.left_is in cc in
          let counted = gets.filled.count_is in
          let its = ap (λ (p : Part). length p.bytes) gets.taken.part_is in
          let bytes = ap (λ (p : Part). length (part_of 2 p).bytes) is in
          absurd (omega (arith, counted, its, bytes))
      by (inr takes) = let none = takes.none_left in cc

one_part_more : AddsOne (97 ∷ 98 ∷ []) [] (part 0 0 (97 ∷ 98 ∷ []) ∷ [])
one_part_more = record { part = part 0 0 (97 ∷ 98 ∷ []); bytes_are = refl; parts_are = refl }

block_is_read : IsNoBlock (Block 0 (97 ∷ []) 1) → ⊥
block_is_read none = none

-- ---- who is woken

abbrev two_writers : Row
two_writers = record { first = 3; writers = 2; mode = Message; small = omega arith }

module _ (before : Process) where
  abbrev idle : Process
  idle = record before { pid = 0 }

  -- the first writer at the Rendez after the reader's, and then the second
  wakes_both : WakesWriters two_writers 2 5 idle (woke (woke idle 4 5) 5 5)
  wakes_both =
      record {
        between = woke idle 4 5;
        rounds = record { between = idle; rounds = refl; last = wakes_one idle 4 5 };
        last = wakes_one (woke idle 4 5) 5 5;
      }

-- ---- what was written

-- a writer that has written one write
abbrev wrote_one : Account Entry
wrote_one =
    record {
      number = 1;
      shares = record { number = 1; mine = Stood 0 1 ∷ Taken 0 (97 ∷ []) 1 ∷ [] } ∷ [];
      seen = [];
      gave = [];
    }

written : HasWritten wrote_one 0 ((97 ∷ []) ∷ [])
written = record { own = refl; are = (λ number. refl, tt) }

forgets_a_write : HasWritten wrote_one 0 [] → ⊥
forgets_a_write written = let are = written.are.0 refl in cc

is_another_writers : HasWritten (new_account 1) 1 [] → ⊥
is_another_writers written = let own = written.own in cc

refused_writes_nothing : written_by (Err fault.Hungup) (97 ∷ []) ≡ []
refused_writes_nothing = refl

no_bytes_are_one_write : atomic_writes [] ≡ [] ∷ []
no_bytes_are_one_write = refl

few_bytes_are_one_write : atomic_writes (97 ∷ 98 ∷ []) ≡ (97 ∷ 98 ∷ []) ∷ []
few_bytes_are_one_write = refl

bytes_are_counted : bytes_in ((97 ∷ []) ∷ (97 ∷ 98 ∷ []) ∷ []) ≡ 3
bytes_are_counted = refl

-- ---- hangups

write_before_a_hangup : NoWriteAfterHangup (Hung 0 ∷ Stood 0 1 ∷ Taken 0 (97 ∷ []) 1 ∷ [])
write_before_a_hangup = (tt, tt)

write_after_a_hangup : NoWriteAfterHangup (Taken 0 (97 ∷ []) 1 ∷ Hung 0 ∷ []) → ⊥
write_after_a_hangup none = none.0

knows_of_a_hangup : HasHang (Stood 0 1 ∷ Hung 2 ∷ [])
knows_of_a_hangup = tt

knows_of_none : HasHang (Stood 0 1 ∷ Taken 0 (97 ∷ []) 1 ∷ []) → ⊥
knows_of_none has = has

-- ---- a whole direction: one write was accepted and read in part, another is held

abbrev small : Key
small = record { limit = 2; first = 0; writers = 1 }

abbrev both : List Entry
both =
    Block 0 (97 ∷ 98 ∷ []) 1 ∷ Stood 0 2 ∷ Taken 0 (99 ∷ []) 2 ∷ Stood 0 1
    ∷ Taken 0 (97 ∷ 98 ∷ []) 1 ∷ []

abbrev reader_of_both : Account Entry
reader_of_both =
    record {
      number = 0;
      shares = record { number = 0; mine = Block 0 (97 ∷ 98 ∷ []) 1 ∷ [] } ∷ [];
      seen = both;
      gave = 1 ∷ [];
    }

abbrev held : Holdings
held = record { rest = 98 ∷ []; writes = write 0 (99 ∷ []) ∷ []; hung = false }

abbrev read_half : Reading
read_half =
    record {
      account = reader_of_both;
      parts = part 0 0 (97 ∷ []) ∷ [];
      rest = Some (part 0 0 (98 ∷ []));
    }

finished : Finishes small read_half
    (record {
      number = 1;
      mine = Stood 0 2 ∷ Taken 0 (99 ∷ []) 2 ∷ Stood 0 1 ∷ Taken 0 (97 ∷ 98 ∷ []) 1 ∷ [];
    } ∷ []) held
finished =
    record {
      history = both;
      legal = search rules;
      seen = record { since = []; new_is = refl };
      no_more_read = refl;
      shares = (record { entries = refl }, tt);
      rest = refl;
      writes = refl;
      hung = refl;
    }

-- what was read and is held is both writes
found : bytes_by 0 (read_and_held small read_half held) ≡ (97 ∷ 98 ∷ []) ∷ (99 ∷ []) ∷ []
found = refl
