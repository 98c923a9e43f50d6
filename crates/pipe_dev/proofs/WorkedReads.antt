-- Reads of messages worked out by the definitions alone, and short reads that they refuse.
use Rattle.std.proofs.Common.{◌≡◌, ◌+◌, ℕ, List, [], ◌∷◌, Some, None, refl, inl, inr}
use Rattle.std.proofs.Common.{ap, subst, arith, rules}
use Rattle.std.specs.Prelude.{Result, Ok, Err}
use Rattle.histories.specs.declared.account.Account.{Account}
use Rattle.sync_base.specs.declared.fault.Fault.{Fault}
use Rattle.sync_base.specs.declared.fault.Fault.TheVariants as fault
use Rattle.sync_base.specs.declared.mode.Mode.TheVariants.{Message}
use Rattle.sync_base.specs.NoteSet.{no_notes}
use Rattle.rendez_words.specs.Process.{Process, TableId}
use Rattle.block_queue.specs.declared.entry.Entry.{Entry}
use Rattle.block_queue.specs.declared.entry.Entry.TheVariants as entry
use Rattle.block_queue.specs.Meaning.{Enters}
use Rattle.pipe_dev.specs.declared.answers.ReadAnswer.{ReadAnswer}
use Rattle.pipe_dev.specs.declared.answers.ReadAnswer.TheVariants as read
use Rattle.pipe_dev.specs.declared.answers.TryAnswer.{TryAnswer}
use Rattle.pipe_dev.specs.declared.answers.TryAnswer.TheVariants as try
use Rattle.pipe_dev.specs.BlockReads.{ReadsBlock, AsksForBlock}
use Rattle.pipe_dev.specs.CallLaws.{ReadsOneOrNone}
use Rattle.pipe_dev.specs.Chain.{IsMade, IsNoBlock, AddsNothing, ReadStep}
use Rattle.pipe_dev.specs.Parts.{Part}
use Rattle.pipe_dev.specs.declared.filling.Stop.TheVariants as stop
use Rattle.pipe_dev.specs.Filling.{FindsNothing, Lending, Taker}
use Rattle.pipe_dev.specs.ReadCalls.{AsksForBytes, Calling, Reads, Tries, TriesOn, came_to}
use Rattle.pipe_dev.specs.ReadCalls.{reading}
use Rattle.pipe_dev.specs.Calls.{GivesUp, waits_by}
use Rattle.waiting.specs.declared.call.Reply.{Reply}
use Rattle.waiting.specs.declared.call.Reply.TheVariants.{Done, Wait, Refused}
use Rattle.pipe_dev.specs.Reading.{Reading}
use Rattle.pipe_dev.specs.Rounds.{Rounds}
use Rattle.pipe_dev.proofs.ModeLemmas.{messages_are_read_one_by_one}
use Rattle.pipe_dev.proofs.ReadingLemmas.{what_is_read_is_right}
use Rattle.pipe_dev.proofs.WorkedEntries.{a, b, tight, seen_1, seen_5, taker, taker_enters, unread}
use Rattle.pipe_dev.proofs.WorkedEntries.{rendez_row, woke, slept, wakes_writer, slept_once}
use Rattle.pipe_dev.proofs.WorkedEntries.{is_not_idle}
use Rattle.pipe_dev.proofs.WorkedFills.{calls, free, no_part, one_part}

-- ---- what the reader's seat knows

abbrev told : Account Entry
told = taker (entry.NotYet 0 ∷ []) seen_1

abbrev has_taken : Account Entry
has_taken = taker (entry.Block 0 a 1 ∷ entry.NotYet 0 ∷ []) seen_5

abbrev has_ended : Account Entry
has_ended = taker (entry.End ∷ []) (entry.End ∷ entry.Hung 1 ∷ [])

abbrev has_hung : Account Entry
has_hung = taker (entry.Hung 0 ∷ []) (entry.Hung 0 ∷ [])

finds_nothing : Enters tight (entry.NotYet 0) unread told
finds_nothing = taker_enters 1 (entry.NotYet 0) [] [] [] tt refl refl refl (search rules)

takes_out : Enters tight (entry.Block 0 a 1) told has_taken
takes_out =
    taker_enters 1 (entry.Block 0 a 1) (entry.Full 0 b 0 ∷ entry.Stood 0 1 ∷ entry.Taken 0 a 1 ∷ [])
    (entry.NotYet 0 ∷ []) seen_1 (refl, (refl, (refl, tt))) refl refl refl (search rules)

finds_the_end : Enters tight entry.End unread has_ended
finds_the_end =
    taker_enters 1 entry.End (entry.Hung 1 ∷ []) [] [] (refl, tt) refl refl refl (search rules)

hangs_up : Enters tight (entry.Hung 0) unread has_hung
hangs_up = taker_enters 1 (entry.Hung 0) [] [] [] tt refl refl refl (search rules)

module _ (table : TableId) where
  abbrev idle : Process
  idle = record { table = table; pid = 0; trace = [] }

  -- ---- a read

  abbrev first_write : Part
  first_write = record { place = 0; writer = 0; bytes = a }

  abbrev reader_woken : Process
  reader_woken = slept idle 3 0 no_notes

  -- a read of a buffer before any call, and after what a take told
  abbrev unread_with : List ℕ → Calling
  unread_with buffer = calls (free unread) idle buffer

  abbrev told_with : List ℕ → Calling
  told_with buffer = calls (free told) idle buffer

  abbrev taken_with : List ℕ → Calling
  taken_with buffer = calls (free has_taken) idle buffer

  abbrev ended_with : List ℕ → Calling
  ended_with buffer = calls (free has_ended) idle buffer

  abbrev ReadsSo : Calling → Result ReadAnswer Fault → Calling → Type 0
  ReadsSo = Reads tight rendez_row

  abbrev TriesSo : Calling → TryAnswer → Calling → Type 0
  TriesSo = Tries tight rendez_row

  abbrev ReadsBlockSo : Calling → Result ReadAnswer Fault → Calling → Type 0
  ReadsBlockSo = ReadsBlock tight rendez_row

  -- a take found nothing
  found_end : FindsNothing tight entry.End (free unread) (free has_ended)
  found_end = record { none_left = refl; entered = finds_the_end; rest = refl }

  found_none : FindsNothing tight (entry.NotYet 0) (free unread) (free told)
  found_none = record { none_left = refl; entered = finds_nothing; rest = refl }

  -- a try of messages finds no write
  finds_not_yet : (buffer : List ℕ) → TriesOn tight rendez_row
      (unread_with buffer) (came_to 0 (stop.NotYet 0)) (told_with buffer)
  finds_not_yet buffer =
      no_part tight rendez_row (unread_with buffer) (stop.NotYet 0) (told_with buffer)
      (refl, record { nothing = found_none; fresh = λ knew. cc }) refl refl

  -- it finds the end
  finds_end : TriesOn tight rendez_row (unread_with b) (came_to 0 stop.End) (ended_with b)
  finds_end =
      no_part tight rendez_row (unread_with b) stop.End (ended_with b) (refl, found_end) refl refl

  -- it slept once, and then got the write whole and woke its writer with the number 1
  waits_and_reads : ReadsSo (unread_with (0 ∷ 0 ∷ 0 ∷ []))
      (Ok (read.Got 2)) (calls (free has_taken) (woke reader_woken 4 1) (97 ∷ 98 ∷ 0 ∷ []))
  waits_and_reads =
      slept_once (reading tight rendez_row) 3 (unread_with (0 ∷ 0 ∷ 0 ∷ []))
      (told_with (0 ∷ 0 ∷ 0 ∷ [])).seat (taken_with (97 ∷ 98 ∷ 0 ∷ [])).seat idle 0
      (finds_not_yet (0 ∷ 0 ∷ 0 ∷ [])) (Ok (read.Got 2)) (woke reader_woken 4 1)
      (record {
        why = stop.Enough;
        tried = one_part tight rendez_row
            (calls (free told) reader_woken (0 ∷ 0 ∷ 0 ∷ [])) 2 stop.Enough
            (calls (free has_taken) (woke reader_woken 4 1) (97 ∷ 98 ∷ 0 ∷ [])) first_write
            (free has_taken) refl
            (record {
              left = first_write;
              next = inr record { none_left = refl; taken = takes_out };
              part_is = refl;
              rest = refl;
            })
            (refl, refl) (record { count_is = refl; bytes_are = refl })
            (wakes_writer Message reader_woken 1);
        got = refl;
      })

  reads_to_the_end : ReadsSo (unread_with b) (Ok read.End) (ended_with b)
  reads_to_the_end = inl finds_end

  read_of_no_bytes : ReadsSo (unread_with []) (Err fault.BadCount) (unread_with [])
  read_of_no_bytes = refl

  read_of_another_kernel : ReadsSo (unread_with b) (Err fault.NoRendez) (unread_with b)
  read_of_another_kernel = refl

  refused_read_asks : ReadsSo (unread_with b) (Err fault.NoRendez) (told_with b) → ⊥
  refused_read_asks reads = let seen = ap (λ (c : Calling). c.seat.taker.account.seen) reads in cc

  refused_read_writes_its_buffer : ReadsSo (unread_with b) (Err fault.BadCount) (unread_with a) → ⊥
  refused_read_writes_its_buffer reads = let bytes = ap (λ (c : Calling). c.seat.buffer) reads in cc

  queue_refuses_a_read : (old new : Calling)
      → ¬ AsksForBytes tight rendez_row old (Refused fault.Memory) new
  queue_refuses_a_read old new asks = asks

  refused_try_reads : (old new : Calling)
      → ¬ ReadsOneOrNone tight rendez_row old (Refused fault.Memory) new
  refused_try_reads old new none = none

  read_that_waits_fills_its_buffer : ¬ AsksForBytes tight rendez_row
      (unread_with b) (Wait 0) (told_with a)
  read_that_waits_fills_its_buffer asks =
      let none = messages_are_read_one_by_one tight rendez_row (unread_with b) (Wait 0)
      (told_with a) refl asks in
      let bytes = none.buffer in cc

  -- ---- a read that does not wait

  abbrev first_byte : Part
  first_byte = record { place = 0; writer = 0; bytes = 97 ∷ [] }

  abbrev second_byte : Part
  second_byte = record { place = 0; writer = 0; bytes = 98 ∷ [] }

  -- a reader that has read the first byte of the write and holds the second
  abbrev begun : Taker
  begun = record { account = has_taken; rest = Some second_byte }

  tries_and_begins : TriesSo (calls (free told) reader_woken (0 ∷ []))
      (try.Got 1) (calls begun (woke reader_woken 4 1) (97 ∷ []))
  tries_and_begins =
      record {
        why = stop.Enough;
        tried = one_part tight rendez_row (calls (free told) reader_woken (0 ∷ [])) 1
            stop.Enough (calls begun (woke reader_woken 4 1) (97 ∷ [])) first_byte
            (record { account = has_taken; rest = Some second_byte }) refl
            (record {
              left = first_write;
              next = inr record { none_left = refl; taken = takes_out };
              part_is = refl;
              rest = refl;
            })
            (refl, refl) (record { count_is = refl; bytes_are = refl })
            (wakes_writer Message reader_woken 1);
        got = refl;
      }

  tries_and_goes_on : TriesSo (calls begun idle (0 ∷ 0 ∷ [])) (try.Got 1)
      (taken_with (98 ∷ 0 ∷ []))
  tries_and_goes_on =
      record {
        why = stop.Enough;
        tried = one_part tight rendez_row (calls begun idle (0 ∷ 0 ∷ [])) 1 stop.Enough
            (taken_with (98 ∷ 0 ∷ [])) second_byte (free has_taken) refl
            (record {
              left = second_byte;
              next = inl record { left_is = refl; account = refl };
              part_is = refl;
              rest = refl;
            })
            (refl, refl) (record { count_is = refl; bytes_are = refl }) refl;
        got = refl;
      }

  tries_too_early : TriesSo (unread_with b) try.NotYet (told_with b)
  tries_too_early = record { number = 0; tried = finds_not_yet b }

  tries_at_the_end : TriesSo (unread_with b) try.End (ended_with b)
  tries_at_the_end = finds_end

  try_wakes_no_writer : TriesSo (told_with (0 ∷ [])) (try.Got 1)
      (calls begun idle (97 ∷ [])) → ⊥
  try_wakes_no_writer tries =
      let one = messages_are_read_one_by_one tight rendez_row (told_with (0 ∷ []))
      (Done (read.Got 1)) (calls begun idle (97 ∷ [])) refl tries in
      is_not_idle table one.woken.between (one.part.place + 1) one.woken.last.woken.ends

  try_sleeps : TriesSo (unread_with b) try.NotYet (calls (free told) reader_woken b) → ⊥
  try_sleeps tries =
      let none = messages_are_read_one_by_one tight rendez_row (unread_with b)
      (Wait tries.number) (calls (free told) reader_woken b) refl tries.tried in
      let trace = ap (λ (p : Process). p.trace) none.process in cc

  try_at_the_end_fills_its_buffer : TriesSo (unread_with b) try.End (ended_with a) → ⊥
  try_at_the_end_fills_its_buffer tries =
      let none = messages_are_read_one_by_one tight rendez_row (unread_with b) (Done read.End)
      (ended_with a) refl tries in
      let bytes = none.buffer in cc

  -- ---- a read of a block

  abbrev asks_for_block : Calling → Reply ReadAnswer → Calling → Type 0
  asks_for_block = AsksForBlock tight rendez_row

  -- it slept once; then the block is the write, whole, and its writer was woken with the number 1
  waits_and_reads_a_block : ReadsBlockSo (unread_with b)
      (Ok (read.Got 2)) (calls (free has_taken) (woke reader_woken 4 1) a)
  waits_and_reads_a_block =
      slept_once (waits_by asks_for_block) 3 (unread_with b) (told_with b).seat
      (taken_with a).seat idle 0
      (record { nothing = found_none; process = refl; buffer = refl }, λ knew. cc)
      (Ok (read.Got 2)) (woke reader_woken 4 1) (
        record {
          left = first_write;
          next = inr record { none_left = refl; taken = takes_out };
          block_is = refl;
          rest = refl;
          woken = wakes_writer Message reader_woken 1;
        },
        refl,
      )

  -- of a write that was begun it reads what is left, and wakes nobody
  reads_a_begun_block : ReadsBlockSo (calls begun idle a) (Ok (read.Got 1))
      (taken_with (98 ∷ []))
  reads_a_begun_block =
      inl (
        record {
          left = second_byte;
          next = inl record { left_is = refl; account = refl };
          block_is = refl;
          rest = refl;
          woken = refl;
        },
        refl,
      )

  reads_no_block_at_the_end : ReadsBlockSo (unread_with b) (Ok read.End) (ended_with b)
  reads_no_block_at_the_end =
      inl (record { nothing = found_end; process = refl; buffer = refl })

  block_read_of_another_kernel : ReadsBlockSo (unread_with b) (Err fault.NoRendez) (unread_with b)
  block_read_of_another_kernel = refl

  refused_block_read_asks : ReadsBlockSo (unread_with b) (Err fault.NoRendez) (told_with b) → ⊥
  refused_block_read_asks reads =
      let seen = ap (λ (c : Calling). c.seat.taker.account.seen) reads in cc

  block_read_leaves_a_rest : ¬ asks_for_block (calls (free told) reader_woken b)
      (Done (read.Got 1)) (calls begun (woke reader_woken 4 1) (97 ∷ []))
  block_read_leaves_a_rest asks = let rest = asks.0.rest in cc

  block_read_wakes_nobody : ¬ asks_for_block (told_with b) (Done (read.Got 2)) (taken_with a)
  block_read_wakes_nobody asks =
      let woken = asks.0.woken in
      is_not_idle table woken.between (asks.0.left.place + 1) woken.last.woken.ends

  block_read_counts_another_size : ¬ asks_for_block (calls begun idle a) (Done (read.Got 2))
      (taken_with (98 ∷ []))
  block_read_counts_another_size asks = let count = asks.1 in cc

  block_read_takes_the_block_at_the_end : ¬ asks_for_block (unread_with b)
      (Done read.End) (ended_with [])
  block_read_takes_the_block_at_the_end asks = let bytes = asks.buffer in cc

  -- one that waits leaves the block as it was, and so does one whose sleep failed
  block_read_that_waits_takes_the_block : ¬ asks_for_block (unread_with b) (Wait 0) (told_with [])
  block_read_that_waits_takes_the_block asks = let bytes = asks.0.buffer in cc

  interrupted_block_read_takes_the_block :
      ¬ GivesUp {Out = ReadAnswer} (told_with b).seat None
      (told_with []).seat
  interrupted_block_read_takes_the_block same =
      let bytes = ap (λ (l : Lending). l.buffer) same in cc

  read_that_gave_up_is_answered : (old new : Lending) → ¬ GivesUp old (Some read.End) new
  read_that_gave_up_is_answered old new gives = gives

  queue_refuses_a_block_read : (old new : Calling) → ¬ asks_for_block old (Refused fault.Worn) new
  queue_refuses_a_block_read old new asks = asks

  -- ---- what calls make of a read end

  abbrev nothing_read : Account Entry → Reading
  nothing_read account = record { account = account; parts = []; rest = None }

  -- one call, which found nothing and read nothing
  one_call : (entry : Entry) (new : Account Entry) → IsNoBlock entry → Enters tight entry unread new
      → Rounds (ReadStep tight) 1 (nothing_read unread) (nothing_read new)
  one_call entry new none enters =
      record {
        between = nothing_read unread;
        rounds = refl;
        last = inr record {
          entry = entry;
          entered = enters;
          no_block = none;
          rest = refl;
          parts = refl;
        };
      }

  -- two calls: nothing was there; and then one byte of two was read
  made_by_two_calls : IsMade tight
      (record {
        account = has_taken;
        parts = record { place = 0; writer = 0; bytes = 97 ∷ [] } ∷ [];
        rest = Some second_byte;
      })
  made_by_two_calls =
      record {
        first = refl;
        times = 2;
        steps = record {
          between = nothing_read told;
          rounds = one_call (entry.NotYet 0) told tt finds_nothing;
          last = inl record {
            room = 1;
            some_room = omega arith;
            part = record { place = 0; writer = 0; bytes = 97 ∷ [] };
            taken = record {
              left = first_write;
              next = inr record { none_left = refl; taken = takes_out };
              part_is = refl;
              rest = refl;
            };
            parts = refl;
          };
        };
      }

  made_of_nothing : IsMade tight
      (record { account = unread; parts = first_write ∷ []; rest = None }) → ⊥
  made_of_nothing made = let whole = (what_is_read_is_right tight _ made).right.whole in cc

  made_by_an_end : IsMade tight (nothing_read has_ended)
  made_by_an_end =
      record { first = refl; times = 1; steps = one_call entry.End has_ended tt finds_the_end }

  -- a call hung the direction up
  made_by_a_hangup : IsMade tight (nothing_read has_hung)
  made_by_a_hangup =
      record { first = refl; times = 1; steps = one_call (entry.Hung 0) has_hung tt hangs_up }

  end_adds_a_part : AddsNothing tight (nothing_read unread)
      (record { account = has_ended; parts = first_write ∷ []; rest = None }) → ⊥
  end_adds_a_part adds = let parts = adds.parts in cc

  hangup_leaves_a_rest : AddsNothing tight (nothing_read unread)
      (record { account = has_hung; parts = []; rest = Some first_write }) → ⊥
  hangup_leaves_a_rest adds = let rest = adds.rest in cc

  -- a write that was taken out is read
  block_is_not_read : AddsNothing tight (nothing_read told) (nothing_read has_taken) → ⊥
  block_is_not_read adds =
      let seen = ap (λ (x : Account Entry). x.seen) adds.entered.adds.new_is in
      let same : adds.entry ≡ entry.Block 0 a 1 = cc in
      subst IsNoBlock same adds.no_block

  made_of_a_part_at_the_end : IsMade tight
      (record { account = has_ended; parts = first_write ∷ []; rest = None }) → ⊥
  made_of_a_part_at_the_end made =
      let whole = (what_is_read_is_right tight _ made).right.whole in cc

  made_of_a_rest_at_a_hangup : IsMade tight
      (record { account = has_hung; parts = []; rest = Some first_write }) → ⊥
  made_of_a_rest_at_a_hangup made =
      let whole = (what_is_read_is_right tight _ made).right.whole in cc
