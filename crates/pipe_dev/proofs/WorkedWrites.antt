-- Writes and hangups worked out by the definitions alone, short writes that they refuse, and which
-- ends of a direction are all.
use Rattle.std.proofs.Common.{◌≡◌, ℕ, false, true, List, [], ◌∷◌, ◌++◌, Some, None, refl, sym, ◌∙◌}
use Rattle.std.proofs.Common.{inl, ap, arith, rules, length, reverse}
use Rattle.std.specs.Prelude.{Ok, Err}
use Rattle.std.proofs.lemmas.List.{reverse-reverse}
use Rattle.histories.specs.declared.account.Account.{Account}
use Rattle.histories.specs.Account.{AreByOthers}
use Rattle.histories.specs.Changes.{entered_account}
use Rattle.histories.specs.History.{entries_by}
use Rattle.sync_base.specs.declared.fault.Fault.TheVariants as fault
use Rattle.sync_base.specs.declared.limits.TheConstants.{LAST_WRITE, TOP_LEVEL}
use Rattle.sync_base.specs.declared.mode.Mode.TheVariants.{Message}
use Rattle.sync_base.specs.declared.note.Note.TheVariants.{Interrupt, ClosedPipe}
use Rattle.sync_base.specs.NoteSet.{no_notes, only}
use Rattle.rendez_words.specs.declared.words.Words.{Words}
use Rattle.rendez_words.specs.Process.{Process, TableId, pid_in}
use Rattle.rendez_words.specs.Steps.{notes}
use Rattle.block_queue.specs.declared.entry.Entry.{Entry}
use Rattle.block_queue.specs.declared.entry.Entry.TheVariants as entry
use Rattle.block_queue.specs.declared.queue.Queue.{Queue}
use Rattle.block_queue.specs.History.{seat_of}
use Rattle.block_queue.specs.Meaning.{Enters}
use Rattle.pipe_dev.specs.declared.row.Row.{Row}
use Rattle.pipe_dev.specs.Ends.{ReadSide, WriteSide, AreAllEnds}
use Rattle.pipe_dev.specs.Rendezes.{OwnsRow, WakesAll, WakesIfKnown}
use Rattle.pipe_dev.specs.WriteCalls.{WriteCall, Writer, Writes, WritesLong, atomic_writes}
use Rattle.pipe_dev.specs.WriteCalls.{AsksForRoom, bytes_in, writing}
use Rattle.pipe_dev.specs.Calls.{GivesUp}
use Rattle.waiting.specs.declared.call.Reply.TheVariants.{Wait, Refused}
use Rattle.pipe_dev.proofs.WorkedEntries.{a, b, tight, IsRun, seen_3, seen_4, seen_6, rendez_row}
use Rattle.pipe_dev.proofs.WorkedEntries.{woke, slept, wakes_one, wakes_writer, slept_once}
use Rattle.pipe_dev.proofs.WorkedEntries.{interrupted, is_not_idle}

-- ---- what the writer's seat knows

-- the seat, with what it made and what it has seen
abbrev putter : List Entry → List Entry → Account Entry
putter mine seen =
    record {
      number = 1;
      shares = record { number = 1; mine = mine } ∷ [];
      seen = seen;
      gave = [];
    }

-- others made some entries since, and the seat then this one
putter_enters : (first : ℕ) (made : Entry) (since mine seen : List Entry)
    → AreByOthers seat_of (putter mine seen).shares since
    → entries_by seat_of 1 (since ++ seen) ≡ mine
    → entries_by seat_of 1 (made ∷ since ++ seen) ≡ made ∷ mine
    → putter (made ∷ mine) (made ∷ since ++ seen)
    ≡ entered_account seat_of made (since ++ seen) (putter mine seen)
    → IsRun (record tight { first = first }) (made ∷ since ++ seen)
    → Enters (record tight { first = first }) made (putter mine seen)
    (putter (made ∷ mine) (made ∷ since ++ seen))
putter_enters first made since mine seen others before after is run =
    record {
      adds = record {
        past = since ++ seen;
        looked = record {
          since = since;
          history_is = refl;
          by_others = others;
          mine = (record { entries = before }, tt);
          alone = λ all. let no : false ≡ true = all.first in cc;
        };
        new_is = is;
      };
      knows = record {
        history = run;
        mine = (record { entries = after }, tt);
        different = (tt, tt);
        numbers = (omega arith, tt);
        gave = tt;
      };
    }

abbrev put_one : List Entry
put_one = entry.Stood 0 1 ∷ entry.Taken 0 a 1 ∷ []

abbrev has_put : Account Entry
has_put = putter put_one seen_3

abbrev was_full : Account Entry
was_full = putter (entry.Full 0 b 0 ∷ put_one) seen_4

abbrev is_taken : Account Entry
is_taken = putter (entry.Taken 0 b 2 ∷ entry.Full 0 b 0 ∷ put_one) seen_6

abbrev has_put_both : Account Entry
has_put_both =
    putter (entry.Stood 0 2 ∷ entry.Taken 0 b 2 ∷ entry.Full 0 b 0 ∷ put_one)
    (entry.Stood 0 2 ∷ seen_6)

abbrev unwritten : Account Entry
unwritten = putter [] []

abbrev is_late : Account Entry
is_late = putter (entry.Hungup 0 b ∷ []) (entry.Hungup 0 b ∷ entry.Hung 0 ∷ [])

abbrev is_worn : Account Entry
is_worn = putter (entry.Worn 0 b ∷ []) (entry.Worn 0 b ∷ [])

finds_no_room : Enters tight (entry.Full 0 b 0) has_put was_full
finds_no_room =
    putter_enters 0 (entry.Full 0 b 0) [] put_one seen_3 tt refl refl refl (search rules)

is_accepted : Enters tight (entry.Taken 0 b 2) was_full is_taken
is_accepted =
    putter_enters 0 (entry.Taken 0 b 2) (entry.Block 0 a 1 ∷ []) (entry.Full 0 b 0 ∷ put_one) seen_4
    (refl, tt) refl refl refl (search rules)

then_stands : Enters tight (entry.Stood 0 2) is_taken has_put_both
then_stands =
    putter_enters 0 (entry.Stood 0 2) [] (entry.Taken 0 b 2 ∷ entry.Full 0 b 0 ∷ put_one) seen_6
    tt refl refl refl (search rules)

finds_the_hangup : Enters tight (entry.Hungup 0 b) unwritten is_late
finds_the_hangup =
    putter_enters 0 (entry.Hungup 0 b) (entry.Hung 0 ∷ []) [] [] (refl, tt) refl refl refl
    (search rules)

finds_no_number : Enters (record tight { first = LAST_WRITE }) (entry.Worn 0 b) unwritten is_worn
finds_no_number =
    putter_enters LAST_WRITE (entry.Worn 0 b) [] [] [] tt refl refl refl (search rules)

module _ (table : TableId) where
  abbrev idle : Process
  idle = record { table = table; pid = 0; trace = [] }

  -- ---- a write

  abbrev writer : Account Entry → Process → Writer
  writer account process = record { seat = account; process = process }

  abbrev writer_woken : Process
  writer_woken = slept idle 4 0 no_notes

  abbrev second_written : Writer
  second_written = writer has_put_both (woke writer_woken 3 2)

  -- a write of these bytes by the one writer
  abbrev call : List ℕ → WriteCall
  call bytes = record { key = tight; row = rendez_row; writer = 0; bytes = bytes }

  finds_full : AsksForRoom (call b) (writer has_put idle) (Wait 0) (writer was_full idle)
  finds_full = record { entered = finds_no_room; fresh = refl; process = refl }

  -- it slept once, and then was accepted and woke the reader with the number 2
  waits_and_writes : Writes (call b) (writer has_put idle) (Ok 2) second_written
  waits_and_writes =
      slept_once (writing (call b)) 4 (writer has_put idle) was_full has_put_both idle 0 finds_full
      (Ok 2)
      second_written.process
      (record {
        stands = record { between = is_taken; taken = is_accepted; stood = then_stands };
        woken = wakes_one writer_woken 3 2;
      })

  write_comes_too_late : Writes (call b) (writer unwritten idle) (Err fault.Hungup)
      (writer is_late (notes idle (pid_in idle) (only ClosedPipe)))
  write_comes_too_late = inl (record { entered = finds_the_hangup; knew = tt; noted = refl })

  numbers_are_worn_out : Writes (record (call b) { key = record tight { first = LAST_WRITE } })
      (writer unwritten idle) (Err fault.Worn) (writer is_worn idle)
  numbers_are_worn_out = inl (record { entered = finds_no_number; process = refl })

  write_is_interrupted : Writes (call b) (writer has_put idle)
      (Err (fault.Interrupted (only Interrupt))) (writer was_full (slept idle 4 0 (only Interrupt)))
  write_is_interrupted =
      interrupted (writing (call b)) 4 (writer has_put idle) was_full was_full idle 0 finds_full
      refl

  -- what the queue answers no write, and what no write that gave up comes to
  queue_refuses_for_memory : (new : Writer)
      → ¬ AsksForRoom (call b) (writer has_put idle) (Refused fault.Memory) new
  queue_refuses_for_memory new asks = asks

  write_that_gave_up_is_accepted : ¬ GivesUp {Out = ℕ} was_full (Some 2) was_full
  write_that_gave_up_is_accepted gives = gives

  write_gives_up_with_an_entry_more : ¬ GivesUp {Out = ℕ} was_full None is_taken
  write_gives_up_with_an_entry_more same =
      let seen = ap (λ (a : Account Entry). length a.seen) same in cc

  write_is_too_big : Writes (call b) (writer has_put idle) (Err fault.TooBig) (writer has_put idle)
  write_is_too_big = refl

  write_of_another_kernel : Writes (call b) (writer has_put idle) (Err fault.NoRendez)
      (writer has_put idle)
  write_of_another_kernel = refl

  write_finds_no_memory : Writes (call b) (writer has_put idle) (Err fault.Memory)
      (writer has_put idle)
  write_finds_no_memory = refl

  refused_write_asks : Writes (call b) (writer has_put idle) (Err fault.NoRendez)
      (writer was_full idle) → ⊥
  refused_write_asks same = let seen = ap (λ (w : Writer). length w.seat.seen) same in cc

  late_write_posts_no_note : ¬ AsksForRoom (call b) (writer unwritten idle)
      (Refused fault.Hungup) (writer is_late idle)
  late_write_posts_no_note late = let trace = ap (λ (p : Process). p.trace) late.noted in cc

  -- ---- a long write

  fits_in_one : WritesLong (call b) (writer has_put idle)
      (record { taken = 1; fault = None }) second_written
  fits_in_one =
      record {
        done = b ∷ [];
        between = second_written;
        written = record {
          between = writer has_put idle;
          rounds = refl;
          last = record { number = 2; accepted = waits_and_writes };
        };
        taken = refl;
        ended = (refl, refl);
      }

  stops_at_the_first : WritesLong (call b) (writer has_put idle)
      (record { taken = 0; fault = Some fault.NoRendez }) (writer has_put idle)
  stops_at_the_first =
      record {
        done = [];
        between = writer has_put idle;
        written = refl;
        taken = refl;
        ended = (b, [], refl, refl);
      }

  loses_count : (new : Writer) → WritesLong (call b) (writer has_put idle)
      (record { taken = 0; fault = None }) new → ⊥
  loses_count new long =
      let done : long.done ≡ b ∷ [] = sym (reverse-reverse long.done) ∙ ap reverse long.ended.1 in
      let counted : ◌≡◌ {A = ℕ} 0 1 = long.taken ∙ ap bytes_in done in
      absurd (omega (arith, counted))

  -- of two writes the second was refused
  stops_at_the_second : (bytes front back : List ℕ) → atomic_writes bytes ≡ front ∷ back ∷ []
      → (old between new : Writer) → Writes (call front) old (Ok 1) between
      → Writes (call back) between (Err fault.Hungup) new
      → WritesLong (call bytes) old
      (record { taken = length front; fault = Some fault.Hungup }) new
  stops_at_the_second bytes front back cut old between new first second =
      record {
        done = front ∷ [];
        between = between;
        written = record {
          between = old;
          rounds = refl;
          last = record { number = 1; accepted = first };
        };
        taken = omega arith;
        ended = (back, [], cut, second);
      }

  -- ---- a hangup

  abbrev all_woken : Process
  all_woken = woke (woke idle 3 TOP_LEVEL) 4 TOP_LEVEL

  wakes_all : WakesAll rendez_row idle all_woken
  wakes_all =
      record {
        between = woke idle 3 TOP_LEVEL;
        reader = wakes_one idle 3 TOP_LEVEL;
        writers = wakes_writer Message (woke idle 3 TOP_LEVEL) TOP_LEVEL;
      }

  module _ (words : Words) where
    wakes_its_kernel : OwnsRow words rendez_row
        → WakesIfKnown rendez_row (record { words = words; process = idle }) all_woken
    wakes_its_kernel has = record { known = λ _. wakes_all; foreign = λ hasnt. absurd (hasnt has) }

    wakes_no_other : ¬ OwnsRow words rendez_row
        → WakesIfKnown rendez_row (record { words = words; process = idle }) idle
    wakes_no_other hasnt = record { known = λ has. absurd (hasnt has); foreign = λ _. refl }

    wakes_another_kernel : ¬ OwnsRow words rendez_row
        → WakesIfKnown rendez_row (record { words = words; process = idle }) all_woken → ⊥
    wakes_another_kernel hasnt wakes =
        let trace = ap (λ (p : Process). p.trace) (wakes.foreign hasnt) in cc

    wakes_nobody : OwnsRow words rendez_row
        → WakesIfKnown rendez_row (record { words = words; process = idle }) idle → ⊥
    wakes_nobody has wakes =
        is_not_idle table (wakes.known has).writers.between TOP_LEVEL
        (wakes.known has).writers.last.woken.ends

-- ---- all ends of a direction

module _ (queue : Queue) (read_account : Account Entry) where
  abbrev two_writers : Row
  two_writers = record { first = 3; writers = 2; mode = Message; small = omega arith }

  abbrev read_side : ReadSide
  read_side =
      record { queue = queue; row = two_writers; account = read_account; rest = None }

  abbrev write_side : Row → ℕ → WriteSide
  write_side row number =
      record { queue = queue; row = row; writer = number; account = unwritten }

  both_writers : AreAllEnds read_side (write_side two_writers 0 ∷ write_side two_writers 1 ∷ [])
  both_writers =
      record {
        one = (record { queue = refl; row = refl }, (record { queue = refl; row = refl }, tt));
        order = refl;
      }

  one_is_missing : AreAllEnds read_side (write_side two_writers 0 ∷ []) → ⊥
  one_is_missing all = let order = all.order in cc

  out_of_order : AreAllEnds read_side (write_side two_writers 1 ∷ write_side two_writers 0 ∷ []) → ⊥
  out_of_order all = let order = all.order in cc

  of_another_direction : AreAllEnds read_side
      (write_side two_writers 0 ∷ write_side rendez_row 1 ∷ []) → ⊥
  of_another_direction all = let rendez = ap (λ (r : Row). r.writers) all.one.1.0.row in cc
