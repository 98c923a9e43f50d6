-- Reads in stream mode worked out by the definitions alone, and the shortest ones that are refused.
use Rattle.std.proofs.Common.{◌≡◌, ℕ, List, [], ◌∷◌, Some, None, refl, sym, ◌∙◌, inl}
use Rattle.std.proofs.Common.{inr, ap, arith, rules, length, map, length-append}
use Rattle.std.specs.Prelude.{Result, Ok, Err}
use Rattle.histories.specs.declared.account.Account.{Account}
use Rattle.sync_base.specs.declared.fault.Fault.{Fault}
use Rattle.sync_base.specs.declared.fault.Fault.TheVariants as fault
use Rattle.sync_base.specs.declared.mode.Mode.TheVariants.{Stream}
use Rattle.sync_base.specs.declared.note.Note.TheVariants.{Interrupt}
use Rattle.sync_base.specs.NoteSet.{only}
use Rattle.rendez_words.specs.Process.{Process, TableId}
use Rattle.rendez_words.specs.Steps.{raises}
use Rattle.sleep_wakeup.specs.Calls.{Ends}
use Rattle.block_queue.specs.declared.entry.Entry.{Entry}
use Rattle.block_queue.specs.declared.entry.Entry.TheVariants as entry
use Rattle.block_queue.specs.Meaning.{Enters}
use Rattle.pipe_dev.specs.declared.answers.ReadAnswer.{ReadAnswer}
use Rattle.pipe_dev.specs.declared.answers.ReadAnswer.TheVariants as read
use Rattle.pipe_dev.specs.declared.answers.TryAnswer.{TryAnswer}
use Rattle.pipe_dev.specs.declared.answers.TryAnswer.TheVariants as try
use Rattle.pipe_dev.specs.declared.filling.ReadOutcome.{ReadOutcome}
use Rattle.pipe_dev.specs.declared.filling.Stop.TheVariants as stop
use Rattle.pipe_dev.specs.declared.row.Row.{Row}
use Rattle.pipe_dev.specs.Parts.{Part, bytes_of}
use Rattle.pipe_dev.specs.ReadCalls.{Calling, Reads, Tries, TriesOn, came_to, reading}
use Rattle.pipe_dev.specs.Rendezes.{WakesWriters, WakesWith}
use Rattle.pipe_dev.specs.Filling.{Taker, last_number}
use Rattle.pipe_dev.proofs.WorkedEntries.{a, b, taker, taker_enters, unread, at_rendez, row_in}
use Rattle.pipe_dev.proofs.WorkedEntries.{woke, slept, wakes_writer, interrupted, is_not_idle}
use Rattle.pipe_dev.proofs.WorkedFills.{part, loose, one_out, all_out, told, takes_first}
use Rattle.pipe_dev.proofs.WorkedFills.{calls, finds_none, free, filling, fills_all, no_part}
use Rattle.pipe_dev.proofs.WorkedFills.{one_part}

-- ---- a try, and a read, of that direction and of two more

abbrev row : Row
row = row_in Stream

-- a direction with an empty write alone, and one that is hung up
abbrev empty_written : List Entry
empty_written = entry.Stood 0 1 ∷ entry.Taken 0 [] 1 ∷ []

abbrev empty_out : List Entry
empty_out = entry.Block 0 [] 1 ∷ empty_written

abbrev passed : Account Entry
passed = taker (entry.Block 0 [] 1 ∷ []) empty_out

abbrev told_empty : Account Entry
told_empty = taker (entry.NotYet 1 ∷ entry.Block 0 [] 1 ∷ []) (entry.NotYet 1 ∷ empty_out)

abbrev has_ended : Account Entry
has_ended = taker (entry.End ∷ []) (entry.End ∷ entry.Hung 1 ∷ [])

takes_empty : Enters loose (entry.Block 0 [] 1) unread passed
takes_empty =
    taker_enters 4 (entry.Block 0 [] 1) empty_written [] [] (refl, (refl, tt)) refl refl refl
    (search rules)

finds_nothing : Enters loose (entry.NotYet 1) passed told_empty
finds_nothing =
    taker_enters 4 (entry.NotYet 1) [] (entry.Block 0 [] 1 ∷ []) empty_out tt refl refl refl
    (search rules)

finds_the_end : Enters loose entry.End unread has_ended
finds_the_end =
    taker_enters 4 entry.End (entry.Hung 1 ∷ []) [] [] (refl, tt) refl refl refl (search rules)

module _ (table : TableId) where
  abbrev idle : Process
  idle = record { table = table; pid = 0; trace = [] }

  abbrev zeros : List ℕ
  zeros = 0 ∷ 0 ∷ 0 ∷ 0 ∷ []

  -- a read of a buffer before any call, and after what it found
  abbrev unread_with : List ℕ → Calling
  unread_with buffer = calls (free unread) idle buffer

  abbrev empty_with : List ℕ → Calling
  empty_with buffer = calls (free told_empty) (woke idle 4 1) buffer

  abbrev ended_with : List ℕ → Calling
  ended_with buffer = calls (free has_ended) idle buffer

  abbrev ReadsSo : Calling → Result ReadAnswer Fault → Calling → Type 0
  ReadsSo = Reads loose row

  abbrev TriesSo : Calling → TryAnswer → Calling → Type 0
  TriesSo = Tries loose row

  abbrev TriesOnSo : Calling → ReadOutcome → Calling → Type 0
  TriesOnSo = TriesOn loose row

  -- it joined all three writes, was told that no more are there, and then woke its writer once
  joins_all : TriesOnSo (unread_with zeros)
      (came_to 3 (stop.NotYet 3))
      (calls (free told) (woke idle 4 3) (97 ∷ 98 ∷ 99 ∷ 0 ∷ []))
  joins_all =
      record {
        fills = record {
          times = 3;
          filling = filling all_out (part 2 b ∷ part 1 [] ∷ part 0 a ∷ []);
          taken = fills_all;
          stopped = (
            refl,
            record {
              nothing = record { none_left = refl; entered = finds_none; rest = refl };
              fresh = λ knew. cc;
            },
          );
          filled = record { count_is = refl; bytes_are = refl };
        };
        woken = wakes_writer Stream idle 3;
      }

  -- so it is answered
  answers_all : TriesSo (unread_with zeros) (try.Got 3)
      (calls (free told) (woke idle 4 3) (97 ∷ 98 ∷ 99 ∷ 0 ∷ []))
  answers_all = record { why = stop.NotYet 3; tried = joins_all; got = refl }

  reads_all : ReadsSo (unread_with zeros) (Ok (read.Got 3))
      (calls (free told) (woke idle 4 3) (97 ∷ 98 ∷ 99 ∷ 0 ∷ []))
  reads_all = inl answers_all

  -- a wakeup is a step at least
  wakes_nobody : (level : ℕ) → WakesWriters row 1 level idle idle → ⊥
  wakes_nobody level woken = is_not_idle table woken.between level woken.last.woken.ends

  -- a try that took all three writes out and wakes nobody is none
  not_woken : WakesWith row (last_number None (part 2 b ∷ part 1 [] ∷ part 0 a ∷ [])) idle idle → ⊥
  not_woken woken = wakes_nobody 3 woken

  -- nor is one that passed an empty write alone and would sleep with its writer not woken
  sleeps_unwoken : WakesWith row (last_number None (part 0 [] ∷ [])) idle idle → ⊥
  sleeps_unwoken woken = wakes_nobody 1 woken

  -- nor is one that wakes with the number of the first write that it took out
  wakes_with_the_first :
      WakesWith row (last_number None (part 2 b ∷ part 1 [] ∷ part 0 a ∷ [])) idle (woke idle 4 1)
      → ⊥
  wakes_with_the_first woken = by woken.last.woken.ends
    where
      by : Ends (raises woken.between (at_rendez 4) 3) (woke idle 4 1) → ⊥
      by (inl nobody) =
          let events = ap (λ (p : Process). map (λ step. step.event) p.trace) nobody in
          cc
      by (inr sleeper) = let trace = ap (λ (p : Process). p.trace) sleeper.1 in cc

  -- ---- a write that is begun, and what is left of it

  abbrev second_byte : Part
  second_byte = part 0 (98 ∷ [])

  abbrev begun : Taker
  begun = record { account = one_out; rest = Some second_byte }

  -- one byte of the first write fills its buffer, and the other is kept
  begins_a_write : TriesOnSo (unread_with (0 ∷ [])) (came_to 1 stop.Enough)
      (calls begun (woke idle 4 1) (97 ∷ []))
  begins_a_write =
      one_part loose row (unread_with (0 ∷ [])) 1 stop.Enough
      (calls begun (woke idle 4 1) (97 ∷ [])) (part 0 (97 ∷ [])) begun refl
      (record {
        left = part 0 a;
        next = inr record { none_left = refl; taken = takes_first };
        part_is = refl;
        rest = refl;
      })
      (refl, refl) (record { count_is = refl; bytes_are = refl }) (wakes_writer Stream idle 1)

  -- the other is read next, and nobody is woken for it
  goes_on_in_it : TriesOnSo (calls begun idle (0 ∷ [])) (came_to 1 stop.Enough)
      (calls (free one_out) idle (98 ∷ []))
  goes_on_in_it =
      one_part loose row (calls begun idle (0 ∷ [])) 1 stop.Enough
      (calls (free one_out) idle (98 ∷ [])) second_byte (free one_out) refl
      (record {
        left = second_byte;
        next = inl record { left_is = refl; account = refl };
        part_is = refl;
        rest = refl;
      })
      (refl, refl) (record { count_is = refl; bytes_are = refl }) refl

  tries_a_byte : TriesSo (calls begun idle (0 ∷ [])) (try.Got 1)
      (calls (free one_out) idle (98 ∷ []))
  tries_a_byte = record { why = stop.Enough; tried = goes_on_in_it; got = refl }

  -- ---- no byte

  -- an empty write was passed, for which the writer was woken
  passes_an_empty_write : TriesOnSo (unread_with b) (came_to 0 (stop.NotYet 1)) (empty_with b)
  passes_an_empty_write =
      one_part loose row (unread_with b) 0 (stop.NotYet 1) (empty_with b) (part 0 [])
      (free passed) refl
      (record {
        left = part 0 [];
        next = inr record { none_left = refl; taken = takes_empty };
        part_is = refl;
        rest = refl;
      }) (
        refl,
        record {
          nothing = record { none_left = refl; entered = finds_nothing; rest = refl };
          fresh = λ knew. cc;
        },
      ) (record { count_is = refl; bytes_are = refl }) (wakes_writer Stream idle 1)

  tries_too_early : TriesSo (unread_with b) try.NotYet (empty_with b)
  tries_too_early = record { number = 1; tried = passes_an_empty_write }

  -- it wakes first, then sleeps with the number that it was told, and is interrupted
  read_is_interrupted : ReadsSo (unread_with b)
      (Err (fault.Interrupted (only Interrupt)))
      (calls (free told_empty) (slept (woke idle 4 1) 3 1 (only Interrupt)) b)
  read_is_interrupted =
      interrupted (reading loose row) 3 (unread_with b)
      (empty_with b).seat (empty_with b).seat
      (woke idle 4 1) 1 passes_an_empty_write refl

  finds_an_end : TriesOnSo (unread_with b) (came_to 0 stop.End) (ended_with b)
  finds_an_end =
      no_part loose row (unread_with b) stop.End (ended_with b)
      (refl, record { none_left = refl; entered = finds_the_end; rest = refl }) refl refl

  tries_at_the_end : TriesSo (unread_with b) try.End (ended_with b)
  tries_at_the_end = finds_an_end

  reads_to_the_end : ReadsSo (unread_with b) (Ok read.End) (ended_with b)
  reads_to_the_end = inl finds_an_end

  -- an end has no byte
  end_fills_its_buffer : (new : Taker) → TriesSo (unread_with b) try.End (calls new idle a) → ⊥
  end_fills_its_buffer new tries =
      let filled = tries.fills.filled in
      let none : length (bytes_of tries.fills.filling.parts) ≡ 0 = sym filled.count_is in
      let size = ap length filled.bytes_are
      ∙ length-append (bytes_of tries.fills.filling.parts) b in
      absurd (omega (arith, none, size))

  -- a read that is refused at once did nothing
  refused_read_passes : ReadsSo (unread_with b) (Err fault.NoRendez)
      (calls (free passed) idle b) → ⊥
  refused_read_passes reads = let seen = ap (λ (c : Calling). c.seat.taker.account.seen) reads in cc
