-- What the calls of an end make of what it has read or written, and what a finish finds.
use Rattle.std.proofs.Common.{◌≡◌, ◌+◌, ◌<◌, ℕ, List, [], ◌∷◌, map, refl, sym}
use Rattle.std.proofs.Common.{◌∙◌, ap, subst, arith, inr}
use Rattle.std.proofs.lemmas.List.{append-nil}
use Rattle.std.specs.List.{AllByRecursion}
use Rattle.histories.specs.Account.{numbers_from}
use Rattle.histories.specs.History.{AreByBelow}
use Rattle.histories.proofs.ListLemmas.{all_append}
use Rattle.sync_base.specs.Write.{Write}
use Rattle.block_queue.specs.declared.entry.Entry.{Entry}
use Rattle.block_queue.specs.declared.entry.Entry.TheVariants.{Taken}
use Rattle.block_queue.specs.declared.entry.Entry.TheVariants.{Hung}
use Rattle.block_queue.specs.declared.queue.Queue.{Queue}
use Rattle.block_queue.specs.declared.view.Key.{Key}
use Rattle.block_queue.specs.History.{seat_of}
use Rattle.block_queue.specs.Opening.{reader_account}
use Rattle.block_queue.specs.Seats.{key_of}
use Rattle.pipe_dev.specs.declared.row.Row.{Row}
use Rattle.pipe_dev.specs.Chain.{ReadStep, IsMade}
use Rattle.pipe_dev.specs.Chain.{AddsRead, AddsTry, AddsNone}
use Rattle.pipe_dev.specs.Ends.{ReadSide, WriteSide, AreOfOne, IsSameReadEnd}
use Rattle.pipe_dev.specs.Ends.{reading_of}
use Rattle.pipe_dev.specs.Finishing.{left_state, holdings_of, shares_of}
use Rattle.pipe_dev.specs.Openings.{IsNewWriteEnd}
use Rattle.pipe_dev.specs.Parts.{Part}
use Rattle.pipe_dev.specs.ReadCalls.{calling}
use Rattle.pipe_dev.specs.Reading.{first_reading}
use Rattle.pipe_dev.specs.Rounds.{Rounds}
use Rattle.pipe_dev.specs.Sides.{HasReadJust, HasWrittenJust, AddsToRead, AreSameWriteEnds}
use Rattle.pipe_dev.specs.SideLaws.{NewEndsAreUnused, ReadsAddToTheirEnd, TriesAddToTheirEnd}
use Rattle.pipe_dev.specs.SideLaws.{ReadEndsHangUp, WritesAddToTheirEnd, WriteEndsHangUp}
use Rattle.pipe_dev.specs.SideLaws.{CallsKeepAllEnds, FinishesFindAccepted}
use Rattle.pipe_dev.specs.WriteCalls.{call_of, writer_of}
use Rattle.pipe_dev.proofs.ChainLemmas.{reads_are_steps, tries_are_steps, rounds_then}
use Rattle.pipe_dev.proofs.ChainLemmas.{each_write_is_read_whole_and_once}
use Rattle.pipe_dev.proofs.LawLemmas.{all_accepted}
use Rattle.pipe_dev.proofs.ReadingLemmas.{what_is_read_is_right}
use Rattle.pipe_dev.proofs.WrittenLemmas.{new_ends_have_written_nothing}
use Rattle.pipe_dev.proofs.WrittenLemmas.{writes_add_what_was_accepted, hangups_write_nothing}

-- ---- a read end

-- steps add what they add
pub steps_add : (Adds : List Part → List Part → Type 0) (old new : ReadSide)
    (parts parts' : List Part) (times : ℕ) → HasReadJust old parts → IsSameReadEnd old new
    → Adds parts parts'
    → Rounds (ReadStep (key_of old.queue)) times (reading_of old parts)
    (reading_of new parts')
    → AddsToRead Adds old parts new
steps_add Adds old new parts parts' times made same adds rounds =
    let all = rounds_then (ReadStep (key_of old.queue)) made.times times
    (first_reading (reader_account (key_of old.queue).writers)) (reading_of old parts)
    (reading_of new parts') made.steps rounds in
    record {
      same = same;
      parts' = parts';
      added = adds;
      just = subst (λ (q : Queue). IsMade (key_of q) (reading_of new parts')) (sym same.queue)
          (record { first = made.first; times = all.0; steps = all.1 });
    }

-- a read adds to what its end has read just what it answers, and the end stays where it is
pub reads_add : ReadsAddToTheirEnd
reads_add old new before after buffer answer buffer' room reads same parts made =
    let call =
    reads_are_steps (key_of old.queue) old.row (calling old before buffer) answer
    (calling new after buffer') room reads parts in
    steps_add (AddsRead old.row.mode answer buffer') old new parts call.parts' call.times made same
    call.added
    call.steps

-- and so does a read that does not wait
pub tries_add : TriesAddToTheirEnd
tries_add old new before after buffer answer buffer' room tries same parts made =
    let call =
    tries_are_steps (key_of old.queue) old.row (calling old before buffer) answer
    (calling new after buffer') room tries parts in
    steps_add (AddsTry old.row.mode answer buffer') old new parts call.parts' call.times made same
    call.added
    call.steps

-- a hangup by the reader adds nothing to what its end has read
pub read_ends_hang_up : ReadEndsHangUp
read_ends_hang_up old new enters rest same parts made =
    steps_add AddsNone old new parts parts 1 made same refl
    (record {
      between = reading_of old parts;
      rounds = refl;
      last = inr
          (record { entry = Hung 0; entered = enters; no_block = tt; rest = rest; parts = refl });
    })

-- ---- a write end

-- a write adds its bytes to what its end has written exactly where it answers a number
pub writes_add : WritesAddToTheirEnd
writes_add old new before after block answer writes same =
    record {
      same = same;
      just = λ blocks written.
          rw same.writer
          (writes_add_what_was_accepted (call_of old block) (writer_of old before) answer
          (writer_of new after) writes blocks written);
    }

-- a hangup by a writer adds nothing to what its end has written
pub write_ends_hang_up : WriteEndsHangUp
write_ends_hang_up old new enters same =
    record {
      same = same;
      just = λ blocks written.
          rw (append-nil blocks, same.writer)
          (hangups_write_nothing (key_of old.queue) old.writer old.account new.account enters blocks
          written);
    }

-- ---- all ends of a direction

-- the ends of a new direction have read and written nothing
pub new_ends_are_unused : NewEndsAreUnused
new_ends_are_unused queue start read writes is_start new =
    record {
      read_none = record {
        first = rw new.queue_is is_start.row_is.first;
        times = 0;
        steps = rw (new.unread, new.rest, new.queue_is, is_start.row_is.writers) refl;
      };
      written_none = each writes new.unwritten;
    }
  where
    each : (ends : List WriteSide) → AllByRecursion (IsNewWriteEnd queue start.row) ends
        → AllByRecursion (λ write. HasWrittenJust write []) ends
    each [] unwritten = tt
    each (write ∷ ends) unwritten = (
      rw unwritten.0.unused (new_ends_have_written_nothing write.writer),
      each ends unwritten.1,
    )

-- ends of one direction are so after calls
still_one : (read read' : ReadSide) (writes writes' : List WriteSide) → IsSameReadEnd read read'
    → AreSameWriteEnds writes writes' → AllByRecursion (AreOfOne read) writes
    → AllByRecursion (AreOfOne read') writes'
still_one read read' [] [] same sames one = tt
still_one read read' (old ∷ olds) (new ∷ news) same sames one = (
  record {
    queue = sames.0.queue ∙ (one.0.queue ∙ sym same.queue);
    row = sames.0.row ∙ (one.0.row ∙ sym same.row);
  },
  still_one read read' olds news same sames.1 one.1,
)
still_one read read' writes writes' same sames one = absurd sames

-- and their writers are in the same order
same_order : (writes writes' : List WriteSide) → AreSameWriteEnds writes writes'
    → map (λ write. write.writer) writes' ≡ map (λ write. write.writer) writes
same_order [] [] sames = refl
same_order (old ∷ olds) (new ∷ news) sames =
    let here = sames.0.writer in let others = same_order olds news sames.1 in cc
same_order writes writes' sames = absurd sames

-- ends that were all ends of a direction are so after any calls
pub calls_keep_all_ends : CallsKeepAllEnds
calls_keep_all_ends read read' writes writes' same sames all =
    record {
      one = still_one read read' writes writes' same sames all.one;
      order = same_order writes writes' sames
          ∙ (all.order ∙ ap (λ (r : Row). numbers_from 0 r.writers) (sym same.row));
    }

-- ---- what a finish finds

-- each accepted write is by a writer of the direction
accepted_known : (key : Key) (history : List Entry)
    → AreByBelow seat_of (key.writers + 1) history
    → AllByRecursion (λ write. write.writer < key.writers) (left_state key history).accepted
accepted_known key [] within = tt
accepted_known key (Taken writer block number ∷ past) within =
    all_append (λ (write : Write). write.writer < key.writers) (left_state key past).accepted
    (record { writer = writer; bytes = block } ∷ []) (accepted_known key past within.1)
    (omega (arith, within.0), tt)
accepted_known key (entry ∷ past) within = accepted_known key past within.1

-- a finish of all ends finds each accepted write, whole and once and in the order of acceptance
pub finishes_find_accepted : FinishesFindAccepted
finishes_find_accepted read parts writes held made gives =
    let key = key_of read.queue in
    let right =
    what_is_read_is_right key (reading_of read parts) made in
    record {
      accepted = (left_state key (gives parts).finishes.history).accepted;
      whole = all_accepted key (reading_of read parts) (shares_of writes) (holdings_of held) right
          (gives parts).finishes;
      known = accepted_known key (gives parts).finishes.history (gives parts).finishes.legal.within;
      theirs = each_write_is_read_whole_and_once read parts writes held made gives;
    }
