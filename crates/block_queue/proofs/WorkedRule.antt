-- What the ring's rule says between two steps, and what an object shows: each against the rows that
-- it names.
use Rattle.std.proofs.Common.{◌≡◌, ◌≢◌, ◌<◌, ◌≤◌, ◌+◌, ℕ, List, length, true, false}
use Rattle.std.proofs.Common.{Some, None, refl, arith}
use Rattle.std.specs.Prelude.{◌⊎◌, Bool, Option, IsTrue, slice_get, slice_index}
use Rattle.std.specs.List.{AllByRecursion}
use mathlib.Core.Option.{some}
use lib.ListN.{get_elem?}
use Rattle.atomic_table.specs.Table as table
use Rattle.histories.specs.declared.account.Share.{Share}
use Rattle.histories.specs.Account.{has_number}
use Rattle.histories.specs.History.{IsLegal, IsPast, state_after}
use Rattle.histories.specs.Ledger.{AreSeats}
use Rattle.sync_base.specs.Write.{Write}
use Rattle.sync_base.specs.declared.limits.TheConstants.{LAST_WRITE}
use Rattle.block_queue.specs.declared.entry.Entry.{Entry}
use Rattle.block_queue.specs.declared.queue_object.QueueCall.{QueueCall}
use Rattle.block_queue.specs.declared.queue_object.QueueReply.{QueueReply}
use Rattle.block_queue.specs.declared.view.Key.{Key}
use Rattle.block_queue.specs.declared.view.Stage.TheVariants.{Free, Counted, Placed, Storing}
use Rattle.block_queue.specs.declared.view.Stage.TheVariants.{Looking, Moving}
use Rattle.block_queue.specs.declared.view.View.{View}
use Rattle.block_queue.specs.History.{QueueState, opening_state, seat_of}
use Rattle.block_queue.specs.Laws.{Shows, IsFirst, IsCall, entries_of}
use Rattle.block_queue.specs.Meaning.{queue_after, queue_meaning}
use Rattle.block_queue.specs.Places.{Homes, IsUnstored, IsPlace, AreWords, IsQueueState}
use Rattle.block_queue.specs.Places.{free_word, stored_word, place_of, sequence_of, ring_words}
use Rattle.block_queue.specs.Places.{tail_word}
use Rattle.block_queue.specs.QueueObject.{Contents, new_kept, after_reply}
use Rattle.block_queue.specs.Rule.{IsStageLooking, IsCounted, IsPlaced, IsStoring, IsLooking}
use Rattle.block_queue.specs.Rule.{IsMoving, FitsStage, IsReader, FitsView, IsOneQueue}
use Rattle.block_queue.specs.Rule.{account_of, is_moving, put_at}

-- ---- a new queue

it_is_a_state : IsQueueState 1 0 (opening_state 1)
it_is_a_state =
    record {
      limit_is = refl;
      whole = refl;
      within = omega arith;
      room = omega arith;
      given = omega arith;
    }

its_object_shows_it : Shows 0 (new_kept 1 0) (opening_state 1)
its_object_shows_it =
    record {
      limit = refl;
      whole = refl;
      within = omega arith;
      taken_out = refl;
      waiting = refl;
      hung = refl;
      puts = λ seat. refl;
      room = omega arith;
      given = omega arith;
    }

no_write_of_it_is_unstored : (write : Write) → ¬ IsUnstored 0 (opening_state 1) write 0
no_write_of_it_is_unstored write is = let no : ◌≡◌ {A = Option ℕ} None (Some 1) = is in cc

-- ---- words and slots

module _ (limit first : ℕ) (s : QueueState) (out : Bool) (words : List ℕ) (homes : Homes) where
  module _ (are : AreWords limit first s out words homes) where
    so_many_words_and_slots : (length words ≡ ring_words limit) × (length homes ≡ limit)
        × (slice_index words 0 ≡ tail_word s.pipe)
    so_many_words_and_slots = (are.word_count, are.slot_count, are.tail)

    each_place_is_so : (count : ℕ) → s.pipe.read_whole ≤ count
        → count < s.pipe.read_whole + limit → IsPlace limit first s out words homes count
    each_place_is_so = are.places

  module _ (count : ℕ) (place : IsPlace limit first s out words homes count) where
    it_is_free_and_empty : length s.pipe.accepted ≤ count
        → (slice_index words (sequence_of (place_of limit count)) ≡ free_word limit count)
        × (get_elem? homes (place_of limit count) ≡ some (some None))
    it_is_free_and_empty none = (place.free none, place.empty none)

    module _ (write : Write) (is : slice_get s.pipe.accepted count ≡ Some write) where
      its_write_has_begun : IsUnstored first s write count
          → slice_index words (sequence_of (place_of limit count)) ≡ free_word limit count
      its_write_has_begun = place.begun write is

      its_write_stands : ¬ IsUnstored first s write count
          → (slice_index words (sequence_of (place_of limit count)) ≡ stored_word limit count)
          × ((out ≡ false) ⊎ (count ≢ s.pipe.read_whole)
          → get_elem? homes (place_of limit count) ≡ some (some (Some write)))
      its_write_stands stands = (place.stored write is stands, place.full write is stands)

-- ---- what a stage says

looking_is_one_stage : ¬ IsStageLooking Free
looking_is_one_stage (found, is) = let no : Free ≡ Looking found = is in cc

module _ (limit first : ℕ) (s : QueueState) (shares : List (Share Entry)) (reader seat : ℕ) where
  module _ (count : ℕ) where
    who_counted_has_a_number : FitsStage limit first s shares reader seat (Counted count)
        → IsCounted first s count
    who_counted_has_a_number fits = fits

    so_many_were_accepted : IsCounted first s count
        → (count ≤ length s.pipe.accepted) × (first + count < LAST_WRITE)
    so_many_were_accepted is = (is.accepted, is.given)

    who_has_a_place_has_room : FitsStage limit first s shares reader seat (Placed count)
        → IsPlaced limit first s count
    who_has_a_place_has_room fits = fits

    there_is_room_for_it : IsPlaced limit first s count
        → IsCounted first s count × (count < s.pipe.read_whole + limit)
    there_is_room_for_it is = (is.counted, is.room)

  module _ (write : Write) where
    who_stores_has_a_write : (count : ℕ)
        → FitsStage limit first s shares reader seat (Storing count write.writer write.bytes)
        → IsStoring first s shares count write
    who_stores_has_a_write count fits = fits

    it_was_accepted_and_is_not_read : (count : ℕ) → IsStoring first s shares count write
        → (s.pipe.read_whole ≤ count) × (slice_get s.pipe.accepted count ≡ Some write)
        × IsUnstored first s write count × IsTrue (has_number shares (write.writer + 1))
    it_was_accepted_and_is_not_read count is = (is.not_begun, is.write_is, is.unstored, is.own)

    who_moves_has_the_next :
        FitsStage limit first s shares reader seat (Moving write.writer write.bytes)
        → IsMoving first s reader seat write
    who_moves_has_the_next fits = fits

    it_stands_and_is_next : IsMoving first s reader seat write → (reader ≡ seat)
        × (slice_get s.pipe.accepted s.pipe.read_whole ≡ Some write)
        × ¬ IsUnstored first s write s.pipe.read_whole
    it_stands_and_is_next is = (is.reader_is, is.write_is, is.stored)

  who_looks_is_the_reader : (found : Bool)
      → FitsStage limit first s shares reader seat (Looking found) → IsLooking s reader seat found
  who_looks_is_the_reader found fits = fits

  what_it_found_is_left : IsLooking s reader seat true
      → (reader ≡ seat) × (s.pipe.read_whole < length s.pipe.accepted)
  what_it_found_is_left is = (is.reader_is, is.left refl)

  module _ (out : Bool) (view : View) where
    the_reader_knows_what_is_out : IsReader s out view
        → (view.taken ≡ s.pipe.read_whole) × (out ≡ is_moving view.stage)
    the_reader_knows_what_is_out is = (is.taken, is.out_is)

    a_view_fits : FitsView limit first s out reader seat view
        → AllByRecursion (λ share. s.putting share.number ≡ put_at first view.stage share.number)
        view.account.shares
        × (reader ≡ seat → IsReader s out view)
        × FitsStage limit first s view.account.shares reader seat view.stage
    a_view_fits fits = (fits.puts, fits.reader_knows, fits.stage)

-- ---- the rule

module _ (key : Key) (t : table.State (Option Write) View) (is : IsOneQueue key t) where
  abbrev state : QueueState
  state = queue_after key is.ledger.history

  it_has_room_and_a_first_number : (0 < key.limit) × (key.first ≤ LAST_WRITE)
      × (is.ledger.next ≤ key.writers + 1)
  it_has_room_and_a_first_number = (is.some_room, is.first_given, is.writers)

  its_words_are_what_one_history_leaves :
      IsLegal (queue_meaning key.first) (opening_state key.limit) is.ledger.history
      × AreWords key.limit key.first state is.out t.words t.homes
      × AreSeats seat_of account_of is.ledger t.views
  its_words_are_what_one_history_leaves = (is.legal, is.words, is.seats)

  each_seat_fits_and_saw_pasts : (seat : ℕ) (view : View) → get_elem? t.views seat ≡ some view
      → FitsView key.limit key.first state is.out (is.ledger.owner 0) seat view
      × AllByRecursion (λ past. IsPast past is.ledger.history) view.pasts
  each_seat_fits_and_saw_pasts seat view at = (is.views seat view at, is.pasts seat view at)

-- ---- a call on the object

a_call_is_legal_and_first : (kept : Contents) (s : QueueState) (call : QueueCall)
    (answer : QueueReply)
    → IsCall 0 kept s 1 call answer
    → IsLegal (queue_meaning 0) s (entries_of 1 call answer) × IsFirst 0 s answer
    × Shows 0 (after_reply kept call answer)
    (state_after (queue_meaning 0) s (entries_of 1 call answer))
a_call_is_legal_and_first kept s call answer is = (is.legal, is.is_first, is.after)
