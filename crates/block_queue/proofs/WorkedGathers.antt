-- What a gather tells who has all seats, row by row.
use Rattle.std.proofs.Common.{◌≡◌, ◌≤◌, ◌+◌, ◌-◌, ℕ, List, [], true, length, subst}
use Rattle.std.specs.Prelude.{◌==◌, ◌||◌, None, IsTrue, drop}
use Rattle.std.specs.List.{AllByRecursion, list_any}
use Rattle.histories.specs.declared.account.Account.{Account}
use Rattle.histories.specs.Account.{HasAllNumbers, HasItsEntries, has_number}
use Rattle.histories.specs.History.{IsPast, IsLegal}
use Rattle.sync_base.specs.Pipe.{begun_number}
use Rattle.sync_base.specs.Write.{Write}
use Rattle.sync_base.specs.declared.limits.TheConstants.{LAST_WRITE}
use Rattle.block_queue.specs.declared.entry.Entry.{Entry}
use Rattle.block_queue.specs.declared.gather.Gathered.{Gathered}
use Rattle.block_queue.specs.declared.seats.PutSeat.{PutSeat}
use Rattle.block_queue.specs.declared.seats.TakeSeat.{TakeSeat}
use Rattle.block_queue.specs.declared.view.Key.{Key}
use Rattle.block_queue.specs.declared.view.View.{View}
use Rattle.block_queue.specs.Gather.{Gathers, AreTheirPasts, AreTheirs, AreAllSeats, SawPasts}
use Rattle.block_queue.specs.Gather.{TellsPasts, IsJoining, HasJoined, IsLeft, IsEmptying, Empties}
use Rattle.block_queue.specs.Gather.{numbers_of, with_blocks}
use Rattle.block_queue.specs.GatherSteps.{KnowsState, HasSurveyed}
use Rattle.block_queue.specs.History.{seat_of, opening_state}
use Rattle.block_queue.specs.Meaning.{KnowsQueue, queue_after, queue_meaning}
use Rattle.block_queue.specs.Places.{tail_word}
use Rattle.block_queue.specs.Seats.{put_account, take_account}
use Rattle.block_queue.specs.Steps.{Seated}

module _ (key : Key) (take : TakeSeat) (puts : List PutSeat) (gathered : Gathered)
    (gathers : Gathers key take puts gathered) where
  -- the one history, and what is after it where all that is left was taken
  abbrev history : List Entry
  history = gathers.history

  abbrev emptied : List Entry
  emptied =
      with_blocks (begun_number key.first (queue_after key history).pipe) gathered.blocks.items
      history

  it_is_legal : IsLegal (queue_meaning key.first) (opening_state key.limit) history
  it_is_legal = gathers.legal.legal

  the_reader_has_seen_a_past_of_it : IsPast (take_account take).seen history
  the_reader_has_seen_a_past_of_it = gathers.past

  the_readers_entries_are_all_in_it :
      AllByRecursion (HasItsEntries seat_of history) (take_account take).shares
  the_readers_entries_are_all_in_it = gathers.mine

  it_tells_of_the_hangup : gathered.hung ≡ (queue_after key history).pipe.hung
  it_tells_of_the_hangup = gathers.hung

  each_writer_has_seen_a_past_of_it : AreTheirPasts history puts
  each_writer_has_seen_a_past_of_it = gathers.puts_past

  each_writers_entries_are_all_in_it : AreTheirs history puts
  each_writers_entries_are_all_in_it = gathers.puts_mine

  what_is_gathered_was_accepted_and_not_read : gathered.blocks.items ≡
      drop (queue_after key history).pipe.read_whole (queue_after key history).pipe.accepted
  what_is_gathered_was_accepted_and_not_read = gathers.blocks_are

  after_it_nothing_is_left : length (queue_after key emptied).pipe.accepted ≡
      (queue_after key emptied).pipe.read_whole + 0
  after_it_nothing_is_left =
      subst (λ (seen : List Entry).
      length (queue_after key seen).pipe.accepted ≡ (queue_after key seen).pipe.read_whole + 0)
      gathers.final_is gathers.none.left_is

-- ---- who has all seats, and what they tell on the way

module _ (take : TakeSeat) (puts rest : List PutSeat) (old now : View) (history : List Entry) where
  all_seats_are_the_readers : AreAllSeats take puts
      → ((take_account take).gave ≡ numbers_of puts)
      × AllByRecursion (λ seat. (put_account seat).gave ≡ []) puts
  all_seats_are_the_readers are = (are.order, are.none)

  their_pasts_and_entries :
      (AreTheirPasts history puts
      → AllByRecursion (λ seat. IsPast (put_account seat).seen history) puts)
      × (AreTheirs history puts
      → AllByRecursion
      (λ seat. AllByRecursion (HasItsEntries seat_of history) (put_account seat).shares) puts)
  their_pasts_and_entries = (λ are. are, λ are. are)

  a_joined_seat_saw_pasts : SawPasts history now → IsPast now.account.seen history
      × AllByRecursion (λ past. IsPast past history) now.pasts
  a_joined_seat_saw_pasts saw = (saw.seen, saw.before)

  what_one_saw_tells_of_all : TellsPasts puts old rest now → SawPasts history now
      → IsPast old.account.seen history
      × (AreTheirPasts history rest → AreTheirPasts history puts)
  what_one_saw_tells_of_all tells saw = (tells.reader history saw, tells.writers history saw)

module _ (puts rest : List PutSeat) (old now : Account Entry) (history : List Entry) where
  module _ (joining : IsJoining puts old rest now) where
    it_has_the_numbers_that_are_not_among_the_rest : (now.gave ≡ old.gave)
        × IsTrue (has_number now.shares 0)
        × AllByRecursion (λ seat. (put_account seat).gave ≡ []) rest
        × AllByRecursion (λ number. (has_number now.shares number ||
        list_any (λ other. other == number) (numbers_of rest)) ≡ true) (numbers_of puts)
    it_has_the_numbers_that_are_not_among_the_rest =
        (joining.gave, joining.first, joining.none, joining.numbers)

    its_entries_are_theirs : AllByRecursion (HasItsEntries seat_of history) now.shares
        → AllByRecursion (HasItsEntries seat_of history) old.shares
        × (AreTheirs history rest → AreTheirs history puts)
    its_entries_are_theirs mine = (joining.theirs history mine, joining.puts_theirs history mine)

  module _ (joined : HasJoined puts old now) where
    it_has_all_numbers : old.gave ≡ numbers_of puts → HasAllNumbers now
    it_has_all_numbers = joined.all

    all_entries_are_theirs : AllByRecursion (HasItsEntries seat_of history) now.shares
        → AllByRecursion (HasItsEntries seat_of history) old.shares × AreTheirs history puts
    all_entries_are_theirs mine = (joined.theirs history mine, joined.puts_theirs history mine)

module _ (key : Key) (left : ℕ) (old now : Account Entry) (blocks : List Write) where
  so_many_blocks_are_left : IsLeft key now left → HasAllNumbers now × KnowsQueue key now
      × ((number : ℕ) → (queue_after key now.seen).putting number ≡ None)
      × (length (queue_after key now.seen).pipe.accepted ≡
      (queue_after key now.seen).pipe.read_whole + left)
  so_many_blocks_are_left is = (is.all, is.knows, is.puts, is.left_is)

  so_many_were_taken_out : IsEmptying key left old now blocks
      → IsLeft key now (left - length blocks)
      × (now.seen ≡
      with_blocks (begun_number key.first (queue_after key old.seen).pipe) blocks old.seen)
      × (begun_number key.first (queue_after key now.seen).pipe ≡
      begun_number key.first (queue_after key old.seen).pipe + length blocks)
  so_many_were_taken_out is = (is.is_left, is.seen, is.begun)

  all_were_taken_out : Empties key left old now blocks
      → (now.seen ≡
      with_blocks (begun_number key.first (queue_after key old.seen).pipe) blocks old.seen)
      × IsLeft key now 0
  all_were_taken_out empties = (empties.seen, empties.none)

module _ (key : Key) (before after : Seated) (found : ℕ) (history : List Entry) where
  the_tail_tells_the_state : (knows : KnowsState key before.0 found history)
      → (found ≡ tail_word (queue_after key history).pipe)
      × (before.0.taken ≡ (queue_after key history).pipe.read_whole)
      × ((number : ℕ) → (queue_after key history).putting number ≡ None)
      × (key.first ≤ LAST_WRITE)
      × AllByRecursion (λ past. IsPast past history) before.0.pasts
  the_tail_tells_the_state knows =
      (knows.tail, knows.taken, knows.puts, knows.given, knows.pasts)

  who_surveyed_alone_knows_the_state : HasSurveyed key before found after → (after ≡ before)
      × KnowsQueue key before.0.account
      × (HasAllNumbers before.0.account
      → KnowsState key before.0 found before.0.account.seen)
  who_surveyed_alone_knows_the_state has = (has.same, has.knows, has.alone)
