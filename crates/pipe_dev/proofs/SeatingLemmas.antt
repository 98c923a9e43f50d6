-- Seats and the write ends that hold them.
use Rattle.std.proofs.Common.{◌≡◌, eqb, ℕ, zero, suc, ◌+◌, ◌<◌, ◌≤◌, Bool, true, List, [], ◌∷◌}
use Rattle.std.proofs.Common.{length, map, refl, sym, ◌∙◌, ap, subst, arith}
use Rattle.std.specs.Prelude.{◌||◌, slice_get, Some}
use Rattle.std.specs.List.{AllByRecursion}
use Rattle.std.proofs.lemmas.Bool.Decides.{nat_tests}
use Rattle.histories.specs.declared.account.Account.{Account}
use Rattle.histories.specs.declared.account.Share.{Share}
use Rattle.histories.specs.Account.{numbers_from, has_number, HasItsEntries}
use Rattle.histories.specs.History.{entries_by}
use Rattle.histories.proofs.ListLemmas.{all_append, all_weaker}
use Rattle.block_queue.specs.declared.entry.Entry.{Entry}
use Rattle.block_queue.specs.declared.queue.Queue.{Queue}
use Rattle.block_queue.specs.declared.seats.PutSeat.{PutSeat}
use Rattle.block_queue.specs.declared.view.Key.{Key}
use Rattle.block_queue.specs.Gather.{AreTheirs, numbers_of}
use Rattle.block_queue.specs.History.{seat_of}
use Rattle.block_queue.specs.Meaning.{KnowsQueue}
use Rattle.block_queue.specs.Opening.{IsNewPutSeat, new_account, reader_account}
use Rattle.block_queue.specs.Seats.{IsPutSeatOf, key_of, put_account}
use Rattle.pipe_dev.specs.declared.row.Row.{Row}
use Rattle.pipe_dev.specs.Ends.{ReadSide, WriteSide, AreOfOne, IsRowOf, IsWriteSeat}
use Rattle.pipe_dev.specs.Finishing.{shares_of}
use Rattle.pipe_dev.specs.Openings.{IsSeatToGive, IsNewWriteEnd}
use Rattle.pipe_dev.specs.Seating.{AreSeatsOf, side_of}

-- ---- what a new seat knows

numbers_below : (first count bound : ℕ) → first + count ≤ bound
    → AllByRecursion (λ number. number < bound) (numbers_from first count)
numbers_below first zero bound low = tt
numbers_below first (suc count) bound low =
    (omega (arith, low), numbers_below (first + 1) count bound (omega (arith, low)))

-- what the reader's account knows at the opening is right of its queue
pub reader_knows : (key : Key) → KnowsQueue key (reader_account key.writers)
reader_knows key =
    record {
      history = record { legal = tt; within = tt };
      mine = (record { entries = refl }, tt);
      different = (tt, tt);
      numbers = (omega arith, tt);
      gave = numbers_below 1 key.writers (key.writers + 1) (omega arith);
    }

-- and so is what the new account of one of its writers knows
pub writer_knows : (key : Key) (writer : ℕ) → writer < key.writers
    → KnowsQueue key (new_account (writer + 1))
writer_knows key writer low =
    record {
      history = record { legal = tt; within = tt };
      mine = (record { entries = refl }, tt);
      different = (tt, tt);
      numbers = (omega (arith, low), tt);
      gave = tt;
    }

seat_to_give : (queue : Queue) (row : Row) (writer : ℕ) (seat : PutSeat) → IsRowOf queue row
    → IsNewPutSeat queue writer seat → IsSeatToGive queue row seat
seat_to_give queue row writer seat row_is new =
    let account : put_account seat ≡ new_account (seat.writer + 1)
    = new.account_is ∙ ap (λ (n : ℕ). new_account (n + 1)) (sym new.writer_is) in
    record {
      seat_is = record {
        row_is = row_is;
        seat_is = new.seat_is;
        knows = subst (λ (a : Account Entry). KnowsQueue (key_of queue) a) (sym account)
            (writer_knows (key_of queue) seat.writer new.seat_is.writer_is);
        gave = ap (λ (a : Account Entry). a.gave) account;
      };
      unused = account;
    }

-- these are the writers' seats, from this writer on
pub all_to_give : (queue : Queue) (row : Row) (first : ℕ) (seats : List PutSeat)
    → IsRowOf queue row
    → ((place : ℕ) (seat : PutSeat) → slice_get seats place ≡ Some seat
    → IsNewPutSeat queue (first + place) seat)
    → AllByRecursion (IsSeatToGive queue row) seats
all_to_give queue row first [] row_is each = tt
all_to_give queue row first (seat ∷ seats) row_is each = (
  seat_to_give queue row (first + 0) seat row_is (each 0 seat refl),
  all_to_give queue row (first + 1) seats row_is
      (λ place other there. subst (λ (n : ℕ). IsNewPutSeat queue n other) (omega arith)
      (each (suc place) other there)),
)

-- new seats, one for each writer from this one on, are in the writers' order
pub writers_in_order : (queue : Queue) (first : ℕ) (seats : List PutSeat)
    → ((place : ℕ) (seat : PutSeat) → slice_get seats place ≡ Some seat
    → IsNewPutSeat queue (first + place) seat)
    → map (λ seat. seat.writer) seats ≡ numbers_from first (length seats)
writers_in_order queue first [] each = refl
writers_in_order queue first (seat ∷ seats) each =
    let here : seat.writer ≡ first = (each 0 seat refl).writer_is ∙ omega arith in
    let rest : map (λ seat. seat.writer) seats ≡ numbers_from (first + 1) (length seats)
    = writers_in_order queue (first + 1) seats
    (λ place other there. subst (λ (n : ℕ). IsNewPutSeat queue n other) (omega arith)
    (each (suc place) other there)) in
    ap (λ (n : ℕ). n ∷ map (λ seat. seat.writer) seats) here ∙ ap (λ numbers. first ∷ numbers) rest

-- ---- the ends of a new direction

-- seats that are to be given make new write ends of the direction
pub new_writes : (queue : Queue) (row : Row) (seats : List PutSeat)
    → AllByRecursion (IsSeatToGive queue row) seats
    → AllByRecursion (IsNewWriteEnd queue row) (map (side_of queue row) seats)
new_writes queue row [] all = tt
new_writes queue row (seat ∷ seats) all = (
  record { queue_is = refl; row_is = refl; unused = all.0.unused },
  new_writes queue row seats all.1,
)

-- write ends made with the queue and the Rendez of a read end are of one direction with it
pub new_one : (read : ReadSide) (queue : Queue) (row : Row) (seats : List PutSeat)
    → read.queue ≡ queue → read.row ≡ row
    → AllByRecursion (AreOfOne read) (map (side_of queue row) seats)
new_one read queue row [] same same_row = tt
new_one read queue row (seat ∷ seats) same same_row = (
  record { queue = sym same; row = sym same_row },
  new_one read queue row seats same same_row,
)

-- write ends made of seats are in the order of the seats' writers
pub new_order : (queue : Queue) (row : Row) (seats : List PutSeat)
    → map (λ write. write.writer) (map (side_of queue row) seats) ≡ map (λ seat. seat.writer) seats
new_order queue row [] = refl
new_order queue row (seat ∷ seats) =
    ap (λ (numbers : List ℕ). seat.writer ∷ numbers) (new_order queue row seats)

-- ---- all ends of a direction that are given back

-- the seats of write ends of one direction with a read end are what its write ends hold
pub seats_back : (read : ReadSide) (writes : List WriteSide) (seats : List PutSeat)
    → AllByRecursion (AreOfOne read) writes → AreSeatsOf writes seats
    → AllByRecursion (IsWriteSeat read.queue read.row) seats
seats_back read [] [] one are = tt
seats_back read (write ∷ writes) (seat ∷ seats) one are = (
  rw (one.0.queue, one.0.row) at are.0.seat_is,
  seats_back read writes seats one.1 are.1,
)
seats_back read writes seats one are = absurd are

-- a seat that a write end holds is a writer's seat of its queue
pub write_seats_put : (queue : Queue) (row : Row) (seats : List PutSeat)
    → AllByRecursion (IsWriteSeat queue row) seats → AllByRecursion (IsPutSeatOf queue) seats
write_seats_put queue row =
    all_weaker (IsWriteSeat queue row) (IsPutSeatOf queue) (λ seat held. held.seat_is)

-- a seat that a write end holds has no numbers that were given away
pub write_seats_none : (queue : Queue) (row : Row) (seats : List PutSeat)
    → AllByRecursion (IsWriteSeat queue row) seats
    → AllByRecursion (λ seat. (put_account seat).gave ≡ []) seats
write_seats_none queue row =
    all_weaker (IsWriteSeat queue row) (λ seat. (put_account seat).gave ≡ [])
    (λ seat held. held.gave)

-- the ends are made of their seats again
pub sides_back : (read : ReadSide) (writes : List WriteSide) (seats : List PutSeat)
    → AllByRecursion (AreOfOne read) writes → AreSeatsOf writes seats
    → map (side_of read.queue read.row) seats ≡ writes
sides_back read [] [] one are = refl
sides_back read (write ∷ writes) (seat ∷ seats) one are =
    let queue = one.0.queue in
    let row = one.0.row in
    let writer = are.0.writer_is in
    let account = are.0.account in
    let side : side_of read.queue read.row seat ≡ record {
      queue = write.queue;
      row = write.row;
      writer = write.writer;
      account = write.account;
    } = cc in
    ap (λ (w : WriteSide). w ∷ map (side_of read.queue read.row) seats) side
    ∙ ap (λ (ws : List WriteSide). write ∷ ws) (sides_back read writes seats one.1 are.1)
sides_back read writes seats one are = absurd are

one_above : (first count : ℕ) → map (λ n. n + 1) (numbers_from first count)
    ≡ numbers_from (first + 1) count
one_above first zero = refl
one_above first (suc count) = ap (λ (ns : List ℕ). (first + 1) ∷ ns) (one_above (first + 1) count)

numbers_are : (writes : List WriteSide) (seats : List PutSeat) → AreSeatsOf writes seats
    → numbers_of seats ≡ map (λ n. n + 1) (map (λ write. write.writer) writes)
numbers_are [] [] are = refl
numbers_are (write ∷ writes) (seat ∷ seats) are =
    let rest = numbers_are writes seats are.1 in let writer = are.0.writer_is in cc
numbers_are writes seats are = absurd are

-- the seats of all write ends, in order, have the numbers from 1 to the count of writers
pub numbers_back : (writers : ℕ) (writes : List WriteSide) (seats : List PutSeat)
    → map (λ write. write.writer) writes ≡ numbers_from 0 writers → AreSeatsOf writes seats
    → numbers_from 1 writers ≡ numbers_of seats
numbers_back writers writes seats order are =
    sym (numbers_are writes seats are ∙ (ap (map (λ n. n + 1)) order ∙ one_above 0 writers))

-- what a history has of the seats it has of the write ends
pub shares_back : (history : List Entry) (writes : List WriteSide) (seats : List PutSeat)
    → AreSeatsOf writes seats → AreTheirs history seats
    → AllByRecursion (HasItsEntries seat_of history) (shares_of writes)
shares_back history [] [] are theirs = tt
shares_back history (write ∷ writes) (seat ∷ seats) are theirs =
    all_append (HasItsEntries seat_of history) write.account.shares (shares_of writes)
    (rw are.0.account at theirs.0)
    (shares_back history writes seats are.1 theirs.1)
shares_back history writes seats are theirs = absurd are

-- the number is that of the first share, or of one of the others
pub either : {P : Type 0} (number own : ℕ) (others : Bool) → (number ≡ own → P)
    → (others ≡ true → P) → (eqb number own || others) ≡ true → P
either number own others first rest told = grind (arith, nat_tests)

-- a number that has the same entries in both histories
pub same_entries : (older history : List Entry) (number : ℕ) (shares : List (Share Entry))
    → AllByRecursion (HasItsEntries seat_of older) shares
    → AllByRecursion (HasItsEntries seat_of history) shares
    → has_number shares number ≡ true
    → entries_by seat_of number history ≡ entries_by seat_of number older
same_entries older history number [] own own' has = cc
same_entries older history number (share ∷ shares) own own' has =
    either share.number number (has_number shares number)
    (λ same. subst (λ (n : ℕ). entries_by seat_of n history ≡ entries_by seat_of n older) same
    (own'.0.entries ∙ sym own.0.entries))
    (same_entries older history number shares own.1 own'.1) has
