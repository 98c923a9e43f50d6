-- What the ends of a direction were, and what a finish gives.
use Rattle.std.proofs.Common.{◌≡◌, ℕ, List, [], ◌∷◌, length, map, refl, sym, ◌∙◌, ap}
use Rattle.std.proofs.Common.{subst, arith}
use Rattle.std.specs.List.{AllByRecursion}
use Rattle.block_queue.specs.declared.entry.Entry.{Entry}
use Rattle.block_queue.specs.declared.gather.Gathered.{Gathered}
use Rattle.block_queue.specs.declared.queue.Queue.{Queue}
use Rattle.block_queue.specs.declared.seats.PutSeat.{PutSeat}
use Rattle.block_queue.specs.Gather.{AreAllSeats, AreTheirPasts, Gathers}
use Rattle.block_queue.specs.Seats.{IsPutSeatOf, key_of, take_account}
use Rattle.pipe_dev.specs.declared.closing.Held.{Held}
use Rattle.pipe_dev.specs.declared.state.ReadState.{ReadState}
use Rattle.pipe_dev.specs.declared.row.Row.{Row}
use Rattle.pipe_dev.specs.Ends.{ReadSide, WriteSide, AreAllEnds, IsReadState, IsWriteSeat}
use Rattle.pipe_dev.specs.Finishing.{GivesHeld, HaveSeen, rest_bytes}
use Rattle.pipe_dev.specs.Seating.{AreSeatsOf, side_of}
use Rattle.pipe_dev.proofs.SeatingLemmas.{seats_back, write_seats_put, write_seats_none, sides_back}
use Rattle.pipe_dev.proofs.SeatingLemmas.{numbers_back, shares_back, same_entries}

-- the read end of this state
abbrev read_side : Queue → Row → ReadState → ReadSide
read_side queue row state =
    record { queue = queue; row = row; account = take_account state.seat; rest = state.rest }

-- what the seats have seen is what their ends have seen
pasts_back : (history : List Entry) (writes : List WriteSide) (seats : List PutSeat)
    → AreSeatsOf writes seats → AreTheirPasts history seats → HaveSeen history writes
pasts_back history [] [] are pasts = tt
pasts_back history (write ∷ writes) (seat ∷ seats) are pasts = (
  rw are.0.account at pasts.0,
  pasts_back history writes seats are.1 pasts.1,
)
pasts_back history writes seats are pasts = absurd are

-- an end that was taken apart: it is made of its queue, its Rendez and its state
module _ (queue : Queue) (row : Row) (state : ReadState) (read : ReadSide)
    (view : read_side queue row state ≡ read) (holds : IsReadState queue row state)
    (writes : List WriteSide) (all : AreAllEnds read writes)
    (seats : List PutSeat) (are : AreSeatsOf writes seats) where
  all_of_state : AreAllEnds (read_side queue row state) writes
  all_of_state = subst (λ (r : ReadSide). AreAllEnds r writes) (sym view) all

  -- each seat given back is what a write end of the read end's direction holds
  pub their_write_seats : AllByRecursion (IsWriteSeat queue row) seats
  their_write_seats = seats_back (read_side queue row state) writes seats all_of_state.one are

  -- each seat given back is a writer's seat of this queue
  pub their_seats : AllByRecursion (IsPutSeatOf queue) seats
  their_seats = write_seats_put queue row seats their_write_seats

  -- these are all seats of the queue: the reader's and every writer's, in order
  pub all_seats : AreAllSeats state.seat seats
  all_seats =
      record {
        order = holds.gave ∙ numbers_back row.writers writes seats all_of_state.order are;
        none = write_seats_none queue row seats their_write_seats;
      }

  -- the write ends that are made of these seats again are those that were given
  pub their_sides : (ends : List WriteSide) (again : List PutSeat) → again ≡ seats
      → ends ≡ map (side_of queue row) again → ends ≡ writes
  their_sides ends again same is =
      is ∙ (ap (map (side_of queue row)) same
      ∙ sides_back (read_side queue row state) writes seats all_of_state.one are)

  -- what is gathered of all seats, after the rest of the begun write, is what a finish gives
  pub gives_held : (gathered : Gathered) (rest : List ℕ)
      → Gathers (key_of queue) state.seat seats gathered → rest ≡ rest_bytes read.rest
      → GivesHeld read writes
      (record { rest = rest; writes = gathered.blocks; hung = gathered.hung })
  gives_held gathered rest gathers rest_is =
      subst (λ (r : ReadSide). GivesHeld r writes found) view (λ parts. record {
        finishes = record {
          history = gathers.history;
          legal = gathers.legal;
          seen = gathers.past;
          no_more_read = same_entries (take_account state.seat).seen gathers.history 0
              (take_account state.seat).shares holds.knows.mine gathers.mine
              holds.seat.own;
          shares = shares_back gathers.history writes seats are gathers.puts_mine;
          rest = rest_is ∙ ap (λ (r : ReadSide). rest_bytes r.rest) (sym view);
          writes = gathers.blocks_are;
          hung = gathers.hung;
        };
        writers_seen = pasts_back gathers.history writes seats are gathers.puts_past;
      })
    where
      found : Held
      found = record { rest = rest; writes = gathered.blocks; hung = gathered.hung }

-- there are as many seats as write ends that held them
pub as_many : (writes : List WriteSide) (seats : List PutSeat) → AreSeatsOf writes seats
    → length seats ≡ length writes
as_many [] [] are = refl
as_many (write ∷ writes) (seat ∷ seats) are =
    let rest = as_many writes seats are.1 in omega (arith, rest)
as_many writes seats are = absurd are
