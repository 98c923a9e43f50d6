-- How seats become write ends, and write ends seats.
use Rattle.std.specs.Prelude.{◌≡◌, ⊤, List, [], ◌∷◌, map}
use Rattle.block_queue.specs.declared.queue.Queue.{Queue}
use Rattle.block_queue.specs.declared.seats.PutSeat.{PutSeat}
use Rattle.block_queue.specs.Seats.{put_account}
use Rattle.pipe_dev.specs.declared.row.Row.{Row}
use Rattle.pipe_dev.specs.Ends.{WriteSide, IsWriteSeat}

-- the write end of this seat
abbrev pub side_of : Queue → Row → PutSeat → WriteSide
side_of queue row seat =
    record { queue = queue; row = row; writer = seat.writer; account = put_account seat }

-- these are the write ends of these seats, in their order
abbrev pub AreSeated : Queue → Row → List PutSeat → List WriteSide → Type 0
AreSeated queue row seats writes = writes ≡ map (side_of queue row) seats

-- the seat was that of this write end
pub record IsSeatOf (write : WriteSide) (seat : PutSeat) : Type 0 where
  pub seat_is : IsWriteSeat write.queue write.row seat
  pub writer_is : seat.writer ≡ write.writer
  pub account : put_account seat ≡ write.account

-- these are the seats of these write ends, in their order
abbrev pub AreSeatsOf : List WriteSide → List PutSeat → Type 0
AreSeatsOf [] [] = ⊤
AreSeatsOf (write ∷ writes) (seat ∷ seats) = IsSeatOf write seat × AreSeatsOf writes seats
AreSeatsOf writes seats = ⊥
