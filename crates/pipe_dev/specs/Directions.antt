-- What a direction is before it has its Rendez.
use Rattle.std.specs.Prelude.{◌≡◌, ◌≤◌, ℕ, [], None}
use Rattle.std.specs.Vec.{vec_capacity}
use Rattle.block_queue.specs.Opening.{AreNewPutSeats, reader_account}
use Rattle.block_queue.specs.Seats.{IsTakeSeatOf, key_of, take_account}
use Rattle.pipe_dev.specs.declared.pipe.Direction.{Direction}
use Rattle.pipe_dev.specs.Openings.{key_for}

-- a new queue with its seats, and room for as many write ends
pub record IsNewDirection (limit writers : ℕ) (direction : Direction) : Type 0 where
  pub key_is : key_of direction.queue ≡ key_for limit writers
  pub take_is : IsTakeSeatOf direction.queue direction.read.seat
  pub account_is : take_account direction.read.seat ≡ reader_account writers
  pub rest : direction.read.rest ≡ None
  pub puts_are : AreNewPutSeats direction.queue writers direction.puts.items
  pub none : direction.room.items ≡ []
  pub room : writers ≤ vec_capacity direction.room
