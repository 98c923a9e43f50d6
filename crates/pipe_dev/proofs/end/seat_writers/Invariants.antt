-- the write ends of some seats are there, and the other seats are left
use Rattle.std.proofs.Common.{◌≡◌, ◌≤◌, ◌+◌, ◌++◌, length, map}
use Rattle.std.specs.Vec.{vec_capacity}
use Rattle.std.specs.Vec.Iter.{into_iter_items}
use Rattle.std.specs.List.{AllByRecursion}
use Rattle.pipe_dev.specs.Ends.{IsWriteSeat}
use Rattle.pipe_dev.specs.Seating.{side_of}
use Rattle.pipe_dev.proofs.end.seat_writers.Given as goal

abbrev pub invariant-seating : goal.invariant-seating
invariant-seating l =
    record {
      seats : AllByRecursion (IsWriteSeat l.queue l.row) (into_iter_items l.seat-iterator);
      seated : l.writes.items ++ map (side_of l.queue l.row) (into_iter_items l.seat-iterator)
          ≡ map (side_of l.queue l.row) l.fn.puts.items;
      room : length l.writes.items + length (into_iter_items l.seat-iterator) ≤ vec_capacity
          l.writes;
    }
