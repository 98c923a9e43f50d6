-- the seats of the last write ends are there, the last one first
use Rattle.std.proofs.Common.{◌≡◌, ◌≤◌, ◌+◌, ◌++◌, List, length, reverse}
use Rattle.std.specs.Vec.{vec_capacity}
use Rattle.pipe_dev.specs.Ends.{WriteSide}
use Rattle.pipe_dev.specs.Seating.{AreSeatsOf}
use Rattle.pipe_dev.proofs.closing.take_seats.Given as goal

abbrev pub invariant-taking : goal.invariant-taking
invariant-taking l =
    record {
      seats : (done : List WriteSide) × (l.initial.writes.items ≡ l.writes.items ++ done)
          × AreSeatsOf done (reverse l.puts.items);
      room : length l.writes.items + length l.puts.items ≤ vec_capacity l.puts;
      capacity : vec_capacity l.writes ≡ vec_capacity l.initial.writes;
    }

abbrev pub decreases-taking : goal.decreases-taking
decreases-taking l = length l.writes.items
