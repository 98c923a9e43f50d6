-- the ends of some pipes are there, and the starts of the others are left
use Rattle.std.proofs.Common.{◌≤◌, ◌+◌, ◌++◌, List, length, drop}
use Rattle.std.specs.Vec.{vec_capacity}
use Rattle.std.specs.Vec.Iter.{into_iter_items}
use Rattle.pipe_dev.specs.declared.end.Ends.{Ends}
use Rattle.plan9.specs.Pipes.{AreAllEnds, StartEach}
use Rattle.plan9.proofs.pipes.Pipes.ends.Given as goal

abbrev pub invariant-lending : goal.invariant-lending
invariant-lending l =
    record {
      left : StartEach (drop (length l.ends.items) l.self.pipes.items)
          (into_iter_items l.start-iterator);
      lent : (others : List Ends)
          → AreAllEnds (drop (length l.ends.items) l.self.pipes.items)
          (into_iter_items l.start-iterator) others
          → AreAllEnds l.fn.self.pipes.items l.fn.start.starts.items
          (l.ends.items ++ others);
      room : length l.ends.items + length (into_iter_items l.start-iterator)
          ≤ vec_capacity l.ends;
    }
