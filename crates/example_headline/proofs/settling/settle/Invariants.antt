-- some writers are taken apart, and the others are left
use Rattle.std.proofs.Common.{◌≡◌, ◌≤◌, ◌+◌, ◌++◌, length, map}
use Rattle.std.specs.Vec.{vec_capacity}
use Rattle.std.specs.Vec.Iter.{into_iter_items}
use Rattle.example_headline.specs.Crew.{ends_of, written_of}
use Rattle.example_headline.proofs.settling.settle.Given as goal

abbrev pub invariant-parting : goal.invariant-parting
invariant-parting l =
    record {
      ends : l.ends.items ++ ends_of (into_iter_items l.writer-iterator)
          ≡ ends_of l.fn.crew.writers.items;
      told : l.told.items ++ map written_of (into_iter_items l.writer-iterator)
          ≡ map written_of l.fn.crew.writers.items;
      room : length l.ends.items + length (into_iter_items l.writer-iterator)
          ≤ vec_capacity l.ends;
      told_room : length l.told.items + length (into_iter_items l.writer-iterator)
          ≤ vec_capacity l.told;
    }
