-- some ends are given to writers, each with its messages, and the others are left
use Rattle.std.proofs.Common.{◌≡◌, ◌≤◌, ◌+◌, ◌++◌, length, map}
use Rattle.std.specs.Prelude.{vec_items}
use Rattle.std.specs.Vec.{vec_capacity}
use Rattle.std.specs.Vec.Iter.{into_iter_items}
use Rattle.std.specs.List.{AllByRecursion}
use Rattle.example_headline.specs.Crew.{ends_of, messages_of}
use Rattle.example_headline.proofs.crew.muster.Given as goal

abbrev pub invariant-mustering : goal.invariant-mustering
invariant-mustering l =
    record {
      given : ends_of l.writers.items ++ into_iter_items l.end-iterator ≡ l.fn.writes.items;
      none : AllByRecursion (λ writer. writer.accepted ≡ 0) l.writers.items;
      roster : l.roster.words ≡ l.fn.reader.words;
      parent : l.parent ≡ l.fn.reader;
      kernel : AllByRecursion (λ writer. writer.proc.words ≡ l.fn.reader.words) l.writers.items;
      lists : messages_of l.writers.items ++ map vec_items (into_iter_items l.lists)
          ≡ map vec_items l.fn.messages.items;
      as_many : length (into_iter_items l.lists) ≡ length (into_iter_items l.end-iterator);
      pids : l.roster.pids.next + length (into_iter_items l.end-iterator)
          ≡ l.fn.roster.pids.next + length l.fn.writes.items;
      room : length l.writers.items + length (into_iter_items l.end-iterator)
          ≤ vec_capacity l.writers;
    }
