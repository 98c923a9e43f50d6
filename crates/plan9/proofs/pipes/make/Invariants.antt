-- as many pipes as were counted are made, each with its start, and there is room for all
use Rattle.std.proofs.Common.{◌≡◌, ◌≤◌, [], length}
use Rattle.std.specs.Vec.{vec_capacity}
use Rattle.sleep_wakeup.specs.Kernel.{rendez_less}
use Rattle.plan9.specs.Pipes.{AreNewFrom, rendez_for_all, size}
use Rattle.plan9.proofs.pipes.make.Given as goal

abbrev pub invariant-making : goal.invariant-making
invariant-making l =
    record {
      pipes : length l.opened.pipes.pipes.items ≡ l.counter;
      starts : length l.opened.start.starts.items ≡ l.counter;
      limit : l.counter ≤ l.fn.count;
      pipes_room : l.fn.count ≤ vec_capacity l.opened.pipes.pipes;
      starts_room : l.fn.count ≤ vec_capacity l.opened.start.starts;
      no_ends : l.opened.start.room.items ≡ [];
      ends_room : l.fn.count ≤ vec_capacity l.opened.start.room;
      roster : l.roster
          ≡ rendez_less (rendez_for_all l.counter (size l.fn.mode l.fn.limit l.fn.writers))
          l.fn.roster;
      new : AreNewFrom (size l.fn.mode l.fn.limit l.fn.writers) l.fn.roster.words
          l.fn.roster.rendez l.opened.pipes.pipes.items l.opened.start.starts.items;
    }
