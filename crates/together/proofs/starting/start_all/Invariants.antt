-- each member waits, or a thread stands for it, and there is room for the threads that are left
use Rattle.std.proofs.Common.{◌≡◌, ◌≤◌, ◌+◌, length}
use Rattle.std.specs.Vec.{vec_capacity}
use Rattle.together.proofs.TeamLemmas.{Starts}
use Rattle.together.proofs.starting.start_all.Given as goal

abbrev pub invariant-starting : goal.invariant-starting
invariant-starting g l =
    record {
      starts : Starts l.board.decision.id l.fn.members.items l.waiting.items l.standing.items;
      room : length l.waiting.items + length l.standing.items ≤ vec_capacity l.standing;
      count : length l.waiting.items + length l.standing.items ≡ length l.fn.members.items;
      back : length l.waiting.items + length l.standing.items ≤ vec_capacity l.waiting;
    }

abbrev pub decreases-starting : goal.decreases-starting
decreases-starting g l = length l.waiting.items
