-- each member is back, or its thread stands, and there is room for those that are left
use Rattle.std.proofs.Common.{◌≤◌, ◌+◌, length}
use Rattle.std.specs.Vec.{vec_capacity}
use Rattle.together.specs.Teams.{LinesUp}
use Rattle.together.proofs.joining.take_back.Given as goal

abbrev pub invariant-joining : goal.invariant-joining
invariant-joining g l =
    record {
      lined : LinesUp g.M.Member.comes_back l.decided.of l.members.value.items l.back.items
          l.standing.items;
      room : length l.back.items + length l.standing.items ≤ vec_capacity l.back;
    }

abbrev pub decreases-joining : goal.decreases-joining
decreases-joining g l = length l.standing.items
