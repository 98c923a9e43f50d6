-- each member has come to something, or its thread stands, and there is room for the others
use Rattle.std.proofs.Common.{◌≤◌, ◌+◌, length}
use Rattle.std.specs.Vec.{vec_capacity}
use Rattle.together.specs.Parts.{Parts}
use Rattle.together.specs.Teams.{IsFor}
use Rattle.together.proofs.joining.join_all.Given as goal

abbrev pub invariant-joining : goal.invariant-joining
invariant-joining g l =
    record {
      joins : Parts g.M.Member.ends (IsFor l.decided.of) l.members.value.items l.ended.items
          l.standing.items;
      room : length l.standing.items + length l.ended.items ≤ vec_capacity l.ended;
    }

abbrev pub decreases-joining : goal.decreases-joining
decreases-joining g l = length l.standing.items
