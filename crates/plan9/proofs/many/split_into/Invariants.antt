-- one seat fewer is in the list than are counted, and the last of all gave none
use Rattle.std.proofs.Common.{◌≡◌, ◌≤◌, ◌+◌, length}
use Rattle.std.specs.Vec.{vec_capacity}
use Rattle.plan9.specs.Chains.{Chain}
use Rattle.plan9.proofs.many.split_into.Given as goal

abbrev pub invariant-splitting : goal.invariant-splitting
invariant-splitting g l =
    record {
      counted : length l.list.items + 1 ≡ l.counter;
      limit : l.counter ≤ l.count;
      count : l.count ≡ l.fn.count;
      room : l.count ≤ vec_capacity l.list;
      chain : Chain g.S.Splits.gives l.list.items l.initial.last l.last;
    }
