-- no seat that was passed over is the one that is looked for
use Rattle.std.proofs.Common.{◌≡◌, ◌≤◌, ◌-◌, ◌++◌, length, take, drop}
use Rattle.messages.specs.Lines.{closed, place_of}
use Rattle.messages.proofs.line.take_seat.Given as goal

abbrev pub invariant-seats : goal.invariant-seats
invariant-seats l =
    record {
      same : l.opened ≡ l.initial.opened;
      within : l.at ≤ length l.opened.items;
      passed : closed l.seat l.opened.items ≡
          take l.at l.opened.items ++ closed l.seat (drop l.at l.opened.items);
      later : place_of l.seat l.opened.items ≡ place_of l.seat (drop l.at l.opened.items);
    }

abbrev pub decreases-seats : goal.decreases-seats
decreases-seats l = length l.opened.items - l.at
