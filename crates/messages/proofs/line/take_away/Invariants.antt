-- no seat that was passed over is the one that is looked for
use Rattle.std.proofs.Common.{◌≡◌, ◌≤◌, ◌-◌, ◌++◌, length, take, drop}
use Rattle.messages.specs.Lines.{without}
use Rattle.messages.proofs.line.take_away.Given as goal

abbrev pub invariant-seats : goal.invariant-seats
invariant-seats l =
    record {
      same : l.seats ≡ l.initial.seats;
      within : l.place ≤ length l.seats.items;
      passed : without l.seat l.seats.items ≡
          take l.place l.seats.items ++ without l.seat (drop l.place l.seats.items);
    }

abbrev pub decreases-seats : goal.decreases-seats
decreases-seats l = length l.seats.items - l.place
