-- it did nothing but look since it began
use Rattle.std.proofs.Common.{◌≡◌, ℕ}
use Rattle.timer_list.specs.Timing.{Looks, awaiting}
use Rattle.timer_list.proofs.within.await_tick.Given as goal

abbrev pub invariant-loop : goal.invariant-loop
invariant-loop g l =
    record {
      words : l.proc.words ≡ l.initial.proc.words;
      looks : (times : ℕ) × Looks l.rendez l.expired times (awaiting l.fn.proc l.fn.taken)
          (awaiting l.proc l.notes);
    }
