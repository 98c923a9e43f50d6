-- so many ticks were made, and no note was pending before any of them
use Rattle.std.proofs.Common.{ℕ}
use Rattle.pipe_dev.specs.Rounds.{Rounds}
use Rattle.plan9.specs.Tickers.{TicksOnce, timed}
use Rattle.plan9.proofs.clock.Watch.run.Given as goal

abbrev pub invariant-ticking : goal.invariant-ticking
invariant-ticking g l =
    record {
      times : (times : ℕ) × Rounds (TicksOnce g.T.TickSource.tells) times
          (timed l.initial.self l.initial.proc l.initial.time) (timed l.self l.proc l.time);
    }
