-- so many writers were woken
use Rattle.std.proofs.Common.{◌≡◌, ◌≤◌}
use Rattle.pipe_dev.specs.Rendezes.{WakesWriters}
use Rattle.pipe_dev.proofs.waking.wake_writers.Given as goal

abbrev pub invariant-waking : goal.invariant-waking
invariant-waking l =
    record {
      words : l.proc.words ≡ l.initial.proc.words;
      within : l.writer ≤ l.row.writers;
      woken : WakesWriters l.row l.writer l.level l.initial.proc.process l.proc.process;
    }
