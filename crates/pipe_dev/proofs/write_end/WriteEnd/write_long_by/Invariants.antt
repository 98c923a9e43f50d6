-- these are written, and these bytes are left
use Rattle.std.proofs.Common.{◌≡◌, ◌+◌, ◌++◌, ℕ, List, length, reverse}
use Rattle.pipe_dev.specs.Ends.{IsSameWriteEnd}
use Rattle.pipe_dev.specs.Rendezes.{OwnsRow}
use Rattle.pipe_dev.specs.WriteCalls.{RunsEach, atomic_writes, bytes_in, call_of, run_writer}
use Rattle.pipe_dev.proofs.write_end.WriteEnd.write_long_by.Given as goal

abbrev pub invariant-writing : goal.invariant-writing
invariant-writing g l =
    record {
      end : IsSameWriteEnd l.initial.self l.self;
      words : l.proc.words ≡ l.initial.proc.words;
      owns : OwnsRow l.initial.proc.words l.initial.self.row;
      timer : g.W.Runner.rests l.runner l.timer;
      kept : g.W.Runner.kept l.timer ≡ g.W.Runner.kept l.initial.timer;
      written : (done : List (List ℕ))
          × RunsEach (g.W.Runner.runs l.runner) (call_of l.initial.self l.bytes) done
          (run_writer l.initial.self l.initial.timer l.initial.proc)
          (run_writer l.self l.timer l.proc)
          × (l.taken ≡ bytes_in done)
          × (atomic_writes l.bytes ≡ reverse done ++ atomic_writes l.left);
      count : l.taken + length l.left ≡ length l.bytes;
    }

abbrev pub decreases-writing : goal.decreases-writing
decreases-writing g l = length l.left
