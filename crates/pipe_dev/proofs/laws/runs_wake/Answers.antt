-- By the laws of writes and reads, of the last request.
use Rattle.pipe_dev.proofs.RunWakeLemmas.{run_block_reads_wake, run_reads_wake, run_writes_wake}
use Rattle.pipe_dev.proofs.laws.runs_wake.Goals as goal

pub returns : goal.returns
returns c =
    record {
      reader_woken = run_writes_wake;
      writers_woken = run_reads_wake;
      writers_woken_by_block = run_block_reads_wake;
    }
