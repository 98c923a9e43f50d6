-- By the call that waits as long as it takes.
use Rattle.pipe_dev.proofs.RunLemmas.{run_block_read, run_read, run_write}
use Rattle.pipe_dev.proofs.laws.runs_are_calls.Goals as goal

pub returns : goal.returns
returns c =
    record { writes = run_write; reads = run_read; block_reads = run_block_read }
