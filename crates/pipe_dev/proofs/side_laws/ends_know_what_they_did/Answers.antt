-- What a call says in steps is told of its end, which stays where it is.
use Rattle.pipe_dev.proofs.SideLemmas.{new_ends_are_unused, reads_add, tries_add}
use Rattle.pipe_dev.proofs.SideLemmas.{read_ends_hang_up, writes_add, write_ends_hang_up}
use Rattle.pipe_dev.proofs.BlockLemmas.{block_reads_add}
use Rattle.pipe_dev.proofs.side_laws.ends_know_what_they_did.Goals as goal

pub returns : goal.returns
returns c =
    record {
      new = new_ends_are_unused;
      reads = reads_add;
      tries = tries_add;
      block_reads = block_reads_add;
      read_hangups = read_ends_hang_up;
      writes = writes_add;
      write_hangups = write_ends_hang_up;
    }
