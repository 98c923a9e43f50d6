-- Each call of a read end is steps of it, and what such steps have read is just what they took out.
use Rattle.pipe_dev.proofs.ReadingLemmas.{what_is_read_is_right}
use Rattle.pipe_dev.proofs.ChainLemmas.{reads_are_steps, tries_are_steps, hangups_are_steps}
use Rattle.pipe_dev.proofs.BlockLemmas.{block_reads_are_steps}
use Rattle.pipe_dev.proofs.ModeLemmas.{messages_are_read_one_by_one}
use Rattle.pipe_dev.proofs.laws.calls_read_what_they_answer.Goals as goal

pub returns : goal.returns
returns c =
    record {
      messages = messages_are_read_one_by_one;
      reads = reads_are_steps;
      tries = tries_are_steps;
      block_reads = block_reads_are_steps;
      hangups = hangups_are_steps;
      right = what_is_read_is_right;
    }
