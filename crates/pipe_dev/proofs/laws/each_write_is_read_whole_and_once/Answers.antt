-- By what each legal history leaves.
use Rattle.pipe_dev.proofs.LawLemmas.{each_share_is_read_whole_and_once}
use Rattle.pipe_dev.proofs.LawLemmas.{none_is_accepted_after_hangup}
use Rattle.pipe_dev.proofs.ChainLemmas.{each_write_is_read_whole_and_once}
use Rattle.pipe_dev.proofs.WaitLemmas.{writes_wake_the_reader, reads_wake_each_writer}
use Rattle.pipe_dev.proofs.WaitLemmas.{hangups_wake_all}
use Rattle.pipe_dev.proofs.AboveLemmas.{readers_above, writers_above}
use Rattle.pipe_dev.proofs.laws.each_write_is_read_whole_and_once.Goals as goal

pub returns : goal.returns
returns c =
    record {
      shares = each_share_is_read_whole_and_once;
      whole = each_write_is_read_whole_and_once;
      accepted = none_is_accepted_after_hangup;
      reader_woken = writes_wake_the_reader;
      writers_woken = reads_wake_each_writer;
      all_woken = hangups_wake_all;
      reader_above = readers_above;
      writers_above = writers_above;
    }
