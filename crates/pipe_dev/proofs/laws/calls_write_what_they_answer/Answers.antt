-- A new write end has written nothing, a write adds what was accepted of it, and a hangup nothing.
use Rattle.pipe_dev.proofs.WrittenLemmas.{new_ends_have_written_nothing}
use Rattle.pipe_dev.proofs.WrittenLemmas.{writes_add_what_was_accepted, hangups_write_nothing}
use Rattle.pipe_dev.proofs.laws.calls_write_what_they_answer.Goals as goal

pub returns : goal.returns
returns c =
    record {
      new = new_ends_have_written_nothing;
      writes = writes_add_what_was_accepted;
      hangups = hangups_write_nothing;
    }
