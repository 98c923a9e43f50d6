-- The timers of the watch are those that it borrows.
use Rattle.plan9.proofs.ends.ReadEndReadCalls.read_block_within.Goals as goal

pub returns-clause-read : goal.returns-clause-read
returns-clause-read g c =
    rw (← c.watch.view_is) record {
      no_rendez = c.read_block_by.ensures.no_rendez;
      read = c.read_block_by.ensures.read;
      is_read = c.read_block_by.ensures.is_read;
    }
