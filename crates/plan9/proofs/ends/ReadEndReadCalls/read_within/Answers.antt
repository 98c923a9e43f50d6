-- The timers of the watch are those that it borrows.
use Rattle.plan9.proofs.ends.ReadEndReadCalls.read_within.Goals as goal

pub returns-clause-read : goal.returns-clause-read
returns-clause-read g c =
    rw (← c.watch.view_is) record {
      bad_count = c.read_by.ensures.bad_count;
      no_rendez = c.read_by.ensures.no_rendez;
      read = c.read_by.ensures.read;
      is_read = c.read_by.ensures.is_read;
    }
