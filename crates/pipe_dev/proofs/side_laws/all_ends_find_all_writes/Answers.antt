-- Calls leave each end in its place, so all stay all; a finish has a legal history of them.
use Rattle.pipe_dev.proofs.SideLemmas.{calls_keep_all_ends, finishes_find_accepted}
use Rattle.pipe_dev.proofs.side_laws.all_ends_find_all_writes.Goals as goal

pub returns : goal.returns
returns c = record { keep = calls_keep_all_ends; found = finishes_find_accepted }
