-- by the mode
use Rattle.sync_base.proofs.StreamLawLemmas.{reads_keep_state}
use Rattle.sync_base.proofs.laws.state_stays_a_state.Goals as goal

pub returns-clause-reads : goal.returns-clause-reads
returns-clause-reads c = reads_keep_state
