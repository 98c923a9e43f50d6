-- What threads did is a run of the core, which keeps its promises in each run.
use Rattle.rendez_words.proofs.LawLemmas.{threads_keep}
use Rattle.rendez_words.proofs.laws.threads_keep_promises.Goals as goal

pub returns : goal.returns
returns c = threads_keep
