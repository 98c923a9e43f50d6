-- By the lemma on new ends.
use Rattle.pipe_dev.proofs.OwnLemmas.{own_kernel_has_each_rendez}
use Rattle.pipe_dev.proofs.laws.own_processes_are_never_refused.Goals as goal

pub returns : goal.returns
returns c = record { ends = own_kernel_has_each_rendez }
