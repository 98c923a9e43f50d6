-- It waits as long as it takes.
use Rattle.waiting.proofs.RunnerLemmas.{is_itself}
use Rattle.waiting.proofs.runner.ForeverRunner.run.Goals as goal

pub returns-clause-is_call : goal.returns-clause-is_call
returns-clause-is_call g c = is_itself _ _ _ _ _ c.wait_for.ensures.waited
