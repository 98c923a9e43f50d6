-- A run on threads ends as its outcome says.
use Rattle.commands.proofs.RunLemmas.{ends_threads, good_is_ok}
use Rattle.commands.proofs.args.tell_threads.Goals as goal

pub returns-clause-ends : goal.returns-clause-ends
returns-clause-ends g c =
    ends_threads _ _ _ c.write_threads.result _ c.write_threads.ensures.good
    c.write_threads.ensures.failed c.end_threads.ensures.status

pub returns-clause-silent : goal.returns-clause-silent
returns-clause-silent g c = λ good.
    c.end_threads.ensures.silent (good_is_ok _ _ c.end_threads.ensures.status good)
