-- By what each call keeps.
use Rattle.std.proofs.Common.{arith}
use Rattle.semaphore.proofs.SemaLawLemmas.{history_keeps}
use Rattle.semaphore.proofs.laws.counts_are_grants.Goals as goal

pub returns : goal.returns
returns c value procs count past fits few legal seat within =
    let kept = (history_keeps value procs count past fits few legal).0 in
    (kept.seats seat (omega (arith, within, kept.size))).counts
