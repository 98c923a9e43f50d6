-- By what each call keeps.
use Rattle.semaphore.proofs.SemaLawLemmas.{history_keeps}
use Rattle.semaphore.proofs.laws.states_are_sound.Goals as goal

pub returns : goal.returns
returns c value procs count past fits few legal =
    (history_keeps value procs count past fits few legal).0.sound
