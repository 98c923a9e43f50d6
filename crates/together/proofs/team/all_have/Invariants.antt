-- the kernels of all processes so far have the Rendez
use Rattle.std.proofs.Common.{◌<◌, All, take}
use Rattle.rendez_words.specs.Words.{rendez_of}
use Rattle.together.proofs.team.all_have.Given as goal

abbrev pub invariant-loop-worker : goal.invariant-loop-worker
invariant-loop-worker g l =
    All (λ worker. l.last < rendez_of worker.proc.words) (take l.worker-index l.workers)
