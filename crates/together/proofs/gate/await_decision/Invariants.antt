-- after each sleep the process has done nothing but wait
use Rattle.std.proofs.Common.{◌≡◌}
use Rattle.together.specs.Gates.{HasWaited}
use Rattle.together.proofs.gate.await_decision.Given as goal

abbrev pub invariant-waiting : goal.invariant-waiting
invariant-waiting g l =
    record {
      words : l.proc.words ≡ l.fn.proc.words;
      waited : HasWaited l.fn.proc.process l.proc.process;
    }
