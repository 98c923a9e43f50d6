-- However the sleep ends, the process has waited.
use Rattle.together.proofs.GateLemmas.{slept_waited}
use Rattle.together.proofs.gate.sleep_at.Goals as goal

pub returns-clause-waited : goal.returns-clause-waited
returns-clause-waited g c =
    slept_waited c.args.proc.now.words c.args.proc.now.process c.args.gate.rendez
    c.args.gate.level c.sleep.new.self.process c.sleep.result c.sleep.ensures.fault
    c.sleep.ensures.slept
