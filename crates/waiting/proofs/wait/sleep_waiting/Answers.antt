-- The Rendez is there, and the number is low.
use Rattle.std.proofs.lemmas.Result.{IfErr-weaker}
use Rattle.sleep_wakeup.specs.Calls.{WhyNotSlept}
use Rattle.sleep_wakeup.specs.Actions.{FailsAsleep}
use Rattle.waiting.proofs.RoundLemmas.{fails_asleep}
use Rattle.waiting.proofs.wait.sleep_waiting.Goals as goal

pub returns-clause-failed : goal.returns-clause-failed
returns-clause-failed g c =
    IfErr-weaker c.sleep.result
    (WhyNotSlept c.args.proc.now.words c.args.proc.now.process c.args.rendez c.args.number
    c.sleep.new.self.process)
    (FailsAsleep c.args.proc.now.process c.args.rendez c.args.number c.sleep.new.self.process)
    (λ why failed. fails_asleep c.args.proc.now.words c.args.proc.now.process c.args.rendez
    c.args.number c.sleep.new.self.process why c.requires.rendez c.requires.low failed)
    c.sleep.ensures.fault
