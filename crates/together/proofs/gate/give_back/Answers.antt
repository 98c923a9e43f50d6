-- A process that has put notes back has waited.
use Rattle.together.proofs.GateLemmas.{noted_waited}
use Rattle.together.proofs.gate.give_back.Goals as goal

pub returns-then-not-is_empty-clause-waited : goal.returns-then-not-is_empty-clause-waited
returns-then-not-is_empty-clause-waited c =
    noted_waited c.args.proc.now.process c.args.kept c.put_back.new.self.process
    c.put_back.ensures.noted
