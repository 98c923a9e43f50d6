-- The process is the only word after the verb, or no line asks for its event.
use Rattle.std.proofs.Common.{[], ◌∷◌}
use Rattle.scripts.proofs.EventLineLemmas.{no_pid_asked}
use Rattle.scripts.proofs.OnePassLemmas.{ends_line}
use Rattle.scripts.proofs.event_line.lone_at.Goals as goal

pub returns-in_err-pid : goal.returns-in_err-pid
returns-in_err-pid c =
    rw c.from_residual.ensures (no_pid_asked c.args.verb _ c.requires c.in_err-pid.ensures)

pub returns : goal.returns
returns c =
    let pid = c.in_ok-pid.ensures in
    record {
      words = pid.word ∷ [];
      begins = ends_line _ _ _ pid;
      asks = c.event_of_pid.ensures pid.word pid.spells;
    }
