-- The first process that is left asleep, or none.
use Rattle.std.proofs.Common.{false, sym, rules}
use Rattle.sleep_core.proofs.LostWakeupLemmas.{found_lost, none_found, lost_fact}
use Rattle.sleep_core.proofs.world.World.is_lost.Goals as goal

pub returns-then-oversleeps-clause-value : goal.returns-then-oversleeps-clause-value
returns-then-oversleeps-clause-value c =
    found_lost c.args.self.now c.loop-pid.pid (search rules) (sym c.if-oversleeps.ensures)

pub returns-clause-fact : goal.returns-clause-fact
returns-clause-fact c =
    let state = c.args.self.now in
    lost_fact state false (none_found state c.loop-pid.pid c.loop-pid.invariant (search rules))
