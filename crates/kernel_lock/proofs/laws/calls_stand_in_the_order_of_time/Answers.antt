-- The seats fit one legal history at each moment, and each kind of step leaves what was seen.
use Rattle.kernel_lock.proofs.MomentLemmas.{locks_are_linearizable}
use Rattle.kernel_lock.proofs.laws.calls_stand_in_the_order_of_time.Goals as goal

pub returns : goal.returns
returns g c = record { linearizable = locks_are_linearizable g.O.Object.definition }
