-- The seats fit one legal history at each moment, and each kind of step leaves what was seen.
use Rattle.block_queue.proofs.MomentLemmas.{rings_are_linearizable}
use Rattle.block_queue.proofs.laws.calls_stand_in_the_order_of_time.Goals as goal

pub returns : goal.returns
returns c = record { linearizable = rings_are_linearizable }
