-- The seat was granted its unit, or waits on.
use Rattle.std.proofs.Common.{true, refl, arith}
use Rattle.semaphore.proofs.TellLemmas.{collect_never, collect_fits}
use Rattle.semaphore.proofs.acquiring.AcquireWaitingCall.ask.Goals as goal

pub unreachable-requires : goal.unreachable-requires
unreachable-requires g c =
    collect_never _ _ _ _ _ (c.ask.ensures.told _ c.requires.waits) c.number-number.ensures
    c.in_default.not-Granted c.in_default.not-Wait

pub returns-in-Granted-clause-asked : goal.returns-in-Granted-clause-asked
returns-in-Granted-clause-asked g c =
    record {
      asks = rw c.number-number.ensures at (c.in-Granted.ensures.asked true c.requires.waits);
      idle = refl;
    }

pub returns-in-Wait-clause-stands : goal.returns-in-Wait-clause-stands
returns-in-Wait-clause-stands g c =
    (c.in-Wait.ensures.asked true c.requires.waits).seat

pub returns-in-Wait-clause-low : goal.returns-in-Wait-clause-low
returns-in-Wait-clause-low g c =
    let fits =
    collect_fits _ _ _ _ _ (c.in-Wait.ensures.told _ c.requires.waits) c.number-number.ensures in
    omega (arith, fits)

pub returns-in-Wait-clause-asked : goal.returns-in-Wait-clause-asked
returns-in-Wait-clause-asked g c =
    record {
      asks = rw c.number-number.ensures at (c.in-Wait.ensures.asked true c.requires.waits);
      idle = refl;
    }
