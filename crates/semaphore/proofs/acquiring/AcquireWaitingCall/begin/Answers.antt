-- The seat has its unit, waits, or was worn out.
use Rattle.std.proofs.Common.{false, refl, arith}
use Rattle.semaphore.proofs.TellLemmas.{acquire_never, acquire_fits}
use Rattle.semaphore.proofs.acquiring.AcquireWaitingCall.begin.Goals as goal

pub unreachable-requires : goal.unreachable-requires
unreachable-requires g c =
    acquire_never _ _ _ _ (c.ask.ensures.told _ c.requires.ready) c.number-number.ensures
    c.in_default.not-Acquired c.in_default.not-Wait c.in_default.not-Worn

pub returns-in-Acquired-clause-asked : goal.returns-in-Acquired-clause-asked
returns-in-Acquired-clause-asked g c =
    record {
      asks = rw c.number-number.ensures at (c.in-Acquired.ensures.asked false c.requires.ready);
      idle = refl;
    }

pub returns-in-Wait-clause-stands : goal.returns-in-Wait-clause-stands
returns-in-Wait-clause-stands g c =
    (c.in-Wait.ensures.asked false c.requires.ready).seat

pub returns-in-Wait-clause-low : goal.returns-in-Wait-clause-low
returns-in-Wait-clause-low g c =
    let fits =
    acquire_fits _ _ _ _ (c.in-Wait.ensures.told _ c.requires.ready) c.number-number.ensures in
    omega (arith, fits)

pub returns-in-Wait-clause-asked : goal.returns-in-Wait-clause-asked
returns-in-Wait-clause-asked g c =
    record {
      asks = rw c.number-number.ensures at (c.in-Wait.ensures.asked false c.requires.ready);
      idle = refl;
    }

pub returns-in-Worn-clause-asked : goal.returns-in-Worn-clause-asked
returns-in-Worn-clause-asked g c =
    record {
      asks = rw c.number-number.ensures at (c.in-Worn.ensures.asked false c.requires.ready);
      idle = refl;
    }
