-- It waits on its own Rendez, and is given what it answers.
use Rattle.std.proofs.Common.{false, arith}
use Rattle.semaphore.proofs.RequestLemmas.{is_in_row}
use Rattle.semaphore.proofs.UnitLemmas.{came, same_units}
use Rattle.waiting.specs.Waiting.{point}
use Rattle.semaphore.proofs.sema.Sema.tsemacquire_probed.Goals as goal

pub rendez-rendez-requires : goal.rendez-rendez-requires
rendez-rendez-requires g c = (false, c.requires.seat)

pub wait_within-requires-clause-rendez : goal.wait_within-requires-clause-rendez
wait_within-requires-clause-rendez g c =
    rw c.rendez-rendez.ensures
    (is_in_row _ _ _ c.args.proc.now.words c.requires.seat c.requires.row)

pub returns-clause-number : goal.returns-clause-number
returns-clause-number g c =
    (came c.args.self.now (point c.args.seat.now c.args.proc.now) c.requires.seat _ _ _
    c.wait_within.ensures.is_call.waited).number

pub returns-clause-called : goal.returns-clause-called
returns-clause-called g c =
    let is = c.wait_within.ensures.is_call in
    let units = (came c.args.self.now (point c.args.seat.now c.args.proc.now) c.requires.seat _ _ _
    is.waited).units in
    let same = same_units is.told c.wait_within.result is.same in
    record {
      units = omega (arith, units, same);
      takes = rw (← c.rendez-rendez.ensures) c.wait_within.ensures.waited;
    }
