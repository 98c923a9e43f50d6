-- It slept, well or not; or it was refused, and took its notes.
use Rattle.std.proofs.Common.{◌≡◌, Err, inl}
use Rattle.sync_base.specs.declared.fault.Fault.TheVariants.{Interrupted}
use Rattle.timer_list.proofs.within.look_for_tick.Goals as goal

pub returns-in-Ok-clause-looked : goal.returns-in-Ok-clause-looked
returns-in-Ok-clause-looked g c =
    inl (rw c.empty.ensures.value c.in-Ok.ensures.slept)

pub returns-in-Err-Interrupted-clause-looked : goal.returns-in-Err-Interrupted-clause-looked
returns-in-Err-Interrupted-clause-looked g c =
    let came : c.sleep.result ≡ Err (Interrupted c.in-Err-Interrupted.set) = cc in
    inl (rw came at c.sleep.ensures.fault).0
