-- By the group that is found.
use Rattle.std.proofs.Common.{◌<◌, refl, arith}
use Rattle.sleep_wakeup.proofs.laws.group_notes_can_be_broken.Goals as goal

pub returns-clause-is_counted : goal.returns-clause-is_counted
returns-clause-is_counted c = λ unused is. (rw is (omega arith), rw is refl)

pub returns-clause-is_refused : goal.returns-clause-is_refused
returns-clause-is_refused c = λ unused is has.
    let bad : 0 < 0 = rw is at has in omega (arith, bad)
