-- By the law of all devices, of one wakeup; and by the counts of meetings.
use Rattle.std.proofs.Common.{[], ◌∷◌, refl}
use Rattle.tag_space.specs.Members.{rendez_of_member}
use Rattle.tag_space.proofs.AboveLemmas.{found_above}
use Rattle.waiting.proofs.WakeupLemmas.{returned_release}
use Rattle.tag_space.proofs.laws.who_is_found_is_released.Goals as goal

pub returns-clause-released : goal.returns-clause-released
returns-clause-released c = λ sizes s shows space call given before after finds gone.
    (returned_release sizes s shows
    (record { rendez = rendez_of_member space finds.other; level = finds.count } ∷ [])
    before.process after.process
    (record { between = before.process; others = refl; last = finds.woken }) gone).0

pub returns-clause-above : goal.returns-clause-above
returns-clause-above c = found_above
