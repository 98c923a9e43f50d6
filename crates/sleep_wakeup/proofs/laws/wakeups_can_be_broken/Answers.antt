-- By what the steps of a wakeup are.
use Rattle.std.proofs.Common.{◌≡◌, ◌⊎◌, inl, inr, length, ap}
use Rattle.sync_base.specs.declared.ids.RendezId.{RendezId}
use Rattle.sleep_core.specs.Runs.{Entry}
use Rattle.sleep_wakeup.specs.Broken.{raised, missed, took, marked}
use Rattle.sleep_wakeup.specs.Broken.{takes_before_it_raises, never_raises, never_takes}
use Rattle.sleep_wakeup.specs.Broken.{takes_twice, never_marks, marks_another}
use Rattle.sleep_wakeup.specs.Broken.{raises_elsewhere, raises_to_another_level}
use Rattle.sleep_wakeup.proofs.BrokenLemmas.{of_wakeup, not_so_many, two_steps, three_steps}
use Rattle.sleep_wakeup.proofs.BrokenLemmas.{third_marks}
use Rattle.sleep_wakeup.proofs.BrokenLemmas.{raised_at, raised_to}
use Rattle.sleep_wakeup.proofs.laws.wakeups_can_be_broken.Goals as goal

pub returns-clause-takes_before_it_raises : goal.returns-clause-takes_before_it_raises
returns-clause-takes_before_it_raises c = λ table wakes.
    let are = of_wakeup table takes_before_it_raises wakes.ends in
    let bad = ap (λ (e : Entry). e.event) are.first in cc

pub returns-clause-never_raises : goal.returns-clause-never_raises
returns-clause-never_raises c = λ table wakes.
    let are = of_wakeup table never_raises wakes.ends in
    let bad = ap (λ (e : Entry). e.event) are.first in cc

pub returns-clause-never_takes : goal.returns-clause-never_takes
returns-clause-never_takes c = λ table wakes.
    let are = of_wakeup table never_takes wakes.ends in
    by_count (not_so_many never_takes are)
  where
    by_count : (length never_takes ≡ 2) ⊎ (length never_takes ≡ 3) → ⊥
    by_count (inl two) = cc
    by_count (inr three) = cc

pub returns-clause-takes_twice : goal.returns-clause-takes_twice
returns-clause-takes_twice c = λ table wakes.
    let are = of_wakeup table takes_twice wakes.ends in
    let bad = third_marks missed missed raised are in cc

pub returns-clause-never_marks : goal.returns-clause-never_marks
returns-clause-never_marks c = λ table wakes.
    let are = of_wakeup table never_marks wakes.ends in
    let bad = ap (λ (e : Entry). e.answer) (two_steps took raised are) in cc

pub returns-clause-marks_another : goal.returns-clause-marks_another
returns-clause-marks_another c = λ table wakes.
    let are = of_wakeup table marks_another wakes.ends in
    let bad = three_steps (marked 2) took raised are in cc

pub returns-clause-raises_elsewhere : goal.returns-clause-raises_elsewhere
returns-clause-raises_elsewhere c = λ table wakes.
    let are = of_wakeup table raises_elsewhere wakes.ends in
    let bad = ap (λ (e : Entry). raised_at e.event) are.first in cc

pub returns-clause-raises_to_another_level : goal.returns-clause-raises_to_another_level
returns-clause-raises_to_another_level c = λ table wakes.
    let are = of_wakeup table raises_to_another_level wakes.ends in
    let bad = ap (λ (e : Entry). raised_to e.event) are.first in cc

pub returns-clause-has_anothers_receipt : goal.returns-clause-has_anothers_receipt
returns-clause-has_anothers_receipt c = λ table wakes. let bad = wakes.level_is in cc

pub returns-clause-has_a_receipt_elsewhere : goal.returns-clause-has_a_receipt_elsewhere
returns-clause-has_a_receipt_elsewhere c = λ table wakes.
    let bad = ap (λ (rendez : RendezId). rendez.0) wakes.rendez_is in cc
