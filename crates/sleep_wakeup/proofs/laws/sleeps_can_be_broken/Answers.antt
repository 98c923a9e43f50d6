-- By what the steps of a sleep are.
use Rattle.std.proofs.Common.{refl, ap}
use Rattle.sync_base.specs.declared.note.Note.TheVariants.{Interrupt}
use Rattle.sync_base.specs.NoteSet.{no_notes, only}
use Rattle.sleep_core.specs.Runs.{Entry}
use Rattle.sleep_wakeup.specs.Broken.{answers_at_once, tests_before_it_posts, never_tests}
use Rattle.sleep_wakeup.specs.Broken.{never_clears, clears_twice, raises_meanwhile}
use Rattle.sleep_wakeup.specs.Broken.{posts_elsewhere, posts_with_another_threshold}
use Rattle.sleep_wakeup.specs.Broken.{leaves_for_no_cause, leaves_with_an_alarm}
use Rattle.sleep_wakeup.proofs.BrokenLemmas.{of_sleep, no_cause, rendez_of, has_alarm}
use Rattle.sleep_wakeup.proofs.laws.sleeps_can_be_broken.Goals as goal

pub returns-clause-answers_at_once : goal.returns-clause-answers_at_once
returns-clause-answers_at_once c = λ table sleeps.
    let is = of_sleep table no_notes answers_at_once sleeps in
    let bad = ap (λ (e : Entry). e.event) is.last in cc

pub returns-clause-tests_before_it_posts : goal.returns-clause-tests_before_it_posts
returns-clause-tests_before_it_posts c = λ table sleeps.
    let is = of_sleep table no_notes tests_before_it_posts sleeps in
    let bad = ap (λ (e : Entry). e.event) is.first in cc

pub returns-clause-never_tests : goal.returns-clause-never_tests
returns-clause-never_tests c = λ table sleeps.
    let is = of_sleep table no_notes never_tests sleeps in
    let bad = ap (λ (e : Entry). e.event) is.second in cc

pub returns-clause-never_clears : goal.returns-clause-never_clears
returns-clause-never_clears c = λ table sleeps.
    let is = of_sleep table no_notes never_clears sleeps in
    let bad = ap (λ (e : Entry). e.event) is.last in cc

pub returns-clause-clears_twice : goal.returns-clause-clears_twice
returns-clause-clears_twice c = λ table sleeps.
    let is = of_sleep table no_notes clears_twice sleeps in
    is.of_wait.0

pub returns-clause-raises_meanwhile : goal.returns-clause-raises_meanwhile
returns-clause-raises_meanwhile c = λ table sleeps.
    let is = of_sleep table no_notes raises_meanwhile sleeps in
    is.of_wait.1.0

pub returns-clause-posts_elsewhere : goal.returns-clause-posts_elsewhere
returns-clause-posts_elsewhere c = λ table sleeps.
    let is = of_sleep table no_notes posts_elsewhere sleeps in
    let bad = ap (λ (e : Entry). rendez_of e.event) is.first in cc

pub returns-clause-posts_with_another_threshold : goal.returns-clause-posts_with_another_threshold
returns-clause-posts_with_another_threshold c = λ table sleeps.
    let is = of_sleep table no_notes posts_with_another_threshold sleeps in
    let bad = ap (λ (e : Entry). e.event) is.first in cc

pub returns-clause-leaves_for_no_cause : goal.returns-clause-leaves_for_no_cause
returns-clause-leaves_for_no_cause c = λ table sleeps.
    let is = of_sleep table no_notes leaves_for_no_cause sleeps in
    no_cause is.tested is.second (is.cause refl)

pub returns-clause-drops_an_alarm : goal.returns-clause-drops_an_alarm
returns-clause-drops_an_alarm c = λ table sleeps.
    let is = of_sleep table no_notes leaves_with_an_alarm sleeps in
    let bad = ap (λ (e : Entry). e.answer) is.last in cc

pub returns-clause-tells_another_note : goal.returns-clause-tells_another_note
returns-clause-tells_another_note c = λ table sleeps.
    let is = of_sleep table (only Interrupt) leaves_with_an_alarm sleeps in
    let bad = ap (λ (e : Entry). has_alarm e.answer) is.last in cc

pub returns-clause-is_interrupted_by_no_notes : goal.returns-clause-is_interrupted_by_no_notes
returns-clause-is_interrupted_by_no_notes c = λ words table interrupted. interrupted.1 refl
