-- The line that was found is answered as the language says; where none was, no line asks for any
-- events.
use Rattle.std.proofs.Common.{◌<◌, ◌+◌, ◌-◌, length, refl, arith}
use Rattle.std.proofs.lemmas.Bool.Decides.{nat_tests}
use Rattle.scripts.specs.declared.script.TheConstants.{MAX_LINE}
use Rattle.scripts.specs.Schedule.{IsWorld, answered, events_of, notes_to, schedule_language}
use Rattle.scripts.proofs.GroupLemmas.{group_answered, group_written, no_events_asked}
use Rattle.scripts.proofs.GroupLemmas.{none_answered}
use Rattle.scripts.proofs.OnePassLemmas.{begins_length}
use Rattle.scripts.proofs.ScriptLemmas.{found_answered, long_is_stuck, none_is_stuck}
use Rattle.scripts.proofs.schedule.answer_first_group.Goals as goal

pub returns-in_default-clause-answered : goal.returns-in_default-clause-answered
returns-in_default-clause-answered c =
    let s = c.args.world.now in (
      none_is_stuck (IsWorld s) schedule_language s events_of _
          (no_events_asked _ c.requires c.in_default.ensures) (none_answered s) refl,
      refl,
    )

pub is_too_long-requires : goal.is_too_long-requires
is_too_long-requires c =
    let found = c.in-Some.ensures in
    omega (arith, begins_length _ found.words _ found.begins)

pub returns-then-is_too_long-clause-answered : goal.returns-then-is_too_long-clause-answered
returns-then-is_too_long-clause-answered c =
    let s = c.args.world.now in
    let found = c.in-Some.ensures in
    let is = c.if-is_too_long.ensures in
    let long : MAX_LINE + 1 < length c.args.text.now - length c.in-Some.after.now =
    grind (arith, nat_tests) in (
      long_is_stuck (IsWorld s) schedule_language s _ found.words _ found.begins long,
      refl,
    )

pub returns-clause-answered : goal.returns-clause-answered
returns-clause-answered c =
    let s = c.args.world.now in
    let found = c.in-Some.ensures in
    let asked = found.asked in
    let posts = c.in_ok-post_each.ensures asked.pids asked.written in
    found_answered (IsWorld c.post_each.new.world) schedule_language s _ _ found.words _ _
    (answered s (notes_to c.in-Some.group.notes asked.pids)) found.begins
    (grind (arith, nat_tests))
    (group_answered s found.begins.line found.words _ found.begins.words_are asked.ask) posts.after
    (group_written _ c.in-Some.group.pids _ _ _ _ _ posts asked.written)

pub returns-clause-shorter : goal.returns-clause-shorter
returns-clause-shorter c =
    let found = c.in-Some.ensures in
    omega (arith, begins_length _ found.words _ found.begins)
