-- The first line of the text asks for the event that was found, and is answered as that is; or it
-- is too long, or may be a line to a group.
use Rattle.std.proofs.Common.{◌<◌, ◌+◌, ◌-◌, length, refl, arith}
use Rattle.std.proofs.lemmas.Bool.Decides.{nat_tests}
use Rattle.sleep_core.specs.Step.{answer_to, world_after}
use Rattle.scripts.specs.declared.script.TheConstants.{MAX_LINE}
use Rattle.scripts.specs.EventText.{event_text}
use Rattle.scripts.specs.Schedule.{IsWorld, schedule_language}
use Rattle.scripts.proofs.OnePassLemmas.{begins_length}
use Rattle.scripts.proofs.ScriptLemmas.{found_answered, long_is_stuck}
use Rattle.scripts.proofs.ScheduleLemmas.{event_answered}
use Rattle.scripts.proofs.schedule.ScheduleScript.answer_first.Goals as goal

pub is_too_long-requires : goal.is_too_long-requires
is_too_long-requires c =
    let found = c.in-Some.ensures in
    omega (arith, begins_length _ found.words _ found.begins)

pub returns-then-is_too_long-clause-answered : goal.returns-then-is_too_long-clause-answered
returns-then-is_too_long-clause-answered c s same =
    let found = c.in-Some.ensures in
    let is = c.if-is_too_long.ensures in
    let long : MAX_LINE + 1 < length c.args.text.now - length c.in-Some.rest.now =
    grind (arith, nat_tests) in (
      long_is_stuck (IsWorld c.args.self.now.world) schedule_language s _ found.words _ found.begins
          long,
      refl,
    )

pub returns-clause-answered : goal.returns-clause-answered
returns-clause-answered c s same =
    let found = c.in-Some.ensures in
    found_answered (IsWorld c.answer_event.new.world) schedule_language s _ _ found.words _ _
    (record {
      text = event_text (answer_to s c.in-Some.event);
      after = world_after s c.in-Some.event;
    })
    found.begins (grind (arith, nat_tests))
    (event_answered s found.begins.line found.words c.in-Some.event found.begins.words_are
    found.asks)
    (rw (← same) c.answer_event.ensures.after)
    (rw (← same) c.in_ok-answer_event.ensures.text)

pub returns-clause-shorter : goal.returns-clause-shorter
returns-clause-shorter c =
    let found = c.in-Some.ensures in
    omega (arith, begins_length _ found.words _ found.begins)

pub returns-in_default-clause-answered : goal.returns-in_default-clause-answered
returns-in_default-clause-answered c s same =
    rw same at c.answer_first_group.ensures.answered
