-- The first line of the text asks for the operation that was found, and is answered as that is; or
-- it is too long, or none asks for anything.
use Rattle.std.proofs.Common.{◌<◌, ◌+◌, ◌-◌, length, refl, arith}
use Rattle.std.proofs.lemmas.Bool.Decides.{nat_tests}
use Rattle.sync_base.specs.PlainPipe.{Shows}
use Rattle.scripts.specs.declared.script.TheConstants.{MAX_LINE}
use Rattle.scripts.specs.PipeLine.{asked_by}
use Rattle.scripts.specs.PipeScript.{pipe_language, answered, op_of}
use Rattle.scripts.proofs.OnePassLemmas.{begins_length}
use Rattle.scripts.proofs.PipeLineLemmas.{op_answered, op_not_answered}
use Rattle.scripts.proofs.ScriptLemmas.{found_answered, long_is_stuck, none_is_stuck}
use Rattle.scripts.proofs.pipe_script.PipeScriptScript.answer_first.Goals as goal

pub returns-in_default-clause-answered : goal.returns-in_default-clause-answered
returns-in_default-clause-answered c s shows = (
  none_is_stuck (Shows c.args.self.now.pipe) pipe_language s op_of _
      (rw c.in_default.is at c.in_ok-op.ensures) (op_not_answered s) shows,
  refl,
)

pub is_too_long-requires : goal.is_too_long-requires
is_too_long-requires c =
    let found = rw c.in-Some.is at c.in_ok-op.ensures in
    omega (arith, begins_length _ found.words _ found.begins)

pub returns-then-is_too_long-clause-answered : goal.returns-then-is_too_long-clause-answered
returns-then-is_too_long-clause-answered c s shows =
    let found = rw c.in-Some.is at c.in_ok-op.ensures in
    let is = c.if-is_too_long.ensures in
    let long : MAX_LINE + 1 < length c.args.text.now - length c.in-Some.rest.now =
    grind (arith, nat_tests) in (
      long_is_stuck (Shows c.args.self.now.pipe) pipe_language s _ found.words _ found.begins long,
      refl,
    )

pub returns-clause-answered : goal.returns-clause-answered
returns-clause-answered c s shows =
    let found = rw c.in-Some.is at c.in_ok-op.ensures in
    let done = c.in_ok-answer_op.ensures s shows in
    found_answered (Shows c.answer_op.new.pipe) pipe_language s _ _ found.words _ _
    (answered s (asked_by c.in-Some.op))
    found.begins (grind (arith, nat_tests))
    (op_answered s found.begins.line found.words (asked_by c.in-Some.op) found.begins.words_are
    found.asks)
    done.state done.text

pub returns-clause-shorter : goal.returns-clause-shorter
returns-clause-shorter c =
    let found = rw c.in-Some.is at c.in_ok-op.ensures in
    omega (arith, begins_length _ found.words _ found.begins)
