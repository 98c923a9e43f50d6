-- The run so far goes on by one event.
use Rattle.std.proofs.Common.{◌∙◌, arith}
use Rattle.std.proofs.lemmas.Grind.{common_steps}
use Rattle.sleep_core.proofs.RunSteps.{answers_to_all-more, world_after_all-more}
use Rattle.sleep_core.proofs.world.World.run.Goals as goal

pub loop-event-preserved : goal.loop-event-preserved
loop-event-preserved c =
    record {
      told = rw (c.in-Ok.ensures.items, c.step-answer.ensures.answer, c.step-answer.ensures.after)
          (answers_to_all-more _ _ _ _ _ c.loop-event-test.true ∙ c.loop-event.invariant.told);
      after = rw c.step-answer.ensures.after
          (world_after_all-more _ _ _ _ c.loop-event-test.true ∙ c.loop-event.invariant.after);
      answered = grind (arith, common_steps);
      room = grind (arith, common_steps);
    }
