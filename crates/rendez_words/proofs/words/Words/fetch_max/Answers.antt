-- The maximum is a step of the seat's process on a word of the table, so the rule stays.
use Rattle.std.proofs.Common.{rules}
use Rattle.rendez_words.proofs.StepAnswers.{step_in, step_allowed}
use Rattle.rendez_words.proofs.words.Words.fetch_max.Goals as goal

pub fetch_max-requires : goal.fetch_max-requires
fetch_max-requires g c = (
  search rules,
  step_in _ _ _ _ _ _ _ c.requires.sizes c.args.self.now.word_count c.requires.step,
  step_allowed _ _ _ _ _ _ _ _ _ c.requires.sizes c.caller.invariant c.caller.view_is
      c.requires.step,
)
