-- The load makes the event where it finds the word empty, and else changes nothing: the rule stays.
use Rattle.std.proofs.Common.{rules}
use Rattle.rendez_words.proofs.StepAnswers.{step_in, where_empty_allowed}
use Rattle.rendez_words.proofs.words.Words.load_empty.Goals as goal

pub load-found-requires : goal.load-found-requires
load-found-requires g c = (
  search rules,
  step_in _ _ _ _ _ _ _ c.requires.sizes c.args.self.now.word_count c.requires.step,
  where_empty_allowed _ _ _ _ _ _ _ _ c.requires.sizes c.caller.invariant c.caller.view_is
      c.requires.step,
)
