-- The load is a check by a joined seat, which keeps the rule and changes no word.
use Rattle.std.proofs.Common.{rules}
use Rattle.rendez_words.proofs.CheckKeeps.{check_allowed}
use Rattle.rendez_words.proofs.StepAnswers.{step_in}
use Rattle.rendez_words.proofs.words.Words.check.Goals as goal

pub load-requires : goal.load-requires
load-requires g c = (
  search rules,
  step_in _ _ _ _ _ _ _ c.requires.sizes c.args.self.now.word_count c.requires.step,
  check_allowed _ _ _ _ _ _ _ c.requires.sizes c.requires.joined c.requires.unkept c.requires.step,
)
