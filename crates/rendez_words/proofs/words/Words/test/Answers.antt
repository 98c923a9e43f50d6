-- The process is posted in a Rendez that is there, so the load of its level is its test.
use Rattle.rendez_words.proofs.KindSteps.{test_step}
use Rattle.rendez_words.proofs.ProcessLemmas.{same_process, in_phase}
use Rattle.rendez_words.proofs.words.Words.test.Goals as goal

pub level_word-word-requires : goal.level_word-word-requires
level_word-word-requires c = in_phase c.args.self.now _ _
    (same_process _ _ _ c.posted.view_is c.requires.posted) c.posted.invariant

pub load-level-requires-clause-step : goal.load-level-requires-clause-step
load-level-requires-clause-step c =
    test_step c.args.self.now c.posted.inside.caller _ _ _ _ c.pid-pid.ensures
    (same_process _ _ _ c.posted.view_is c.requires.posted) c.posted.invariant
    c.level_word-word.ensures
