-- The process waits, so the load of its own flags is its look.
use Rattle.rendez_words.proofs.KindSteps.{look_step}
use Rattle.rendez_words.proofs.words.Words.look_at.Goals as goal

pub load-word-requires-clause-step : goal.load-word-requires-clause-step
load-word-requires-clause-step c =
    look_step c.args.self.now c.args.caller.now _ _ _ c.pid-pid.ensures c.requires.process
    c.requires.looking c.flags_word.ensures
