-- The sleep ends, so the swap of the process's own flags for none is its clear.
use Rattle.rendez_words.proofs.KindSteps.{clear_step}
use Rattle.rendez_words.proofs.words.Words.clear.Goals as goal

pub swap-found-requires-clause-step : goal.swap-found-requires-clause-step
swap-found-requires-clause-step c =
    clear_step c.args.self.now c.args.caller.now _ _ c.pid-pid.ensures c.requires.process
    c.requires.ending c.flags_word-word.ensures
