-- The process is idle, so the swap of its own flags for none is its drain.
use Rattle.rendez_words.proofs.KindSteps.{drain_step}
use Rattle.rendez_words.proofs.ProcessLemmas.{same_process}
use Rattle.rendez_words.proofs.words.Words.drain.Goals as goal

pub swap-found-requires-clause-step : goal.swap-found-requires-clause-step
swap-found-requires-clause-step c =
    drain_step c.args.self.now c.seat.inside.caller _ _ c.pid-pid.ensures
    (same_process _ _ _ c.seat.view_is c.requires.seat) c.seat.invariant c.flags_word-word.ensures
