-- The process leaves a Rendez that is there, so the exchange of its pid for nobody withdraws it.
use Rattle.rendez_words.proofs.KindSteps.{withdraw_step}
use Rattle.rendez_words.proofs.ProcessLemmas.{same_process, in_phase}
use Rattle.rendez_words.proofs.words.Words.withdraw.Goals as goal

pub posted_word-word-requires : goal.posted_word-word-requires
posted_word-word-requires c = in_phase c.args.self.now _ _
    (same_process _ _ _ c.leaving.view_is c.requires.leaving) c.leaving.invariant

pub compare_exchange-found-requires-clause-step : goal.compare_exchange-found-requires-clause-step
compare_exchange-found-requires-clause-step c =
    withdraw_step c.args.self.now c.leaving.inside.caller _ _ _ c.pid-pid.ensures
    (same_process _ _ _ c.leaving.view_is c.requires.leaving) c.leaving.invariant
    c.posted_word-word.ensures
