-- The process is idle and the Rendez is there, so the maximum of its level is its raise.
use Rattle.std.proofs.Common.{ap, arith}
use Rattle.rendez_words.specs.declared.view.Sizes.{Sizes}
use Rattle.rendez_words.proofs.KindSteps.{raise_step}
use Rattle.rendez_words.proofs.ProcessLemmas.{same_process}
use Rattle.rendez_words.proofs.words.Words.raise.Goals as goal

pub fetch_max-requires-clause-step : goal.fetch_max-requires-clause-step
fetch_max-requires-clause-step c =
    let branch = c.if-rendez-self.false in
    let sizes = c.args.self.now.sizes_are in
    let same = ap (λ (k : Sizes). k.rendez) sizes in
    raise_step c.args.self.now c.seat.inside.caller _ _ _ _ c.pid-pid.ensures
    (same_process _ _ _ c.seat.view_is c.requires.seat) c.seat.invariant
    (omega arith) c.level_word-word.ensures
