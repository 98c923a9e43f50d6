-- The process is idle, the Rendez is there and the threshold not the top, so this is its post.
use Rattle.std.proofs.Common.{ap, arith}
use Rattle.rendez_words.specs.declared.view.Sizes.{Sizes}
use Rattle.rendez_words.proofs.KindSteps.{post_step}
use Rattle.rendez_words.proofs.ProcessLemmas.{same_process}
use Rattle.rendez_words.proofs.words.Words.post.Goals as goal

pub compare_exchange-found-requires-clause-step : goal.compare_exchange-found-requires-clause-step
compare_exchange-found-requires-clause-step c =
    let branch = c.if-rendez-self.false in
    let sizes = c.args.self.now.sizes_are in
    let same = ap (λ (k : Sizes). k.rendez) sizes in
    post_step c.args.self.now c.seat.inside.caller _ _ _ _ c.pid-pid.ensures
    (same_process _ _ _ c.seat.view_is c.requires.seat) c.seat.invariant
    (omega arith) c.if-threshold-eq-TOP_LEVEL.false c.posted_word-word.ensures
