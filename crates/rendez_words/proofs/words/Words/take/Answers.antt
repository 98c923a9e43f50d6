-- The process owes a take of a Rendez that is there; where it finds nobody, this is the receipt.
use Rattle.rendez_words.proofs.KindSteps.{take_step}
use Rattle.rendez_words.proofs.ProcessLemmas.{same_process, in_phase}
use Rattle.rendez_words.proofs.ReceiptLemmas.{take_receipt}
use Rattle.rendez_words.proofs.words.Words.take.Goals as goal

pub posted_word-word-requires : goal.posted_word-word-requires
posted_word-word-requires c = in_phase c.args.self.now _ _
    (same_process _ _ _ c.owing.view_is c.requires.owing) c.owing.invariant

pub empty_word-found-requires-clause-step : goal.empty_word-found-requires-clause-step
empty_word-found-requires-clause-step c =
    take_step c.args.self.now c.owing.inside.caller _ _ _ _ c.pid-pid.ensures
    (same_process _ _ _ c.owing.view_is c.requires.owing) c.owing.invariant
    c.posted_word-word.ensures

pub returns-then-found-eq-NOBODY-clause-receipt : goal.returns-then-found-eq-NOBODY-clause-receipt
returns-then-found-eq-NOBODY-clause-receipt c =
    take_receipt c.args.self.now _ _ _ _ _ _ c.pid-pid.ensures
    (same_process _ _ _ c.owing.view_is c.requires.owing) c.owing.invariant
    c.empty_word-found.ensures.table c.empty_word-found.ensures.made c.if-found-eq-NOBODY.true
