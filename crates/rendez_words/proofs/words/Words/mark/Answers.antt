-- Whom the process holds is a process of these words, and the bits that are set are the mark alone.
use Rattle.std.proofs.Common.{◌<◌, true, ◌∙◌, ap, refl, sym, subst}
use Rattle.rendez_words.specs.FlagsWord.{flags_word}
use Rattle.rendez_words.specs.Words.{procs_of}
use Rattle.rendez_words.proofs.KindSteps.{mark_step}
use Rattle.rendez_words.proofs.ProcessLemmas.{same_process, in_phase}
use Rattle.rendez_words.proofs.ReceiptLemmas.{mark_receipt}
use Rattle.rendez_words.proofs.words.Words.mark.Goals as goal

pub set_flags-unwoken-requires-clause-pid : goal.set_flags-unwoken-requires-clause-pid
set_flags-unwoken-requires-clause-pid c =
    (in_phase c.args.self.now _ _ (same_process _ _ _ c.holding.view_is c.requires.holding)
    c.holding.invariant).0

pub set_flags-unwoken-requires-clause-step : goal.set_flags-unwoken-requires-clause-step
set_flags-unwoken-requires-clause-step c =
    mark_step c.args.self.now c.holding.inside.caller _ _ _ _ _ _ c.pid-pid.ensures
    (same_process _ _ _ c.holding.view_is c.requires.holding) c.holding.invariant refl
    (c.word_from-mark.ensures ∙ ap (λ notes. flags_word (record { wake = true; notes = notes }))
    c.empty.ensures.value)

pub wake-requires-clause-pid : goal.wake-requires-clause-pid
wake-requires-clause-pid c =
    subst (λ n. n < procs_of c.args.self.now) (sym c.set_flags-unwoken.ensures.pid)
    (in_phase c.args.self.now _ _ (same_process _ _ _ c.holding.view_is c.requires.holding)
    c.holding.invariant).0

pub returns-clause-receipt : goal.returns-clause-receipt
returns-clause-receipt c =
    mark_receipt c.args.self.now _ _ _ _ _ _ _ c.pid-pid.ensures
    (same_process _ _ _ c.holding.view_is c.requires.holding) c.holding.invariant
    c.set_flags-unwoken.ensures.table c.set_flags-unwoken.ensures.made
