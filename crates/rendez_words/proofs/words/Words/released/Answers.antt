-- The joined seat knows the sleep and the receipt, so its check does not find the sleeper posted.
use Rattle.std.proofs.Common.{◌+◌, ◌∙◌, ap}
use Rattle.rendez_words.specs.Process.{Process, pid_in}
use Rattle.rendez_words.proofs.ProcessLemmas.{same_process, in_phase}
use Rattle.rendez_words.proofs.ReleasedLemmas.{released_is, is_true, joined_first, joined_second}
use Rattle.rendez_words.proofs.ReleasedLemmas.{check_asks}
use Rattle.rendez_words.proofs.words.Words.released.Goals as goal

pub posted_word-requires : goal.posted_word-requires
posted_word-requires c = in_phase c.args.self.now _ _
    (same_process _ _ _ c.asleep.view_is c.requires.asleep) c.asleep.invariant

pub check-found-requires-clause-step : goal.check-found-requires-clause-step
check-found-requires-clause-step c =
    check_asks c.args.self.now c.asleep.inside.caller _ _ _ _ c.join.new.stepper.me
    (ap pid_in c.caller.view_is)
    (joined_first c.caller.inside.stepper _ _ c.join.new.stepper.me c.raiser.inside.stepper.me.0
    c.caller.invariant c.caller.view_is c.join.ensures.joined)
    (same_process _ _ _ c.asleep.view_is c.requires.asleep) c.asleep.invariant c.posted_word.ensures

pub returns-clause-released : goal.returns-clause-released
returns-clause-released c = λ threshold asleep above.
    is_true _ _
    (λ same. released_is _ _ _ _ _ c.args.asleep c.args.seat _ threshold _
    (joined_first c.caller.inside.stepper _ _ c.join.new.stepper.me c.raiser.inside.stepper.me.0
    c.caller.invariant (c.caller.view_is ∙ c.asleep.view_is) c.join.ensures.joined)
    (joined_second c.raiser.inside.stepper _ _ c.join.new.stepper.me c.caller.inside.stepper.me.0
    c.raiser.invariant (c.raiser.view_is ∙ c.seat.view_is) c.join.ensures.joined)
    c.check-found.ensures.checked asleep c.requires.done above
    (same ∙ ap (λ (p : Process). p.pid + 1) (c.caller.view_is ∙ c.asleep.view_is)))
