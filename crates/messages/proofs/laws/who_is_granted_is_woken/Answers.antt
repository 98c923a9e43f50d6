-- By what each answer tells.
use Rattle.std.proofs.Common.{sym, subst}
use Rattle.histories.specs.History.{state_after}
use Rattle.messages.specs.History.{message_meaning}
use Rattle.messages.specs.MessageObject.{opening, answer_to, after_reply}
use Rattle.messages.proofs.CallLemmas.{WasNamed, above_all, grant_named}
use Rattle.messages.proofs.laws.who_is_granted_is_woken.Goals as goal

pub returns-clause-named : goal.returns-clause-named
returns-clause-named g c capacity handles entry past legal seat =
    let kept = state_after message_meaning (opening capacity handles) past in
    subst (λ answer. WasNamed kept seat
    (record { by = entry.by; request = entry.request; reply = answer })
    (after_reply kept entry.request (answer_to kept entry.request)))
    (sym legal.0.reply) (grant_named kept entry.by seat entry.request)

pub returns-clause-above : goal.returns-clause-above
returns-clause-above g c capacity handles past since waits number legal told =
    (above_all capacity handles past waits number since legal told).1
