-- It withdrew; it may have looked for the mark; and it cleared its flags.
use Rattle.sleep_core.specs.declared.answer.Answer.TheVariants as answer
use Rattle.sleep_core.specs.declared.event.Event.TheVariants.{Look, Withdraw}
use Rattle.rendez_words.specs.Process.{pid_in}
use Rattle.sleep_wakeup.proofs.CallLemmas.{leaves_now, leaves_after}
use Rattle.sleep_wakeup.proofs.sleeping.end_leaving.Goals as goal

pub returns-in-Out-clause-left : goal.returns-in-Out-clause-left
returns-in-Out-clause-left g c =
    leaves_after c.args.leaving (Withdraw (pid_in c.args.leaving)) answer.Out _ _ _ tt
    c.in-Out.ensures.withdrawn (leaves_now _ _ _ c.clear_out.ensures.cleared)

pub returns-in-Awaiting-clause-left : goal.returns-in-Awaiting-clause-left
returns-in-Awaiting-clause-left g c =
    leaves_after c.args.leaving (Withdraw (pid_in c.args.leaving)) answer.Awaiting _ _ _ tt
    c.in-Awaiting.ensures.withdrawn
    (leaves_after c.in-Awaiting.awaiting (Look (pid_in c.in-Awaiting.awaiting)) answer.Woken _ _ _
    tt c.look_mark-woken.ensures.looked (leaves_now _ _ _ c.clear_woken.ensures.cleared))
