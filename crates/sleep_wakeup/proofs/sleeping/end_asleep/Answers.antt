-- It looked, and was marked or had notes; the rest is a process that leaves.
use Rattle.sleep_core.specs.declared.answer.Answer.TheVariants as answer
use Rattle.sleep_core.specs.declared.event.Event.TheVariants.{Look}
use Rattle.rendez_words.specs.Process.{pid_in}
use Rattle.sleep_wakeup.proofs.CallLemmas.{leaves_now, leaves_after}
use Rattle.sleep_wakeup.proofs.sleeping.end_asleep.Goals as goal

pub returns-in-Woken-clause-left : goal.returns-in-Woken-clause-left
returns-in-Woken-clause-left g c =
    leaves_after c.args.asleep (Look (pid_in c.args.asleep)) answer.Woken _ _ _ tt
    c.in-Woken.ensures.looked (leaves_now _ _ _ c.clear_woken.ensures.cleared)

pub returns-in-Leaving-clause-left : goal.returns-in-Leaving-clause-left
returns-in-Leaving-clause-left g c =
    leaves_after c.args.asleep (Look (pid_in c.args.asleep)) answer.Leaving _ _ _ tt
    c.in-Leaving.ensures.looked c.end_leaving.ensures.left
