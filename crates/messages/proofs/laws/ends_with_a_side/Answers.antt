-- By what each call keeps of who is open.
use Rattle.std.proofs.Common.{◌∙◌, ap}
use Rattle.histories.specs.History.{state_after}
use Rattle.messages.specs.History.{message_meaning}
use Rattle.messages.specs.MessageObject.{opening, answer_to}
use Rattle.messages.proofs.CallLemmas.{last_wakes}
use Rattle.messages.proofs.LawLemmas.{history_keeps}
use Rattle.messages.proofs.laws.ends_with_a_side.Goals as goal

pub returns-clause-ends : goal.returns-clause-ends
returns-clause-ends g c capacity handles past legal =
    (history_keeps capacity handles past legal).ends.1.1.1.1

pub returns-clause-wakes : goal.returns-clause-wakes
returns-clause-wakes g c capacity handles entry past legal side seat is only on =
    let kept = state_after message_meaning (opening capacity handles) past in
    let held = history_keeps capacity handles past legal.1 in
    legal.0.reply ∙ ap (answer_to kept) is
    ∙ last_wakes handles kept past held.sound held.ends side seat only on
