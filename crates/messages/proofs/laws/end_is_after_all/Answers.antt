-- The queue that the call finds is over, and each value that it has was granted.
use Rattle.std.proofs.Common.{sym, ◌∙◌}
use Rattle.histories.specs.History.{state_after}
use Rattle.messages.specs.History.{message_meaning}
use Rattle.messages.specs.MessageObject.{opening}
use Rattle.messages.proofs.CallLemmas.{ended}
use Rattle.messages.proofs.LawLemmas.{history_keeps}
use Rattle.messages.proofs.laws.end_is_after_all.Goals as goal

pub returns : goal.returns
returns g c capacity handles entry past legal is =
    let kept = state_after message_meaning (opening capacity handles) past in
    let held = history_keeps capacity handles past legal.1 in
    let end = ended kept handles held.sound entry.request (sym legal.0.reply ∙ is) in
    (held.ends.1.1.1.1.0 end.0, end.1)
