-- The queue that the call finds is not hung up.
use Rattle.std.proofs.Common.{sym, ◌∙◌}
use Rattle.histories.specs.History.{state_after}
use Rattle.messages.specs.History.{message_meaning}
use Rattle.messages.specs.MessageObject.{opening}
use Rattle.messages.proofs.CallLemmas.{first_hung}
use Rattle.messages.proofs.LawLemmas.{history_keeps, not_both}
use Rattle.messages.proofs.laws.one_hangup_is_first.Goals as goal

pub returns : goal.returns
returns g c capacity handles entry past legal number is over =
    let kept = state_after message_meaning (opening capacity handles) past in
    not_both kept.hung ((history_keeps capacity handles past legal.1).ends.1.1.1.1.1 over)
    (first_hung kept entry.request number (sym legal.0.reply ∙ is))
