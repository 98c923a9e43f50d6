-- The queue that the call finds is hung up if and only if it is over.
use Rattle.std.proofs.Common.{sym, ◌∙◌, ap, ◌++◌, List, append-nil}
use Rattle.histories.specs.History.{state_after}
use Rattle.messages.specs.History.{message_meaning, sent, sent_by}
use Rattle.messages.specs.MessageObject.{opening}
use Rattle.messages.proofs.CallLemmas.{none_accepted, refused_hung}
use Rattle.messages.proofs.LawLemmas.{history_keeps}
use Rattle.messages.proofs.laws.nothing_after_hangup.Goals as goal

pub returns-clause-accepted : goal.returns-clause-accepted
returns-clause-accepted g c capacity handles past before entry legal is =
    let kept = state_after message_meaning (opening capacity handles) past in
    let held = history_keeps capacity handles past before in
    ap (λ answer. sent past ++ sent_by entry.request answer) legal.0.reply
    ∙ ap (λ (xs : List g.row.T.Denot). sent past ++ xs)
    (none_accepted kept (held.ends.1.1.1.1.1 is) entry.request) ∙ append-nil (sent past)

pub returns-clause-refused : goal.returns-clause-refused
returns-clause-refused g c capacity handles entry past legal value is =
    let kept = state_after message_meaning (opening capacity handles) past in
    (history_keeps capacity handles past legal.1).ends.1.1.1.1.0
    (refused_hung kept entry.request value (sym legal.0.reply ∙ is))
