-- Where no place is free each has an open seat, and where a side has closed it has none.
use Rattle.std.proofs.Common.{sym, ap, ◌∙◌}
use Rattle.histories.specs.History.{state_after}
use Rattle.messages.specs.History.{message_meaning}
use Rattle.messages.specs.MessageObject.{opening, answer_to}
use Rattle.messages.proofs.CallLemmas.{no_place}
use Rattle.messages.proofs.LawLemmas.{history_keeps}
use Rattle.messages.proofs.laws.places_come_back.Goals as goal

pub returns : goal.returns
returns g c capacity handles entry past legal side seat is none =
    let kept = state_after message_meaning (opening capacity handles) past in
    let held = history_keeps capacity handles past legal.1 in
    no_place handles kept past held.sound held.ends side seat
    (ap (answer_to kept) (sym is) ∙ (sym legal.0.reply ∙ none))
