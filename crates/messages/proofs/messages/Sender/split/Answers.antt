-- There was no seat or no place for it.
use Rattle.std.proofs.Common.{subst}
use Rattle.messages.specs.Handles.{Handle, WhyNotGiven}
use Rattle.messages.specs.declared.message_object.Side.TheVariants.{Senders}
use Rattle.messages.proofs.LineLemmas.{on_err}
use Rattle.messages.proofs.messages.Sender.split.Goals as goal

pub returns-in_err-child-clause-refused : goal.returns-in_err-child-clause-refused
returns-in_err-child-clause-refused g c =
    on_err c.from_residual.result
    (subst (λ (h : Handle g.row.T.Denot). WhyNotGiven h.channel Senders h.seat c.split.new.seat)
    c.self.view_is c.in_err-child.ensures.refused)
