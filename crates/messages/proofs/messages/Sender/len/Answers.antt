-- The count was answered so.
use Rattle.std.proofs.Common.{subst}
use Rattle.messages.specs.Asking.{Asks}
use Rattle.messages.specs.Handles.{Handle}
use Rattle.messages.specs.declared.message_object.MessageCall.TheVariants.{Count}
use Rattle.messages.specs.declared.message_object.MessageReply.TheVariants as reply
use Rattle.messages.proofs.messages.Sender.len.Goals as goal

pub returns-clause-counted : goal.returns-clause-counted
returns-clause-counted g c = (
  c.count.result.room,
  subst (λ (h : Handle g.row.T.Denot). Asks h.channel Count
      (reply.Counted c.count.result.values c.count.result.room) h.seat c.count.new.seat)
      c.self.view_is c.count.ensures.counted,
)
