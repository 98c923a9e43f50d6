-- The first seat opens as the sender, and a further one as the receiver.
use Rattle.std.proofs.Common.{inr, sym, subst}
use Rattle.messages.specs.Handles.{AreEnds, Holding, WhyNoEnds}
use Rattle.messages.proofs.LineLemmas.{on_err}
use Rattle.messages.proofs.messages.Messages.ends.Goals as goal

pub returns-in_err-receiver-clause-refused : goal.returns-in_err-receiver-clause-refused
returns-in_err-receiver-clause-refused g c =
    on_err c.from_residual-in_err-receiver.result
    (subst (λ (h : Holding g.row.T.Denot). WhyNoEnds h) c.self.view_is
    (inr (
      c.in-Some.first,
      sym c.in-Some.ensures.value,
      inr (
        c.in_ok-sender.sender.place,
        c.in_ok-sender.sender.seat,
        c.split.new.seat,
        c.in_ok-sender.ensures.opened,
        c.in_err-receiver.ensures.refused,
      ),
    )))

pub returns-clause-ends : goal.returns-clause-ends
returns-clause-ends g c =
    subst (λ (h : Holding g.row.T.Denot). AreEnds h c.sender_of.result c.receiver_of.result)
    c.self.view_is
    (record {
      first = c.in-Some.first;
      first_is = sym c.in-Some.ensures.value;
      sender_is = c.sender_of.ensures.channel;
      receiver_is = c.receiver_of.ensures.channel;
      between = c.in_ok-sender.sender.seat;
      opened = rw c.sender_of.ensures.place c.in_ok-sender.ensures.opened;
      given = rw (
        c.sender_of.ensures.seat,
        c.receiver_of.ensures.seat,
        c.receiver_of.ensures.place,
      ) c.in_ok-receiver.ensures.given;
    })
