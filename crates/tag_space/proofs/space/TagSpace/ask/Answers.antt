-- What the member has seen is a history of its space, and its number is what it was.
use Rattle.std.proofs.Common.{sym, ap, ◌∙◌, ◌+◌}
use Rattle.tag_space.proofs.AskLemmas.{knows_space}
use Rattle.tag_space.proofs.space.TagSpace.ask.Goals as goal

pub returns-clause-member : goal.returns-clause-member
returns-clause-member g c =
    let same = c.requires.member.seat.number
    ∙ sym (ap (λ a. a.number) c.apply.ensures.served.account.new_is)
    ∙ sym c.apply.ensures.seat.number in
    record {
      seat = c.apply.ensures.seat;
      history = knows_space c.args.self.now c.apply.new.seat c.apply.ensures.history;
      rendez = c.requires.member.rendez ∙ ap (λ n. c.args.self.now.first.0 + n) same;
    }
