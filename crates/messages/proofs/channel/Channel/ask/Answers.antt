-- The state that the call finds is what a legal history leaves.
use Rattle.messages.proofs.AskLemmas.{told_in}
use Rattle.messages.proofs.channel.Channel.ask.Goals as goal

pub returns-clause-told : goal.returns-clause-told
returns-clause-told g c =
    told_in c.args.self.now c.args.call c.apply.result c.args.seat.now c.apply.new.seat
    c.requires.seat.opened c.apply.ensures.history c.apply.ensures.served
