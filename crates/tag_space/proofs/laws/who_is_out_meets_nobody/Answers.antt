-- a call that was left or worn out waits no more and is in no pair, and whatever comes keeps it so
use Rattle.std.proofs.Common.{[], ◌∷◌}
use Rattle.histories.proofs.HistoryLemmas.{legal_past}
use Rattle.tag_space.specs.Rendezvous.{rendezvous}
use Rattle.tag_space.specs.declared.calls.GroupCall.TheVariants.{Call, Leave}
use Rattle.tag_space.specs.declared.calls.GroupReply.TheVariants.{Worn, Gone}
use Rattle.tag_space.proofs.PromiseLemmas.{stays_out, left_is_out, refused_is_out}
use Rattle.tag_space.proofs.laws.who_is_out_meets_nobody.Goals as goal

pub returns-clause-left : goal.returns-clause-left
returns-clause-left c space since past member offer legal waits =
    let before = legal_past (rendezvous space) [] since
    (record { by = member; request = Leave member; reply = Gone } ∷ past) legal in
    (stays_out space since (record { by = member; request = Leave member; reply = Gone } ∷
    past) offer.number legal (left_is_out space past member member offer before.1 waits)).alone

pub returns-clause-worn : goal.returns-clause-worn
returns-clause-worn c space since past member tag value legal =
    let before = legal_past (rendezvous space) [] since
    (record { by = member; request = Call member tag value; reply = Worn } ∷ past) legal in
    (stays_out space since (record { by = member; request = Call member tag value; reply = Worn } ∷
    past) _ legal (refused_is_out space past member member tag value before.1)).alone
