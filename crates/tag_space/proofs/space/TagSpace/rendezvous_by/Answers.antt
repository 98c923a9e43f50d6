-- The wait is of the member's own Rendez, and what comes of the call is read off it.
use Rattle.std.proofs.Common.{arith}
use Rattle.tag_space.specs.Members.{party_of, seen_of}
use Rattle.tag_space.specs.Rendezvous.{Offered}
use Rattle.tag_space.proofs.AskLemmas.{is_below}
use Rattle.tag_space.proofs.EndLemmas.{came, same_exchange}
use Rattle.tag_space.proofs.space.TagSpace.rendezvous_by.Goals as goal

pub run-requires-clause-rendez : goal.run-requires-clause-rendez
run-requires-clause-rendez g c =
    let one = c.requires.member.one in
    let below = is_below c.args.self.now c.args.member.now one in
    omega (arith, below, one.rendez, c.requires.row)

pub returns-clause-same : goal.returns-clause-same
returns-clause-same g c =
    (came c.args.self.now _ c.args.member.now c.requires.member _ _ _ _
    c.run.ensures.is_call.waited).same

pub returns-clause-exchange : goal.returns-clause-exchange
returns-clause-exchange g c =
    let is = c.run.ensures.is_call in
    let offered : Offered = record { tag = c.args.tag; value = c.args.value } in
    same_exchange (party_of c.args.self.now c.args.member.now) offered
    (seen_of c.args.member.now) (seen_of c.run.new.seat) is.told c.run.result
    is.same
    (came c.args.self.now offered c.args.member.now c.requires.member _ _ _ _ is.waited).exchange
