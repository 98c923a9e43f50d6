-- the first member, and all others from it on
use Rattle.std.proofs.Common.{None, ◌≡◌, subst}
use Rattle.plan9.specs.Chains.{MayHave, WhyNoRoom}
use Rattle.plan9.specs.Memberships.{GivesAnother, IsFirstOf, KnowsNoMember, WhyNoMembers}
use Rattle.plan9.proofs.ChainLemmas.{many_of, no_room, runs_out_of, told_as}
use Rattle.plan9.proofs.spaces.Space.members.Goals as goal

pub returns-clause-members : goal.returns-clause-members
returns-clause-members g c =
    many_of GivesAnother (IsFirstOf c.args.self.now) c.in_ok-first.first
    c.in_ok-first.ensures.first (λ list. list.items) c.args.count c.split_into.result
    c.split_into.ensures.many

pub returns-clause-fault : goal.returns-clause-fault
returns-clause-fault g c =
    runs_out_of GivesAnother (IsFirstOf c.args.self.now) c.in_ok-first.first
    c.in_ok-first.ensures.first KnowsNoMember (c.args.self.now.spare ≡ None)
    c.args.self.now.space.procs c.args.count c.split_into.result
    (subst (λ procs. MayHave procs c.args.count) c.procs.ensures c.in_ok-members.ensures.may)
    c.split_into.ensures.fault c.split_into.ensures.out

pub returns-in_err-members-clause-fault : goal.returns-in_err-members-clause-fault
returns-in_err-members-clause-fault g c =
    told_as (WhyNoMembers c.args.self.now c.args.count) c.in_err-members.field-0.0
    c.from_residual.result c.from_residual.ensures.1
    (no_room GivesAnother (IsFirstOf c.args.self.now) KnowsNoMember
    (c.args.self.now.spare ≡ None) c.args.self.now.space.procs c.args.count
    c.in_err-members.field-0.0
    (subst (λ procs. WhyNoRoom procs c.args.count c.in_err-members.field-0.0) c.procs.ensures
    c.in_err-members.ensures.fault))
