-- the first share, and all others from it on
use Rattle.std.proofs.Common.{None, ◌≡◌, subst}
use Rattle.plan9.specs.Chains.{MayHave, WhyNoRoom}
use Rattle.plan9.specs.Sharings.{GivesShare, IsFirstShare, KnowsNoShare, WhyNoShares}
use Rattle.plan9.proofs.ChainLemmas.{many_of, no_room, runs_out_of, told_as}
use Rattle.plan9.proofs.shares.SharedEnd.shares.Goals as goal

pub returns-clause-shares : goal.returns-clause-shares
returns-clause-shares g c =
    many_of GivesShare (IsFirstShare c.args.self.now) c.in_ok-first.first
    c.in_ok-first.ensures.first (λ list. list.items) c.args.count c.split_into.result
    c.split_into.ensures.many

pub returns-clause-fault : goal.returns-clause-fault
returns-clause-fault g c =
    runs_out_of GivesShare (IsFirstShare c.args.self.now) c.in_ok-first.first
    c.in_ok-first.ensures.first KnowsNoShare (c.args.self.now.turns.spare ≡ None)
    c.args.self.now.turns.sema.procs c.args.count c.split_into.result
    (subst (λ procs. MayHave procs c.args.count) c.procs.ensures c.in_ok-shares.ensures.may)
    c.split_into.ensures.fault c.split_into.ensures.out

pub returns-in_err-shares-clause-fault : goal.returns-in_err-shares-clause-fault
returns-in_err-shares-clause-fault g c =
    told_as (WhyNoShares c.args.self.now c.args.count) c.in_err-shares.field-0.0
    c.from_residual.result c.from_residual.ensures.1
    (no_room GivesShare (IsFirstShare c.args.self.now) KnowsNoShare
    (c.args.self.now.turns.spare ≡ None) c.args.self.now.turns.sema.procs c.args.count
    c.in_err-shares.field-0.0
    (subst (λ procs. WhyNoRoom procs c.args.count c.in_err-shares.field-0.0) c.procs.ensures
    c.in_err-shares.ensures.fault))
