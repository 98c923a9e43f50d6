-- the first watch, and all others from it on
use Rattle.std.proofs.Common.{None, ◌≡◌, subst}
use Rattle.plan9.specs.Chains.{MayHave, WhyNoRoom}
use Rattle.plan9.specs.Watches.{GivesWatch, IsFirstWatch, KnowsNoWatch, WhyNoWatches}
use Rattle.plan9.proofs.ChainLemmas.{many_of, no_room, runs_out_of, told_as}
use Rattle.plan9.proofs.clock.Clock.watches.Goals as goal

pub returns-clause-watches : goal.returns-clause-watches
returns-clause-watches g c =
    many_of GivesWatch (IsFirstWatch c.args.self.now) c.in_ok-first.first
    c.in_ok-first.ensures.first (λ list. list.items) c.args.count c.split_into.result
    c.split_into.ensures.many

pub returns-clause-fault : goal.returns-clause-fault
returns-clause-fault g c =
    runs_out_of GivesWatch (IsFirstWatch c.args.self.now) c.in_ok-first.first
    c.in_ok-first.ensures.first KnowsNoWatch (c.args.self.now.spare ≡ None)
    c.args.self.now.timers.procs c.args.count c.split_into.result
    (subst (λ procs. MayHave procs c.args.count) c.procs.ensures c.in_ok-watches.ensures.may)
    c.split_into.ensures.fault c.split_into.ensures.out

pub returns-in_err-watches-clause-fault : goal.returns-in_err-watches-clause-fault
returns-in_err-watches-clause-fault g c =
    told_as (WhyNoWatches c.args.self.now c.args.count) c.in_err-watches.field-0.0
    c.from_residual.result c.from_residual.ensures.1
    (no_room GivesWatch (IsFirstWatch c.args.self.now) KnowsNoWatch
    (c.args.self.now.spare ≡ None) c.args.self.now.timers.procs c.args.count
    c.in_err-watches.field-0.0
    (subst (λ procs. WhyNoRoom procs c.args.count c.in_err-watches.field-0.0) c.procs.ensures
    c.in_err-watches.ensures.fault))
