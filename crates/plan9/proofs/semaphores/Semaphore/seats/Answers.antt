-- the first seat, and all others from it on
use Rattle.std.proofs.Common.{None, ◌≡◌, subst}
use Rattle.plan9.specs.Chains.{MayHave, WhyNoRoom}
use Rattle.plan9.specs.Semaphores.{GivesSeat, IsFirst, KnowsNoSeat, WhyNoSeats}
use Rattle.plan9.proofs.ChainLemmas.{many_of, no_room, runs_out_of, told_as}
use Rattle.plan9.proofs.semaphores.Semaphore.seats.Goals as goal

pub returns-clause-seats : goal.returns-clause-seats
returns-clause-seats g c =
    many_of GivesSeat (IsFirst c.args.self.now) c.in_ok-first.first
    c.in_ok-first.ensures.first (λ list. list.items) c.args.count c.split_into.result
    c.split_into.ensures.many

pub returns-clause-fault : goal.returns-clause-fault
returns-clause-fault g c =
    runs_out_of GivesSeat (IsFirst c.args.self.now) c.in_ok-first.first
    c.in_ok-first.ensures.first KnowsNoSeat (c.args.self.now.spare ≡ None)
    c.args.self.now.sema.procs c.args.count c.split_into.result
    (subst (λ procs. MayHave procs c.args.count) c.procs.ensures c.in_ok-seats.ensures.may)
    c.split_into.ensures.fault c.split_into.ensures.out

pub returns-in_err-seats-clause-fault : goal.returns-in_err-seats-clause-fault
returns-in_err-seats-clause-fault g c =
    told_as (WhyNoSeats c.args.self.now c.args.count) c.in_err-seats.field-0.0
    c.from_residual.result c.from_residual.ensures.1
    (no_room GivesSeat (IsFirst c.args.self.now) KnowsNoSeat
    (c.args.self.now.spare ≡ None) c.args.self.now.sema.procs c.args.count
    c.in_err-seats.field-0.0
    (subst (λ procs. WhyNoRoom procs c.args.count c.in_err-seats.field-0.0) c.procs.ensures
    c.in_err-seats.ensures.fault))
