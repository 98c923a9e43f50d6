-- Each write moves its bytes from what is left to what was written, so a front of all is there.
use Rattle.std.proofs.lemmas.List.{take_rest}
use Rattle.scripts.proofs.DeviceLemmas.{on_err, front_kept, front_written, writes_more}
use Rattle.scripts.proofs.DeviceLemmas.{writes_nothing}
use Rattle.scripts.proofs.device.write_whole.Goals as goal

pub loop-init : goal.loop-init
loop-init g c = writes_nothing _ _

pub returns-in_err-count-clause-err : goal.returns-in_err-count-clause-err
returns-in_err-count-clause-err g c =
    on_err _ _ (front_kept _ _ _ _ _ c.loop.invariant c.in_err-count.ensures.err)

pub loop-preserved : goal.loop-preserved
loop-preserved g c =
    let more = writes_more _ _ _ _ c.loop.rest.now c.in_ok-count.count c.loop.invariant
    c.in_ok-count.ensures.ok in
    rw take_rest more

pub returns-clause-err : goal.returns-clause-err
returns-clause-err g c = front_written _ _ _ c.loop.rest.now c.loop.invariant

pub returns-then-is_empty-2-clause-err : goal.returns-then-is_empty-2-clause-err
returns-then-is_empty-2-clause-err g c =
    on_err _ _ (front_kept _ _ _ _ c.loop.rest.now c.loop.invariant c.flush.ensures.keeps)
