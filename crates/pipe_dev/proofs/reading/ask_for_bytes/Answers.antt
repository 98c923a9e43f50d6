-- A try is what a read asks; each writer was woken with the number of the last write that was taken
-- out.
use Rattle.std.proofs.Common.{sym, ◌∙◌, subst}
use Rattle.block_queue.specs.Seats.{key_of}
use Rattle.waiting.specs.Waiting.{point}
use Rattle.pipe_dev.specs.Filling.{last_number}
use Rattle.pipe_dev.specs.FillSteps.{lending_with}
use Rattle.pipe_dev.specs.Rendezes.{WakesWith}
use Rattle.pipe_dev.proofs.ModeLemmas.{asks_as_found, still_some, told_low}
use Rattle.pipe_dev.proofs.reading.ask_for_bytes.Goals as goal
use Rattle.pipe_dev.proofs.reading.ask_for_bytes.Goals.{in-Some, in_default}

pub returns-clause-room : goal.returns-clause-room
returns-clause-room c =
    still_some c.args.buffer.now c.fill-took.new.buffer c.fill-took.auto.buffer c.requires.room

pub returns-clause-asked : goal.returns-clause-asked
returns-clause-asked c =
    let filled = c.fill-took.ensures.filled in
    let row = c.args.row.now in
    let before = c.args.proc.now.process in
    let last = last_number c.args.state.now.rest filled.fills.filling.parts in
    asks_as_found (key_of c.args.queue.now) row
    (point (lending_with c.args.state.now c.args.buffer.now) c.args.proc.now)
    (point (lending_with c.fill-took.new.state c.fill-took.new.buffer)
    c.match-took.proc)
    c.fill-took.result.came c.found_by.result
    (record {
      fills = filled.fills;
      woken = elim c.match-took.branch [
        | in-Some w ↦ subst (λ p. WakesWith row last before p.process) (sym w.proc-is)
            (subst (λ n. WakesWith row n before w.wake_writers.new.proc.process)
            (sym w.in-Some.is ∙ filled.took)
            w.wake_writers.ensures.woken)
        | in_default w ↦ subst (λ p. WakesWith row last before p.process) (sym w.proc-is)
            (subst (λ n. WakesWith row n before before) (sym w.in_default.is ∙ filled.took)
            (λ i. before))
      ];
    })
    c.found_by.ensures

pub returns-clause-low : goal.returns-clause-low
returns-clause-low c =
    told_low (key_of c.args.queue.now) c.args.row.now
    (point (lending_with c.args.state.now c.args.buffer.now) c.args.proc.now)
    (point (lending_with c.fill-took.new.state c.fill-took.new.buffer)
    c.match-took.proc)
    c.found_by.result c.requires.state.row_is.first (returns-clause-asked c)
