-- there is room for the handle of each writer that is left, and all writers before it were started
use Rattle.std.proofs.Common.{◌≡◌, ◌≤◌, ◌+◌, length}
use Rattle.std.specs.Vec.{vec_capacity}
use Rattle.std.specs.Vec.Iter.{into_iter_items}
use Rattle.crew.proofs.threads.start_writers.Given as goal

abbrev pub invariant-loop-writer : goal.invariant-loop-writer
invariant-loop-writer g l =
    (length l.handles.items + length (into_iter_items l.writer-iterator) ≤ vec_capacity l.handles)
    × (length l.handles.items + length (into_iter_items l.writer-iterator)
    ≡ length l.fn.handles.items + length l.fn.writers.items)
