-- What the loop over the other processes keeps.
use Rattle.std.proofs.Common.{◌≡◌, List, ℕ, Some}
use Rattle.scripts.specs.Lines.{is_comma, parts_of_rest}
use Rattle.scripts.specs.GroupNote.{listed}
use Rattle.scripts.proofs.EventLineLemmas.{left_after}
use Rattle.scripts.proofs.GroupLemmas.{Posting}
use Rattle.scripts.proofs.schedule.post_each.Given as goal

-- the notes posted so far and those to come are the notes to all
abbrev pub invariant-loop-rest : goal.invariant-loop-rest
invariant-loop-rest l =
    (pids : List ℕ) → listed l.fn.group.pids ≡ Some pids → Posting l.fn.group.notes pids
    l.fn.world l.world l.fn.output.items l.output.items (parts_of_rest is_comma l.rest)

abbrev pub decreases-loop-rest : goal.decreases-loop-rest
decreases-loop-rest l = left_after l.rest
