-- The list rises where the processes to come rise after those so far.
use Rattle.std.proofs.Common.{◌≡◌, Some}
use Rattle.std.specs.Option.{is_some}
use Rattle.scripts.specs.Lines.{is_comma, parts_of_rest}
use Rattle.scripts.specs.Schedule.{rising_after}
use Rattle.scripts.proofs.EventLineLemmas.{left_after}
use Rattle.scripts.proofs.group_line.rise.Given as goal

-- the list rises where the processes to come rise above those so far
abbrev pub invariant-loop-rest : goal.invariant-loop-rest
invariant-loop-rest l =
    is_some (rising_after (Some l.before) (parts_of_rest is_comma l.rest))
    ≡ is_some (rising_after (Some l.fn.first) (parts_of_rest is_comma l.fn.others))

abbrev pub decreases-loop-rest : goal.decreases-loop-rest
decreases-loop-rest l = left_after l.rest
