-- What was written, what is held back and what the lines to come say make what all lines say.
use Rattle.std.proofs.Common.{◌+◌, ◌≤◌, ◌||◌, nat_lt, length}
use Rattle.scripts.specs.Lines.{lines_of, cut_line_of}
use Rattle.scripts.specs.Script.{stage, told_from}
use Rattle.scripts.proofs.ScriptLemmas.{GoesOn}
use Rattle.scripts.proofs.script.answer_lines.Given as goal

-- what was written, what is held back and what the lines to come say make what all lines say
abbrev pub invariant-loop-held : goal.invariant-loop-held
invariant-loop-held g l =
    let language = g.S.Script.language in
    let is_cut = l.fn.is_too_long || nat_lt 0 (length (cut_line_of l.fn.lines)) in
    record {
      counted : l.number + length l.rest ≤ 2 + length l.fn.lines;
      goes_on : (s : g.S.Script.State) → g.S.Script.stands_for l.fn.script s
          → GoesOn g.S.Script.stands_for language l.fn.is_too_long (cut_line_of l.fn.lines)
          (told_from language is_cut (stage s 2) (lines_of l.fn.lines))
          (g.W.Write.contents l.fn.writer) (g.W.Write.contents l.writer)
          l.script l.number l.held.items l.rest;
    }

abbrev pub decreases-loop-held : goal.decreases-loop-held
decreases-loop-held g l = length l.rest
