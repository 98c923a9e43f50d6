-- Before the first line feed stands the first line and after it the others; else there is no line.
use Rattle.std.proofs.Common.{sym}
use Rattle.scripts.proofs.LineLemmas.{lines_of-at, cut_line_of-at, lines_of-missing}
use Rattle.scripts.proofs.LineLemmas.{cut_line_of-missing}
use Rattle.scripts.proofs.lines.next_line.Goals as goal

pub returns-in-None-clause-lines : goal.returns-in-None-clause-lines
returns-in-None-clause-lines c = lines_of-missing c.args.text.now (sym c.in-None.ensures)

pub returns-in-None-clause-cut : goal.returns-in-None-clause-cut
returns-in-None-clause-cut c = cut_line_of-missing c.args.text.now (sym c.in-None.ensures)

pub returns-in-Some-clause-lines : goal.returns-in-Some-clause-lines
returns-in-Some-clause-lines c = lines_of-at c.args.text.now c.in-Some.end (sym c.in-Some.ensures)

pub returns-in-Some-clause-cut : goal.returns-in-Some-clause-cut
returns-in-Some-clause-cut c = cut_line_of-at c.args.text.now c.in-Some.end (sym c.in-Some.ensures)
