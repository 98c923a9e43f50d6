-- The first number and those that rise after it are the list.
use Rattle.std.proofs.Common.{sym, ◌∙◌}
use Rattle.scripts.specs.declared.lines.TheConstants.{COMMA}
use Rattle.scripts.proofs.GroupLemmas.{list_begins_with_none, list_rises}
use Rattle.scripts.proofs.PartLemmas.{parted}
use Rattle.scripts.proofs.group_line.parse_pids.Goals as goal

pub returns-in_err-first : goal.returns-in_err-first
returns-in_err-first c =
    let first = parted COMMA c.args.word.now in
    rw c.from_residual.ensures
    (list_begins_with_none first.others c.args.word.now first.word first.parts
    (c.in_err-first.ensures.first first.word first.others first.parts))

pub returns : goal.returns
returns c =
    let number = c.in_ok-first.ensures.first in
    list_rises _ _ _ _ number.parts number.spells (sym c.rise.ensures ∙ c.if-not-rise.false)
