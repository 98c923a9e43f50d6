-- the entries before have smaller tags, and those after what is left have none
use Rattle.tag_space.specs.Table.{IsNarrowed}
use Rattle.tag_space.proofs.table.count_smaller.Given as goal

abbrev pub invariant-quartering : goal.invariant-quartering
invariant-quartering l = IsNarrowed l.table l.tag.0 l.smaller l.left

abbrev pub decreases-quartering : goal.decreases-quartering
decreases-quartering l = l.left

abbrev pub invariant-ending : goal.invariant-ending
invariant-ending l = IsNarrowed l.table l.tag.0 l.smaller l.left

abbrev pub decreases-ending : goal.decreases-ending
decreases-ending l = l.left
