-- each step leaves a quarter of the entries to search, and those passed over are all smaller
use Rattle.std.proofs.Common.{arith}
use Rattle.tag_space.proofs.SearchLemmas.{narrowed}
use Rattle.tag_space.proofs.table.count_smaller.Goals as goal

-- a step leaves a quarter
pub quartering-preserved : goal.quartering-preserved
quartering-preserved c =
    let before = c.quartering.invariant in
    let ends = c.count_quarters.ensures in
    narrowed _ c.requires c.args.tag.0 c.quartering.smaller c.quartering.left _ before
    c.count_quarters.result (omega arith) ends
