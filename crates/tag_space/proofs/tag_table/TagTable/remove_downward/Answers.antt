-- the entries after the place move down by one slot, over the one that is taken out
use Rattle.std.proofs.Common.{arith}
use Rattle.tag_space.proofs.RunLemmas.{take_down}
use Rattle.tag_space.proofs.tag_table.TagTable.remove_downward.Goals as goal

pub returns-clause-entries : goal.returns-clause-entries
returns-clause-entries c = take_down c.args.self.now.slots.items _ c.args.self.now.first
    c.args.self.now.count c.args.at _ (omega arith) (omega arith) c.requires (omega arith)
    c.copy_within.ensures.by_index.0 c.copy_within.ensures.by_index.1
