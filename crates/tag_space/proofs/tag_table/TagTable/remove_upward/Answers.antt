-- the entries before the place move up by one slot, over the one that is taken out
use Rattle.std.proofs.Common.{arith}
use Rattle.tag_space.proofs.RunLemmas.{take_up}
use Rattle.tag_space.proofs.tag_table.TagTable.remove_upward.Goals as goal

pub returns-clause-entries : goal.returns-clause-entries
returns-clause-entries c = take_up c.args.self.now.slots.items _ c.args.self.now.first
    c.args.self.now.count c.args.at _ (omega arith) (omega arith) c.requires (omega arith)
    c.copy_within.ensures.by_index.0 c.copy_within.ensures.by_index.2
