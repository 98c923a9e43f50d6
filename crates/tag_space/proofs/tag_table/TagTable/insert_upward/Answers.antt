-- the entries from the place on move up by one slot, which leaves room for the new one there
use Rattle.std.proofs.Common.{arith}
use Rattle.tag_space.proofs.RunLemmas.{put_up}
use Rattle.tag_space.proofs.tag_table.TagTable.insert_upward.Goals as goal

pub returns-clause-entries : goal.returns-clause-entries
returns-clause-entries c = put_up c.args.self.now.slots.items _ c.args.self.now.first
    c.args.self.now.count c.args.at _ (omega arith) (omega arith) c.args.entry c.requires.room
    c.requires.at (omega arith) c.copy_within.ensures.by_index.0 c.copy_within.ensures.by_index.1
