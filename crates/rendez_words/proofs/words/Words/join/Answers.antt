-- Both seats are of one process each and hold no slot, so they may be joined.
use Rattle.std.proofs.Common.{rules, arith, ap}
use Rattle.rendez_words.proofs.SeatKeeps.{joins}
use Rattle.rendez_words.proofs.words.Words.join.Goals as goal

pub join_seat-requires : goal.join_seat-requires
join_seat-requires c =
    let least = c.args.self.now.in_range.1.0 in
    let count = c.args.self.now.word_count in (
      search rules,
      search rules,
      ap (λ me. me.1) c.requires.second,
      omega arith,
      joins _ _ _ _ _ _ _
          c.requires.first c.requires.second,
    )
