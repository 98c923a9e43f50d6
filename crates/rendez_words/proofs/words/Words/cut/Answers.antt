-- The seat was joined of two, so it may be cut into them.
use Rattle.std.proofs.Common.{rules, arith}
use Rattle.rendez_words.proofs.SeatKeeps.{cuts}
use Rattle.rendez_words.proofs.words.Words.cut.Goals as goal

pub split_seat-requires : goal.split_seat-requires
split_seat-requires c =
    let least = c.args.self.now.in_range.1.0 in
    let count = c.args.self.now.word_count in
    (search rules, omega arith, cuts _ _ _ _ _ c.requires.joined)
