-- All words are zero and no pid was given, as the rule has it at the opening.
use Rattle.std.proofs.Common.{rules}
use Rattle.rendez_words.proofs.OpeningKeeps.{opening_keeps}
use Rattle.rendez_words.proofs.words.Words.new.Goals as goal

pub of_words-requires : goal.of_words-requires
of_words-requires c = opening_keeps _ _ (search rules)
