-- The lowest bit is the remainder by two, and the others are the half.
use Rattle.rendez_words.proofs.FlagsLemmas.{lowest, others}
use Rattle.rendez_words.proofs.flags_word.lowest_bit.Goals as goal

pub returns-clause-bit : goal.returns-clause-bit
returns-clause-bit c = λ bit rest is. lowest bit rest _ is

pub returns-clause-rest : goal.returns-clause-rest
returns-clause-rest c = λ bit rest is. others bit rest _ is
