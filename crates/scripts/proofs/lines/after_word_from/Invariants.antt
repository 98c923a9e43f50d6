-- The bytes so far are the word's.
use Rattle.std.proofs.Common.{◌≡◌, take}
use Rattle.scripts.proofs.lines.after_word_from.Given as goal

-- the first bytes of the text are those of the word
abbrev pub invariant-loop-i : goal.invariant-loop-i
invariant-loop-i l = take l.i l.text ≡ take l.i l.word
