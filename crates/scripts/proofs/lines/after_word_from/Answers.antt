-- A text that has another byte in the place of one of the word's does not begin with it.
use Rattle.std.proofs.Common.{◌∙◌, get_or, ap, arith}
use Rattle.std.proofs.lemmas.List.{get_or_append_left}
use Rattle.scripts.proofs.PartLemmas.{word_and_rest}
use Rattle.scripts.proofs.lines.after_word_from.Goals as goal

pub returns-then-text-i : goal.returns-then-text-i
returns-then-text-i c rest is =
    c.if-text-i.true
    (ap (λ t. get_or t c.loop-i.i 0) is
    ∙ get_or_append_left c.args.word.now rest 0 c.loop-i.i (omega arith))

pub returns : goal.returns
returns c =
    word_and_rest c.args.word.now c.args.text.now c.loop-i.i (omega arith) c.loop-i.invariant
    (omega arith)
