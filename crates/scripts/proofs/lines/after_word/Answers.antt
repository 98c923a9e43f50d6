-- A text that is shorter than the word, or has other four bytes first, does not begin with it.
use Rattle.std.proofs.Common.{◌∙◌, length, ap, arith, sym}
use Rattle.std.proofs.Common.{length-append}
use Rattle.scripts.proofs.PartLemmas.{four_begin, four_same}
use Rattle.scripts.proofs.lines.after_word.Goals as goal

pub returns-then-text-word : goal.returns-then-text-word
returns-then-text-word c rest is =
    let long = ap length is ∙ length-append c.args.word.now rest in
    omega (arith, long, c.if-text-word.true)

pub returns-then-first_four : goal.returns-then-first_four
returns-then-first_four c rest is =
    c.if-first_four.true
    (c.first_four.ensures.value
    ∙ (four_begin c.args.text.now c.args.word.now rest (omega arith) is
    ∙ sym c.first_four-2.ensures.value))

pub after_word_from-requires-2-clause-same : goal.after_word_from-requires-2-clause-same
after_word_from-requires-2-clause-same c =
    four_same c.args.text.now c.args.word.now (omega arith) (omega arith) c.first_four.ensures.bytes
    c.first_four-2.ensures.bytes
    (sym c.first_four.ensures.value ∙ (c.if-first_four.false ∙ c.first_four-2.ensures.value))
