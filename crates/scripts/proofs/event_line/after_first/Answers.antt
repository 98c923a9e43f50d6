-- After the word the list ends, or a comma stands there; else the word is not its first part.
use Rattle.std.proofs.Common.{[], ◌∷◌, ◌++◌, List, ℕ, append-nil, ap, sym, ◌∙◌}
use Rattle.scripts.specs.declared.lines.TheConstants.{COMMA}
use Rattle.scripts.proofs.KindLemmas.{other_after}
use Rattle.scripts.proofs.event_line.after_first.Goals as goal

pub returns-in_err-rest : goal.returns-in_err-rest
returns-in_err-rest c =
    rw c.from_residual.ensures (record {
      not_alone = λ is. c.in_err-rest.ensures [] (is ∙ sym (append-nil c.args.word.now));
      not_before = λ rest is. c.in_err-rest.ensures (COMMA ∷ rest) is;
    })

pub returns-then-byte-ne-COMMA : goal.returns-then-byte-ne-COMMA
returns-then-byte-ne-COMMA c =
    other_after c.args.word.now c.args.list.now c.byte_after-byte.result.0
    c.byte_after-byte.result.1.now
    (c.in_ok-rest.ensures
    ∙ ap (λ (t : List ℕ). c.args.word.now ++ t) c.byte_after-byte.ensures)
    c.if-byte-ne-COMMA.true

pub returns : goal.returns
returns c =
    c.in_ok-rest.ensures
    ∙ ap (λ (t : List ℕ). c.args.word.now ++ t)
    (rw c.if-byte-ne-COMMA.false at c.byte_after-byte.ensures)
