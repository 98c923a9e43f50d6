-- a word too many
use Rattle.std.proofs.Common.{ap, ◌∙◌, sym}
use Rattle.scripts.specs.Lines.{words_of_rest}
use Rattle.scripts.specs.PipeScript.{mode_of}
use Rattle.scripts.proofs.PipeLineLemmas.{mode_of-long}
use Rattle.scripts.proofs.pipe_line.mode_of_rest.Goals as goal

pub returns-then-is_some : goal.returns-then-is_some
returns-then-is_some c =
    sym (ap (λ rest. mode_of (words_of_rest rest)) c.in-Some.is
    ∙ (ap mode_of c.next_word.ensures
    ∙ mode_of-long c.next_word.result.0.now c.next_word.result.1 (sym c.if-is_some.ensures)))
