-- no room is left
use Rattle.std.proofs.Common.{◌≡◌, ◌∙◌, sym, arith}
use Rattle.std.proofs.lemmas.Grind.{common_steps}
use Rattle.sync_base.proofs.StreamLemmas.{keeps_all}
use Rattle.sync_base.proofs.plain_pipe.PlainPipe.pass_bytes.Goals as goal

pub returns : goal.returns
returns c =
    let full : c.passing.left ≡ 0 = grind (arith, common_steps) in
    sym (keeps_all c.passing.self c.passing.left full) ∙ c.passing.invariant
