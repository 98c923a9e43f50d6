-- A number below 10 is its digit.
use Rattle.std.proofs.Common.{arith}
use Rattle.std.proofs.lemmas.Grind.{common_steps}
use Rattle.std.proofs.lemmas.Fmt.{decimal_digit}
use Rattle.scripts.proofs.event_text.push_with_number.Goals as goal

pub returns-then-number-lt10 : goal.returns-then-number-lt10
returns-then-number-lt10 c =
    grind (arith, common_steps, decimal_digit c.args.number c.if-number-lt10.true)
