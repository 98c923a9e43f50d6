-- What `get_one` reads of the text that was found.
use Rattle.std.proofs.Common.{◌∙◌, ap}
use Rattle.std.specs.Prelude.{option_and_then}
use Rattle.std.specs.Str.Parse.{ParsesUnsigned, ExplainsUnsignedError, HasUnsignedDigitsIfOk}
use Rattle.clap.specs.Matches.{found_of}
use Rattle.clap.proofs.WalkLemmas.{one_text-rows}
use Rattle.command_line.specs.CommandLine.{number_asked}
use Rattle.command_line.proofs.CommandLemmas.{option_read}
use Rattle.command_line.proofs.task.parse_number.Goals as goal

pub returns : goal.returns
returns c =
    option_read _
    (λ t v. ParsesUnsigned 64 10 t v × ExplainsUnsignedError 10 t v × HasUnsignedDigitsIfOk t v)
    (λ t v given. given.0) _ c.get_one.result c.get_one.ensures.none c.get_one.ensures.value
    ∙ ap (option_and_then number_asked) (one_text-rows (found_of c.args.given.now) c.args.name.now)
