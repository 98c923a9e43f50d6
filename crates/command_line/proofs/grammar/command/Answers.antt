-- Each builder's clause, one after the other.
use Rattle.std.proofs.Common.{◌≡◌, ◌∙◌, rules, ap₂, codes}
use Rattle.std.proofs.lemmas.Result.{IfOk-weaker}
use Rattle.clap.specs.Simple.{app_of, shape_of, new_app, on_top, with_subcommand}
use Rattle.command_line.specs.CommandLine.{needing_command, taking_nothing}
use Rattle.command_line.proofs.grammar.command.Goals as goal

pub returns : goal.returns
returns c =
    let top_is : app_of c.subcommand_required.result ≡ on_top needing_command
    (new_app (codes "p9sync")) = search rules in
    let pipe_is : shape_of c.disable_help_flag-2.result ≡ taking_nothing (codes "pipe") =
    search rules in
    let replay_is : shape_of c.disable_help_flag-3.result ≡ taking_nothing (codes "replay") =
    search rules in
    let two_are = c.in_ok-subcommand.ensures.shape (search rules)
    ∙ ap₂ with_subcommand top_is pipe_is in
    let three_are = c.in_ok-subcommand-2.ensures.shape (search rules)
    ∙ ap₂ with_subcommand two_are replay_is in
    IfOk-weaker c.subcommand-3.result _ _
    (λ command adds. adds.shape c.in_ok-threads.ensures.local
    ∙ ap₂ with_subcommand three_are c.in_ok-threads.ensures.shape)
    c.subcommand-3.ensures
