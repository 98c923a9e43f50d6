-- What `clap` says of the words, and what they ask for.
use Rattle.std.proofs.Common.{◌≡◌, ◌∙◌, rules, [], ap, sym, map, Some}
use Rattle.std.proofs.lemmas.Result.{err_from_is_err_and}
use Rattle.clap.specs.Simple.{App, subcommand_of}
use Rattle.clap.specs.Walk.{rows_of}
use Rattle.clap.specs.Matches.{found_of}
use Rattle.clap.specs.Takes.{takes}
use Rattle.clap.specs.Faults.{fault_of, is_simple_and_free}
use Rattle.command_line.specs.CommandLine.{command_line}
use Rattle.command_line.proofs.CommandLemmas.{asks_for, line_is_simple, met_of_parts, not_taken}
use Rattle.command_line.proofs.CommandLemmas.{found_is, none_found, only_memory}
use Rattle.command_line.proofs.task.task_of.Goals as goal

pub returns-in_err-matches-clause-refused : goal.returns-in_err-matches-clause-refused
returns-in_err-matches-clause-refused g c =
    let words = map g.S.AsStr.text c.args.words.now in
    let failed = err_from_is_err_and c.from_residual-in_err-matches.result
    c.from_residual-in_err-matches.ensures.1 in
    rw failed.1 (λ refused. not_taken words
    (λ taken. let memory =
    failed.2.1 (c.in_err-matches.ensures.passes
    (ap (λ (a : App). takes a words) c.in_ok-command.ensures ∙ taken)) in absurd (cc))
    (λ none. let memory =
    failed.2.1 (only_memory _ c.in_err-matches.field-0.0
    (c.in_err-matches.ensures.kinds
    (ap is_simple_and_free c.in_ok-command.ensures ∙ line_is_simple))
    (ap (λ (a : App). fault_of a words) c.in_ok-command.ensures ∙ none)) in absurd (cc)))

pub returns-in-Some-clause-task : goal.returns-in-Some-clause-task
returns-in-Some-clause-task g c =
    let words = map g.S.AsStr.text c.args.words.now in
    let rows = rows_of (found_of c.in-Some.given.now) in
    let none : fault_of command_line words ≡ [] = search rules in
    let matches = c.in_ok-matches.ensures.matches (search rules) in
    let met : subcommand_of command_line words ≡ Some (c.in-Some.name.now, rows) =
    ap (λ (a : App). subcommand_of a words) (sym c.in_ok-command.ensures)
    ∙ (sym matches.1
    ∙ met_of_parts _ c.in-Some.name.now rows (sym c.in-Some.ensures.name)
    (sym c.in-Some.ensures.rows)) in
    found_is _ _ c.ok_or.result
    (asks_for words c.in-Some.name.now rows none met ∙ sym c.parse_task.ensures)
    c.ok_or.ensures.value

pub returns-in-Some-clause-refused : goal.returns-in-Some-clause-refused
returns-in-Some-clause-refused g c =
    let words = map g.S.AsStr.text c.args.words.now in
    let rows = rows_of (found_of c.in-Some.given.now) in
    let none : fault_of command_line words ≡ [] = search rules in
    let matches = c.in_ok-matches.ensures.matches (search rules) in
    let met : subcommand_of command_line words ≡ Some (c.in-Some.name.now, rows) =
    ap (λ (a : App). subcommand_of a words) (sym c.in_ok-command.ensures)
    ∙ (sym matches.1
    ∙ met_of_parts _ c.in-Some.name.now rows (sym c.in-Some.ensures.name)
    (sym c.in-Some.ensures.rows)) in
    none_found _ _ c.ok_or.result
    (asks_for words c.in-Some.name.now rows none met ∙ sym c.parse_task.ensures)
    c.ok_or.ensures.value
