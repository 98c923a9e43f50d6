-- Each option's clause, one after the other.
use Rattle.std.proofs.Common.{◌≡◌, ◌∙◌, ◌||◌, rules, ap, ap₂, codes, true, false}
use Rattle.std.proofs.lemmas.Result.{IfOk-weaker}
use Rattle.clap.specs.Simple.{App, app_of, new_app, on_top, with_rule}
use Rattle.clap.specs.Walk.{rule_of}
use Rattle.clap.specs.declared.builder.command.Command.TheViews.{out-Command}
use Rattle.sync_base.specs.declared.limits.TheConstants.{MAX_WRITERS}
use Rattle.sync_base.specs.declared.limits.TheConstants.{LEAST_SIZE, MOST_SIZE, MAX_WRITES}
use Rattle.command_line.specs.CommandLine.{number_between}
use Rattle.command_line.proofs.grammar.threads_command.Goals as goal

pub returns : goal.returns
returns c =
    let none_is : app_of c.disable_help_flag.result
    ≡ on_top (λ s. record s { disable_help_flag = true }) (new_app (codes "threads")) =
    search rules in
    let writers_is : rule_of c.number_option-writers.result
    ≡ number_between 1 MAX_WRITERS (codes "writers") = search rules in
    let writes_is : rule_of c.number_option-writes.result
    ≡ number_between 1 MAX_WRITES (codes "writes") = search rules in
    let size_is : rule_of c.number_option-size.result
    ≡ number_between LEAST_SIZE MOST_SIZE (codes "size") = search rules in
    let one_is = c.in_ok-arg.ensures.shape c.number_option-writers.ensures.local
    ∙ ap₂ with_rule none_is writers_is in
    let two_are = c.in_ok-arg-2.ensures.shape c.number_option-writes.ensures.local
    ∙ ap₂ with_rule one_is writes_is in
    let none_local : (out-Command c.disable_help_flag.result).has_globals ≡ false = search rules in
    let one_local : (out-Command c.in_ok-arg.field-0).has_globals ≡ false =
    c.in_ok-arg.ensures.globals
    ∙ ap₂ (λ a b. a || b) none_local c.number_option-writers.ensures.local in
    let two_local : (out-Command c.in_ok-arg-2.field-0).has_globals ≡ false =
    c.in_ok-arg-2.ensures.globals
    ∙ ap₂ (λ a b. a || b) one_local c.number_option-writes.ensures.local in
    record {
      shape = IfOk-weaker c.arg-3.result _ _
          (λ command adds. ap (λ (a : App). a.top)
          (adds.shape c.number_option-size.ensures.local ∙ ap₂ with_rule two_are size_is))
          c.arg-3.ensures;
      local = IfOk-weaker c.arg-3.result _ _ (λ command adds. adds.globals
          ∙ ap₂ (λ a b. a || b) two_local c.number_option-size.ensures.local)
          c.arg-3.ensures;
    }
