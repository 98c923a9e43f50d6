-- What was read of the script, and what was written of its answers.
use Rattle.std.proofs.Common.{rules, sym, subst, ap, ◌∙◌, min, Ok, Err}
use Rattle.scripts.specs.declared.script.TheConstants.{MAX_SCRIPT}
use Rattle.sync_base.specs.declared.fault.Fault.TheVariants.{Script}
use Rattle.std.proofs.lemmas.Result.{err_from_is_err_and}
use Rattle.scripts.specs.Device.{IsOutside}
use Rattle.scripts.proofs.DeviceLemmas.{told_of_none, told_partly}
use Rattle.scripts.proofs.ScriptLemmas.{run_of}
use Rattle.scripts.proofs.run.run_script.Goals as goal

-- the reader failed, or memory was refused: nothing is written
pub returns-in_err-input : goal.returns-in_err-input
returns-in_err-input g c =
    let failed = err_from_is_err_and c.from_residual.result c.from_residual.ensures.1 in
    record {
      at_most = search rules;
      reads_first = search rules;
      told = told_of_none g.S.Script.language (g.R.Read.remaining c.args.reader.now) _
          c.from_residual.result failed.0 failed.1
          (subst IsOutside (sym failed.2) c.in_err-input.ensures.faults);
      faults = search rules;
    }

-- the script was read, and its answers were written as far as the writer took them
pub returns-in_err-tell : goal.returns-in_err-tell
returns-in_err-tell g c =
    let input = c.in_ok-input.input in
    let failed = err_from_is_err_and c.from_residual-in_err-tell.result
    c.from_residual-in_err-tell.ensures.1 in
    run_of g.S.Script.language _ input.items c.deref.result.now c.min.result c.len-2.result
    c.from_residual-in_err-tell.result c.in_ok-input.ensures.read c.deref.ensures.value
    (c.min.ensures ∙ ap (λ n. min n MAX_SCRIPT) (c.len.ensures ∙ input.ok.0))
    (c.len-2.ensures ∙ input.ok.0)
    (told_partly _ _ _ c.from_residual-in_err-tell.result failed.0 failed.1
    (subst IsOutside (sym failed.2) c.in_err-tell.ensures.outside) c.in_err-tell.ensures.told)
    (search rules)

pub returns-in-None : goal.returns-in-None
returns-in-None g c =
    let input = c.in_ok-input.input in
    let told = rw c.in-None.is at c.in_ok-tell.ensures.told in
    run_of g.S.Script.language _ input.items c.deref.result.now c.min.result c.len-2.result (Ok tt)
    c.in_ok-input.ensures.read c.deref.ensures.value
    (c.min.ensures ∙ ap (λ n. min n MAX_SCRIPT) (c.len.ensures ∙ input.ok.0))
    (c.len-2.ensures ∙ input.ok.0) (sym told.0, told.1) tt

pub returns : goal.returns
returns g c =
    let input = c.in_ok-input.input in
    let told = rw c.in-Some.is at c.in_ok-tell.ensures.told in
    run_of g.S.Script.language _ input.items c.deref.result.now c.min.result c.len-2.result
    (Err (Script c.in-Some.line)) c.in_ok-input.ensures.read c.deref.ensures.value
    (c.min.ensures ∙ ap (λ n. min n MAX_SCRIPT) (c.len.ensures ∙ input.ok.0))
    (c.len-2.ensures ∙ input.ok.0) (sym told.0, told.1) tt
