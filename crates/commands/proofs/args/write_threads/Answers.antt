-- Where nothing was written, a front of a report was: none of it.
use Rattle.std.proofs.lemmas.Result.{err_from_is_err_and}
use Rattle.commands.proofs.RunLemmas.{unreported}
use Rattle.commands.proofs.args.write_threads.Goals as goal

pub returns-in_err-report-clause-failed : goal.returns-in_err-report-clause-failed
returns-in_err-report-clause-failed g c =
    let failed = err_from_is_err_and c.from_residual.result c.from_residual.ensures.1 in
    rw failed.1 (unreported _ _)

pub returns-in_err-push_report-clause-failed : goal.returns-in_err-push_report-clause-failed
returns-in_err-push_report-clause-failed g c =
    let failed = err_from_is_err_and c.from_residual-in_err-push_report.result
    c.from_residual-in_err-push_report.ensures.1 in
    rw failed.1 (unreported _ _)
