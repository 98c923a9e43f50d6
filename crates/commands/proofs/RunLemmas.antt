-- How the runs of the program end, as its status says it.
use Rattle.std.proofs.Common.{◌≡◌, ℕ, List, length, Option, None, Some, refl, sym, subst, inl, inr}
use Rattle.std.proofs.Math.Seq.{take-length}
use Rattle.std.specs.Prelude.{Result, Ok, Err, IfOk, OnErr, IsOk, IfSome, Bool, true, false}
use Rattle.std.specs.Io.KnownBytes.{Appends}
use Rattle.sync_base.specs.declared.fault.Fault.{Fault}
use Rattle.sync_base.specs.declared.fault.Fault.TheVariants.{Memory}
use Rattle.sync_base.specs.declared.threads_opts.ThreadsOpts.{ThreadsOpts}
use Rattle.command_line.specs.declared.task.Task.{Task}
use Rattle.command_line.specs.declared.task.Task.TheVariants.{Pipe, Replay, Threads}
use Rattle.crew.specs.declared.opts.Report.{Report}
use Rattle.crew.specs.Threads.{IsReportOf}
use Rattle.scripts.specs.Device.{AppendsFront, WritesTranscript}
use Rattle.scripts.specs.Script.{Transcript}
use Rattle.scripts.proofs.DeviceLemmas.{appends_nothing}
use Rattle.commands.specs.ReportText.{report_line}
use Rattle.commands.specs.declared.args.TheConstants.{GOOD, FAULT}
use Rattle.commands.specs.Args.{status_of, status_of_threads, EndsRun, EndsTask, EndsThreads}

-- a report of a run in which nothing was read
abbrev nothing_read : ThreadsOpts → Report
nothing_read opts = record { writers = opts.writers; writes = 0; bytes = 0; in_order = false }

-- a report in which nothing was read is one that a run with any options may give
pub no_report : (opts : ThreadsOpts) → IsReportOf opts (nothing_read opts)
no_report opts = record { writers = refl; whole = λ yes. absurd (cc); most = λ yes. absurd (cc) }

-- a run that was out of memory before it began has written nothing
pub ends_for_memory : (asked : Option Task) (input held : Option (List ℕ)) (status : ℕ)
    → status ≡ FAULT
    → IfSome asked (λ task. EndsTask task input held held status)
ends_for_memory None input held status is = tt
ends_for_memory (Some Pipe) None held status is = tt
ends_for_memory (Some Pipe) (Some all) held status is =
    record { outcome = Err Memory; written = (0, appends_nothing held); status_is = is }
ends_for_memory (Some Replay) None held status is = tt
ends_for_memory (Some Replay) (Some all) held status is =
    record { outcome = Err Memory; written = (0, appends_nothing held); status_is = is }
ends_for_memory (Some (Threads opts)) input held status is = record {
  report = nothing_read opts;
  is_report = no_report opts;
  ended = inr (is, (0, appends_nothing held));
}

-- before a report is written nothing is
pub unreported : (opts : ThreadsOpts) (held : Option (List ℕ))
    → (report : Report) × IsReportOf opts report × AppendsFront held held (report_line report)
unreported opts held = (nothing_read opts, no_report opts, (0, appends_nothing held))

-- what was written whole is a front of itself
pub whole_is_front : (old new : Option (List ℕ)) (bytes : List ℕ) → Appends old new bytes
    → AppendsFront old new bytes
whole_is_front old new bytes whole =
    (length bytes, subst (λ b. Appends old new b) (sym (take-length bytes)) whole)

-- a run of a script ends so, where it was asked for
pub ends_script : (told : List ℕ → Transcript) (unread held written : Option (List ℕ))
    (outcome : Result (Unit {0}) Fault) (status : ℕ)
    → IfSome unread (λ input. WritesTranscript (told input) held written outcome)
    → status ≡ status_of outcome
    → IfSome unread (λ input. EndsRun (told input) held written status)
ends_script told None held written outcome status runs is = tt
ends_script told (Some input) held written outcome status runs is =
    record { outcome = outcome; written = runs; status_is = is }

-- a run ends as its task does, where that task is the one that was asked for
pub ends_as : (asked : Option Task) (task : Task) (unread held written : Option (List ℕ))
    (status : ℕ)
    → asked ≡ Some task → EndsTask task unread held written status
    → IfSome asked (λ t. EndsTask t unread held written status)
ends_as asked task unread held written status is ends = rw is ends

-- a run on threads ends as its outcome says
pub ends_threads : (opts : ThreadsOpts) (held written : Option (List ℕ))
    (outcome : Result Bool Fault) (status : ℕ)
    → IfOk outcome (λ good. (report : Report) × IsReportOf opts report
    × (report.in_order ≡ good) × Appends held written (report_line report))
    → OnErr outcome ((report : Report) × IsReportOf opts report
    × AppendsFront held written (report_line report))
    → status ≡ status_of_threads outcome
    → EndsThreads opts held written status
ends_threads opts held written (Ok true) status good failed is = record {
  report = good.0;
  is_report = good.1;
  ended = inl (is, good.2, good.3);
}
ends_threads opts held written (Ok false) status good failed is = record {
  report = good.0;
  is_report = good.1;
  ended = inr (is, whole_is_front held written (report_line good.0) good.3);
}
ends_threads opts held written (Err fault) status good failed is = record {
  report = failed.0;
  is_report = failed.1;
  ended = inr (is, failed.2);
}

-- where it ended well, it had an outcome
pub good_is_ok : (outcome : Result Bool Fault) (status : ℕ)
    → status ≡ status_of_threads outcome → status ≡ GOOD → IsOk outcome
good_is_ok (Ok in_order) status is good = refl
good_is_ok (Err fault) status is good = absurd (cc)
