-- How a run that a command line asks for ends.
use Rattle.std.specs.Prelude.{◌≡◌, ◌⊎◌, ⊤, ℕ, List, Bool, true, false}
use Rattle.std.specs.Prelude.{Option, IfSome, Result, Ok, Err}
use Rattle.std.specs.Io.KnownBytes.{Appends}
use Rattle.sync_base.specs.declared.fault.Fault.{Fault}
use Rattle.sync_base.specs.declared.threads_opts.ThreadsOpts.{ThreadsOpts}
use Rattle.commands.specs.declared.args.TheConstants.{GOOD, FAULT}
use Rattle.command_line.specs.declared.task.Task.{Task}
use Rattle.command_line.specs.declared.task.Task.TheVariants.{Pipe, Replay, Threads}
use Rattle.crew.specs.declared.opts.Report.{Report}
use Rattle.scripts.specs.Script.{Transcript}
use Rattle.scripts.specs.Device.{AppendsFront, WritesTranscript}
use Rattle.scripts.specs.PipeScript.{pipe_told}
use Rattle.commands.specs.ReportText.{report_line}
use Rattle.scripts.specs.Schedule.{schedule_told}
use Rattle.crew.specs.Threads.{IsReportOf}

-- the status of a run with this result
abbrev pub status_of : Result (Unit {0}) Fault → ℕ
status_of (Ok done) = GOOD
status_of (Err fault) = FAULT

-- the same for a run on threads, which says whether it was in order
abbrev pub status_of_threads : Result Bool Fault → ℕ
status_of_threads (Ok true) = GOOD
status_of_threads (Ok false) = FAULT
status_of_threads (Err fault) = FAULT

-- A run of a script that says this ended with this status. With the status of a good run, all was
-- written and no line is at fault. With the status of a fault, all was written and a line is at
-- fault, or a prefix was written.
pub record EndsRun (told : Transcript) (old new : Option (List ℕ)) (status : ℕ) : Type 0 where
  pub outcome : Result (Unit {0}) Fault
  pub written : WritesTranscript told old new outcome
  pub status_is : status ≡ status_of outcome

-- A run on threads ended with this status. With the status of a good run its report was in order
-- and was written whole; with the status of a fault a prefix of a report was written, or all of it.
pub record EndsThreads (opts : ThreadsOpts) (old new : Option (List ℕ)) (status : ℕ) : Type 0 where
  pub report : Report
  pub is_report : IsReportOf opts report
  pub ended : ((status ≡ GOOD) × (report.in_order ≡ true) × Appends old new (report_line report))
      ⊎ ((status ≡ FAULT) × AppendsFront old new (report_line report))

-- what such a run does with its input and its output
abbrev pub EndsTask : Task → Option (List ℕ) → Option (List ℕ) → Option (List ℕ) → ℕ → Type 0
EndsTask Pipe unread old new status =
    IfSome unread (λ input. EndsRun (pipe_told input) old new status)
EndsTask Replay unread old new status =
    IfSome unread (λ input. EndsRun (schedule_told input) old new status)
EndsTask (Threads opts) unread old new status = EndsThreads opts old new status

-- the task reads no input
abbrev pub ReadsNothing : Task → Type 0
ReadsNothing (Threads opts) = ⊤
ReadsNothing task = ⊥
