-- How each run that the words ask for ends.
use Rattle.std.proofs.Common.{◌≡◌, rules, map, Some}
use Rattle.command_line.specs.declared.task.Task.TheVariants.{Pipe, Replay}
use Rattle.command_line.specs.CommandLine.{task_asked}
use Rattle.scripts.specs.PipeScript.{pipe_told}
use Rattle.scripts.specs.Schedule.{schedule_told}
use Rattle.commands.proofs.RunLemmas.{ends_as, ends_for_memory, ends_script}
use Rattle.commands.proofs.args.run_args.Goals as goal

pub returns-in-Err-OutOfMemory-clause-runs : goal.returns-in-Err-OutOfMemory-clause-runs
returns-in-Err-OutOfMemory-clause-runs g c =
    ends_for_memory _ _ _ _ c.end-in-Err-OutOfMemory.ensures.status

pub returns-in-Ok-Pipe-clause-runs : goal.returns-in-Ok-Pipe-clause-runs
returns-in-Ok-Pipe-clause-runs g c =
    let asked : task_asked (map g.S.AsStr.text c.args.words.now) ≡ Some Pipe = search rules in
    ends_as _ Pipe _ _ _ _ asked
    (ends_script pipe_told _ _ _ c.run_pipe.result _ c.run_pipe.ensures.told
    c.end.ensures.status)

pub returns-in-Ok-Replay-clause-runs : goal.returns-in-Ok-Replay-clause-runs
returns-in-Ok-Replay-clause-runs g c =
    let asked : task_asked (map g.S.AsStr.text c.args.words.now) ≡ Some Replay = search rules in
    ends_as _ Replay _ _ _ _ asked
    (ends_script schedule_told _ _ _ c.run_replay.result _ c.run_replay.ensures.told
    c.end-in-Ok-Replay.ensures.status)
