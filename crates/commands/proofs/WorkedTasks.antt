-- A script is read: that of a pipe, and a schedule.
use Rattle.command_line.specs.declared.task.Task.TheVariants.{Pipe, Replay}
use Rattle.commands.specs.Args.{ReadsNothing}

a_pipe_reads_its_script : ¬ ReadsNothing Pipe
a_pipe_reads_its_script nothing = nothing

a_replay_reads_its_schedule : ¬ ReadsNothing Replay
a_replay_reads_its_schedule nothing = nothing
