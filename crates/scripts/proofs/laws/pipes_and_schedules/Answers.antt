-- The laws of every language, at these two.
use Rattle.scripts.specs.PipeScript.{pipe_language}
use Rattle.scripts.specs.Schedule.{schedule_language}
use Rattle.scripts.proofs.ScriptLawLemmas.{answers_final, pipe_output_final, fault_keeps}
use Rattle.scripts.proofs.laws.pipes_and_schedules.Goals as goal

pub returns-clause-pipe_output : goal.returns-clause-pipe_output
returns-clause-pipe_output c = pipe_output_final

pub returns-clause-pipe_fault : goal.returns-clause-pipe_fault
returns-clause-pipe_fault c = fault_keeps pipe_language

pub returns-clause-schedule_answers : goal.returns-clause-schedule_answers
returns-clause-schedule_answers c = answers_final schedule_language

pub returns-clause-schedule_fault : goal.returns-clause-schedule_fault
returns-clause-schedule_fault c = fault_keeps schedule_language
