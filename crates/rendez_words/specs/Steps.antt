-- What each call adds to the steps of its process.
use Rattle.std.specs.Prelude.{ℕ}
use Rattle.sync_base.specs.declared.ids.Pid.{Pid}
use Rattle.sync_base.specs.declared.ids.RendezId.{RendezId}
use Rattle.sync_base.specs.declared.note.NoteSet.{NoteSet}
use Rattle.sleep_core.specs.declared.event.Event.TheVariants.{Post, Test, Look, Withdraw, Clear}
use Rattle.sleep_core.specs.declared.event.Event.TheVariants.{Raise, Take, Mark, Note, Drain}
use Rattle.sleep_core.specs.declared.answer.Answer.{Answer}
use Rattle.sleep_core.specs.declared.answer.Answer.TheVariants as answer
use Rattle.sleep_core.specs.Table.{ending_of}
use Rattle.rendez_words.specs.Process.{Process, made, pid_in, sleeper_of}

-- the process tried to post itself in the Rendez, and got this answer
abbrev pub posts : Process → RendezId → ℕ → Answer → Process
posts process rendez threshold told = made process (Post (pid_in process) rendez threshold) told

-- it compared the level with its threshold
abbrev pub tests : Process → Answer → Process
tests process told = made process (Test (pid_in process)) told

-- it looked at its flags
abbrev pub looks : Process → Answer → Process
looks process told = made process (Look (pid_in process)) told

-- it tried to take itself out of the Rendez
abbrev pub withdraws : Process → Answer → Process
withdraws process told = made process (Withdraw (pid_in process)) told

-- it ended its sleep, and took these notes
abbrev pub clears : Process → NoteSet → Process
clears process notes = made process (Clear (pid_in process)) (ending_of notes)

-- it raised the level of the Rendez
abbrev pub raises : Process → RendezId → ℕ → Process
raises process rendez level = made process (Raise (pid_in process) rendez level) answer.Owing

-- it found nobody in the Rendez
abbrev pub finds_nobody : Process → Process
finds_nobody process = made process (Take (pid_in process)) answer.Nobody

-- it took this process out of the Rendez
abbrev pub takes : Process → Pid → Process
takes process sleeper = made process (Take (pid_in process)) (answer.Holding sleeper)

-- it marked the process that it held
abbrev pub marks : Process → Process
marks process = made process (Mark (pid_in process)) (answer.Marked (sleeper_of process))

-- it posted these notes to a process
abbrev pub notes : Process → Pid → NoteSet → Process
notes process pid set = made process (Note pid set) answer.Noted

-- it took its notes outside a sleep
abbrev pub drains : Process → NoteSet → Process
drains process set = made process (Drain (pid_in process)) (answer.Notes set)
