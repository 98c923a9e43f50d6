-- The history that a run shows: the effect of each event that was not refused. It is read off the
-- events and their answers alone. It has no words and no phases, so that no flaw of the machine can
-- hide in them.
use Rattle.std.specs.Prelude.{◌≡◌, ◌==◌, ◌⊎◌, ℕ, if◌then◌else◌, Option, Some, None, List, [], ◌∷◌}
use Rattle.std.specs.List.{filter_map}
use Rattle.sync_base.specs.declared.note.NoteSet.{NoteSet}
use Rattle.sleep_core.specs.declared.event.Event.{Event}
use Rattle.sleep_core.specs.declared.event.Event.TheVariants.{Post, Test, Look, Withdraw, Clear}
use Rattle.sleep_core.specs.declared.event.Event.TheVariants.{Raise, Take, Mark, Note, Drain}
use Rattle.sleep_core.specs.declared.answer.Answer.{Answer}
use Rattle.sleep_core.specs.declared.answer.Answer.TheVariants as answer
use Rattle.sleep_core.specs.Table.{Wakeup}
use Rattle.sleep_core.specs.Runs.{Entry}

-- After sleep and wakeup in "Process Sleep and Synchronization on a Shared-Memory Multiprocessor"
-- (1991): a process announces itself, tests its condition and waits; another makes the condition
-- true, takes the process that it finds and readies it. Notes are after notify(2).
pub data Effect : Type 0 where
  -- the process began a sleep in the Rendez, until its level is above this threshold
  Began : (pid rendez threshold : ℕ) → Effect
  -- its test found the condition true
  Passed : (pid : ℕ) → Effect
  -- its test found the condition false
  Fell : (pid : ℕ) → Effect
  -- its look found the mark
  Roused : (pid : ℕ) → Effect
  -- it took itself out of the Rendez
  Withdrew : (pid : ℕ) → Effect
  -- its sleep is over: well, or with these notes
  Left : (pid : ℕ) (notes : Option NoteSet) → Effect
  -- it began a wakeup of the Rendez with this level
  Raised : (pid rendez level : ℕ) → Effect
  -- its wakeup found nobody
  Missed : (pid : ℕ) → Effect
  -- its wakeup took this process out of the Rendez
  Took : (pid sleeper : ℕ) → Effect
  -- its wakeup marked this process
  Marked : (pid sleeper : ℕ) → Effect
  -- these notes came to the process
  Noted : (pid : ℕ) (notes : NoteSet) → Effect
  -- it took these notes outside a sleep
  Drained : (pid : ℕ) (notes : NoteSet) → Effect

-- what the event did with this answer
abbrev pub effect_of : Answer → Event → Option Effect
effect_of answer.Posted (Post pid rendez threshold) = Some (Began pid.0 rendez.0 threshold)
effect_of answer.Leaving (Test pid) = Some (Passed pid.0)
effect_of answer.Asleep (Test pid) = Some (Fell pid.0)
effect_of answer.Woken (Look pid) = Some (Roused pid.0)
effect_of answer.Out (Withdraw pid) = Some (Withdrew pid.0)
effect_of answer.Cleared (Clear pid) = Some (Left pid.0 None)
effect_of (answer.Interrupted notes) (Clear pid) = Some (Left pid.0 (Some notes))
effect_of answer.Owing (Raise pid rendez level) = Some (Raised pid.0 rendez.0 level)
effect_of answer.Nobody (Take pid) = Some (Missed pid.0)
effect_of (answer.Holding sleeper) (Take pid) = Some (Took pid.0 sleeper.0)
effect_of (answer.Marked sleeper) (Mark pid) = Some (Marked pid.0 sleeper.0)
effect_of answer.Noted (Note pid notes) = Some (Noted pid.0 notes)
effect_of (answer.Notes notes) (Drain pid) = Some (Drained pid.0 notes)
effect_of told event = None

-- the history of a run, newest first as the run
abbrev pub history_of : List Entry → List Effect
history_of past = filter_map (λ entry. effect_of entry.answer entry.event) past

-- the newest wakeup that the process began
abbrev pub begun_wakeup : ℕ → List Effect → Option Wakeup
begun_wakeup pid [] = None
begun_wakeup pid (Raised raiser rendez level ∷ past) =
    if raiser == pid
    then Some (record { rendez = rendez; level = level })
    else begun_wakeup pid past
begun_wakeup pid (effect ∷ past) = begun_wakeup pid past

-- a wakeup of the Rendez with this level has returned: it found nobody, or marked the process that
-- it took
abbrev pub HasReturned : List Effect → ℕ → ℕ → Type 0
HasReturned [] rendez level = ⊥
HasReturned (Missed pid ∷ past) rendez level =
    (begun_wakeup pid past ≡ Some (record { rendez = rendez; level = level }))
    ⊎ HasReturned past rendez level
HasReturned (Marked raiser sleeper ∷ past) rendez level =
    (begun_wakeup raiser past ≡ Some (record { rendez = rendez; level = level }))
    ⊎ HasReturned past rendez level
HasReturned (effect ∷ past) rendez level = HasReturned past rendez level
