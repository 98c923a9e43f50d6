-- The table of events, row by row: which word an event touches in a phase, its answer, what it
-- leaves in the word, and the phase of the process after it. An event that no row names is refused.
use Rattle.std.specs.Prelude.{ℕ, max, Bool, true, ◌||◌, ◌==◌, nat_lt, if◌then◌else◌}
use Rattle.std.specs.Prelude.{Option, Some, None}
use Rattle.sync_base.specs.declared.ids.Pid.{Pid}
use Rattle.sync_base.specs.declared.limits.TheConstants.{TOP_LEVEL}
use Rattle.sync_base.specs.declared.note.Note.TheVariants.{Interrupt, Hangup, Alarm, ClosedPipe}
use Rattle.sync_base.specs.declared.note.Note.TheVariants.{Expired}
use Rattle.sync_base.specs.declared.note.NoteSet.{NoteSet}
use Rattle.sync_base.specs.NoteSet.{holds, joined}
use Rattle.sleep_core.specs.declared.event.Event.{Event}
use Rattle.sleep_core.specs.declared.event.Event.TheVariants.{Post, Test, Look, Withdraw, Clear}
use Rattle.sleep_core.specs.declared.event.Event.TheVariants.{Raise, Take, Mark, Note, Drain, Check}
use Rattle.sleep_core.specs.declared.answer.Answer.{Answer}
use Rattle.sleep_core.specs.declared.answer.Answer.TheVariants as answer
use Rattle.sleep_core.specs.declared.phase.Phase.{Phase}
use Rattle.sleep_core.specs.declared.phase.Phase.TheVariants as phase
use Rattle.sleep_core.specs.declared.phase.ProcFlags.{ProcFlags}
use Rattle.sleep_core.specs.State.{no_flags, nobody, posted_as, sleeper_in}

-- the process that the event names
abbrev pub pid_of : Event → Pid
pid_of (Post pid rendez threshold) = pid
pid_of (Test pid) = pid
pid_of (Look pid) = pid
pid_of (Withdraw pid) = pid
pid_of (Clear pid) = pid
pid_of (Raise pid rendez level) = pid
pid_of (Take pid) = pid
pid_of (Mark pid) = pid
pid_of (Note pid notes) = pid
pid_of (Drain pid) = pid
pid_of (Check pid) = pid

-- a place where a word lies
pub data Cell : Type 0 where
  PostedOf : ℕ → Cell
  LevelOf : ℕ → Cell
  FlagsOf : ℕ → Cell
  NoCell : Cell

-- what lies there
pub data Word : Type 0 where
  Number : ℕ → Word
  Flags : ProcFlags → Word
  NoWord : Word

abbrev pub number_in : Word → ℕ
number_in (Number n) = n
number_in word = 0

abbrev pub flags_in : Word → ProcFlags
flags_in (Flags flags) = flags
flags_in word = no_flags

-- whether some note is in the set
abbrev pub has_notes : NoteSet → Bool
has_notes notes =
    holds notes Interrupt || holds notes Hangup || holds notes Alarm || holds notes ClosedPipe
    || holds notes Expired

-- the one word that the event reads and may change
abbrev pub cell_of : Event → Phase → Cell
cell_of (Post pid rendez threshold) phase.Idle = PostedOf rendez.0
cell_of (Test pid) (phase.Posted rendez threshold) = LevelOf rendez.0
cell_of (Look pid) (phase.Asleep rendez threshold) = FlagsOf pid.0
cell_of (Look pid) phase.Awaiting = FlagsOf pid.0
cell_of (Withdraw pid) (phase.Leaving rendez) = PostedOf rendez.0
cell_of (Clear pid) phase.Out = FlagsOf pid.0
cell_of (Clear pid) phase.Woken = FlagsOf pid.0
cell_of (Raise pid rendez level) phase.Idle = LevelOf rendez.0
cell_of (Take pid) (phase.Owing rendez level) = PostedOf rendez.0
cell_of (Mark pid) (phase.Holding sleeper rendez level) = FlagsOf sleeper.0
cell_of (Note pid notes) stage = FlagsOf pid.0
cell_of (Drain pid) phase.Idle = FlagsOf pid.0
cell_of (Check pid) (phase.Asleep rendez threshold) = PostedOf rendez.0
cell_of event stage = NoCell

-- the end of a sleep: well, or with the notes that were pending
abbrev pub ending_of : NoteSet → Answer
ending_of notes = if has_notes notes then answer.Interrupted notes else answer.Cleared

-- the answer, where the word exists
abbrev pub reply : Event → Phase → Word → Answer
reply (Post pid rendez threshold) phase.Idle word =
    if threshold == TOP_LEVEL
    then answer.BadLevel
    else (if number_in word == nobody then answer.Posted else answer.DoubleSleep)
reply (Test pid) (phase.Posted rendez threshold) word =
    if nat_lt threshold (number_in word) then answer.Leaving else answer.Asleep
reply (Look pid) (phase.Asleep rendez threshold) word =
    if (flags_in word).wake
    then answer.Woken
    else (if has_notes (flags_in word).notes then answer.Leaving else answer.Parked)
reply (Look pid) phase.Awaiting word = if (flags_in word).wake then answer.Woken else answer.Parked
reply (Withdraw pid) (phase.Leaving rendez) word =
    if number_in word == posted_as pid.0 then answer.Out else answer.Awaiting
reply (Clear pid) phase.Out word = ending_of (flags_in word).notes
reply (Clear pid) phase.Woken word = ending_of (flags_in word).notes
reply (Raise pid rendez level) phase.Idle word = answer.Owing
reply (Take pid) (phase.Owing rendez level) word =
    if number_in word == nobody
    then answer.Nobody
    else answer.Holding (record { 0 = sleeper_in (number_in word) })
reply (Mark pid) (phase.Holding sleeper rendez level) word = answer.Marked sleeper
reply (Note pid notes) stage word = answer.Noted
reply (Drain pid) phase.Idle word = answer.Notes (flags_in word).notes
reply (Check pid) (phase.Asleep rendez threshold) word =
    if number_in word == posted_as pid.0 then answer.Posted else answer.Released
reply event stage word = answer.Refused

-- what the event writes to the word, if it writes
abbrev pub stored : Event → Phase → Word → Option Word
stored (Post pid rendez threshold) phase.Idle word = Some (Number (posted_as pid.0))
stored (Withdraw pid) (phase.Leaving rendez) word =
    if number_in word == posted_as pid.0 then Some (Number nobody) else None
stored (Clear pid) phase.Out word = Some (Flags no_flags)
stored (Clear pid) phase.Woken word = Some (Flags no_flags)
stored (Raise pid rendez level) phase.Idle word = Some (Number (max (number_in word) level))
stored (Take pid) (phase.Owing rendez level) word = Some (Number nobody)
stored (Mark pid) (phase.Holding sleeper rendez level) word =
    Some (Flags (record { wake = true; notes = (flags_in word).notes }))
stored (Note pid notes) stage word =
    let flags = flags_in word in
    Some (Flags (record { wake = flags.wake; notes = joined flags.notes notes }))
stored (Drain pid) phase.Idle word = Some (Flags no_flags)
stored event stage word = None

-- the phase of the process after this answer to this event, which came in this phase
abbrev pub phase_after : Answer → Event → Phase → Phase
phase_after answer.Posted (Post pid rendez threshold) phase.Idle = phase.Posted rendez threshold
phase_after answer.Leaving (Test pid) (phase.Posted rendez threshold) = phase.Leaving rendez
phase_after answer.Asleep (Test pid) (phase.Posted rendez threshold) = phase.Asleep rendez threshold
phase_after answer.Woken (Look pid) (phase.Asleep rendez threshold) = phase.Woken
phase_after answer.Leaving (Look pid) (phase.Asleep rendez threshold) = phase.Leaving rendez
phase_after answer.Woken (Look pid) phase.Awaiting = phase.Woken
phase_after answer.Out (Withdraw pid) (phase.Leaving rendez) = phase.Out
phase_after answer.Awaiting (Withdraw pid) (phase.Leaving rendez) = phase.Awaiting
phase_after answer.Cleared (Clear pid) stage = phase.Idle
phase_after (answer.Interrupted notes) (Clear pid) stage = phase.Idle
phase_after answer.Owing (Raise pid rendez level) phase.Idle = phase.Owing rendez level
phase_after answer.Nobody (Take pid) (phase.Owing rendez level) = phase.Idle
phase_after (answer.Holding sleeper) (Take pid) (phase.Owing rendez level) =
    phase.Holding sleeper rendez level
phase_after (answer.Marked sleeper) (Mark pid) stage = phase.Idle
phase_after told event stage = stage

-- the arguments of a wakeup
pub record Wakeup : Type 0 where
  pub rendez : ℕ
  pub level : ℕ

-- the wakeup that has returned with this answer: it found nobody, or marked the process that it
-- took
abbrev pub returned_by : Answer → Event → Phase → Option Wakeup
returned_by answer.Nobody (Take pid) (phase.Owing rendez level) =
    Some (record { rendez = rendez.0; level = level })
returned_by (answer.Marked marked) (Mark pid) (phase.Holding sleeper rendez level) =
    Some (record { rendez = rendez.0; level = level })
returned_by told event stage = None
