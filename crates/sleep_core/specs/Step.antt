-- One event in a world: its answer and the world after it, by the table. Whether the process exists
-- is tested first, then whether the event can come in its phase, then the refusals of the row.
use Rattle.std.specs.Prelude.{ℕ, max, Bool, true, false, nat_lt, if◌then◌else◌}
use Rattle.std.specs.Prelude.{Option, Some, None, length, slice_set}
use Rattle.sleep_core.specs.declared.event.Event.{Event}
use Rattle.sleep_core.specs.declared.answer.Answer.{Answer}
use Rattle.sleep_core.specs.declared.answer.Answer.TheVariants as answer
use Rattle.sleep_core.specs.declared.phase.Phase.{Phase}
use Rattle.sleep_core.specs.declared.phase.ProcFlags.{ProcFlags}
use Rattle.sleep_core.specs.State.{State, phase_of, flags_of, posted_of, level_of, returned_of}
use Rattle.sleep_core.specs.Table.{Cell, Word, Wakeup, pid_of, number_in, flags_in}
use Rattle.sleep_core.specs.Table.{cell_of, reply, stored, phase_after, returned_by}
use Rattle.sleep_core.specs.Table.Cell.{PostedOf, LevelOf, FlagsOf, NoCell}
use Rattle.sleep_core.specs.Table.Word.{Number, Flags, NoWord}

abbrev pub with_phase : State → ℕ → Phase → State
with_phase state pid stage = record state { phases = slice_set state.phases pid stage }

abbrev pub with_flags : State → ℕ → ProcFlags → State
with_flags state pid flags = record state { flags = slice_set state.flags pid flags }

abbrev pub with_posted : State → ℕ → ℕ → State
with_posted state rendez word = record state { posted = slice_set state.posted rendez word }

abbrev pub with_level : State → ℕ → ℕ → State
with_level state rendez level = record state { levels = slice_set state.levels rendez level }

-- the wakeup has returned, if there is one
abbrev pub with_returned : State → Option Wakeup → State
with_returned state None = state
with_returned state (Some wakeup) =
    let greatest = max (returned_of state wakeup.rendez) wakeup.level in
    record state { returned = slice_set state.returned wakeup.rendez greatest }

-- whether there is such a word
abbrev pub has_cell : State → Cell → Bool
has_cell state (PostedOf rendez) = nat_lt rendez (length state.posted)
has_cell state (LevelOf rendez) = nat_lt rendez (length state.levels)
has_cell state (FlagsOf pid) = nat_lt pid (length state.flags)
has_cell state NoCell = true

abbrev pub word_at : State → Cell → Word
word_at state (PostedOf rendez) = Number (posted_of state rendez)
word_at state (LevelOf rendez) = Number (level_of state rendez)
word_at state (FlagsOf pid) = Flags (flags_of state pid)
word_at state NoCell = NoWord

-- the word is written, if there is something to write
abbrev pub with_word : State → Cell → Option Word → State
with_word state cell None = state
with_word state (PostedOf rendez) (Some word) = with_posted state rendez (number_in word)
with_word state (LevelOf rendez) (Some word) = with_level state rendez (number_in word)
with_word state (FlagsOf pid) (Some word) = with_flags state pid (flags_in word)
with_word state NoCell (Some word) = state

-- the answers that leave the world as it was
abbrev pub is_refusal : Answer → Bool
is_refusal answer.NoProc = true
is_refusal answer.Refused = true
is_refusal answer.NoRendez = true
is_refusal answer.BadLevel = true
is_refusal answer.DoubleSleep = true
is_refusal told = false

-- the answer to a look that found neither the mark nor notes
abbrev pub is_parked : Answer → Bool
is_parked answer.Parked = true
is_parked told = false

-- the answer to an event whose process is in the phase
abbrev pub answer_in : State → Phase → Event → Answer
answer_in state stage event =
    if has_cell state (cell_of event stage)
    then reply event stage (word_at state (cell_of event stage))
    else answer.NoRendez

abbrev pub answer_to : State → Event → Answer
answer_to state event =
    if nat_lt (pid_of event).0 (length state.phases)
    then answer_in state (phase_of state (pid_of event).0) event
    else answer.NoProc

-- the world after an event that got this answer and was not refused
abbrev pub changed_by : State → Phase → Event → Answer → State
changed_by state stage event told =
    let cell = cell_of event stage in
    let written = with_word state cell (stored event stage (word_at state cell)) in
    let moved = with_phase written (pid_of event).0 (phase_after told event stage) in
    with_returned moved (returned_by told event stage)

-- the world after an event that got this answer
abbrev pub world_told : State → Phase → Event → Answer → State
world_told state stage event told =
    if is_refusal told then state else changed_by state stage event told

abbrev pub world_after : State → Event → State
world_after state event =
    world_told state (phase_of state (pid_of event).0) event (answer_to state event)
