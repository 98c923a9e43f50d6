-- The language of schedules: its lines are events, each an atomic step of one process.
use Rattle.std.specs.Prelude.{◌≡◌, ℕ, nat_lt, Bool, true, if◌then◌else◌, List, [], ◌∷◌, ◌++◌, map}
use Rattle.std.specs.Prelude.{codes, Option, None, Some, option_and_then}
use Rattle.std.specs.Option.{option_map, option_map_or}
use Rattle.std.specs.Borrow.{Bor}
use Rattle.sync_base.specs.declared.limits.TheConstants.{MAX_PROCS, MAX_RENDEZ}
use Rattle.sync_base.specs.declared.note.Note.{Note}
use Rattle.sync_base.specs.declared.note.Note.TheVariants.{Interrupt, Hangup, Alarm, ClosedPipe}
use Rattle.sync_base.specs.declared.note.Note.TheVariants.{Expired}
use Rattle.sync_base.specs.declared.note.NoteSet.{NoteSet}
use Rattle.sync_base.specs.declared.ids.Pid.{Pid}
use Rattle.sync_base.specs.NoteSet.{holds, joined, no_notes, only}
use Rattle.sleep_core.specs.declared.event.Event.{Event}
use Rattle.sleep_core.specs.declared.event.Event.TheVariants as event
use Rattle.sleep_core.specs.State.{State, opening}
use Rattle.sleep_core.specs.Runs.{answers_to_all, world_after_all}
use Rattle.sleep_core.specs.LostWakeup.{has_lost_wakeup}
use Rattle.scripts.specs.declared.event_line.Size.{Size}
use Rattle.scripts.specs.declared.event_line.Operands.{Operands}
use Rattle.scripts.specs.declared.event_line.Verb.{Verb}
use Rattle.scripts.specs.declared.event_line.Verb.TheVariants as verb
use Rattle.scripts.specs.declared.lines.TheConstants.{LINE_FEED, COMMA}
use Rattle.scripts.specs.Lines.{parts_of, is_comma, is_word, words_of, number_of, number_within}
use Rattle.scripts.specs.Script.{Answered, Language, Transcript, told}
use Rattle.scripts.specs.EventText.{event_text}

-- these sizes, where both are given
abbrev pub size : Option ℕ → Option ℕ → Option Size
size (Some procs) (Some rendez) = Some (record { procs = procs; rendez = rendez })
size procs rendez = None

-- the line `world PROCS RENDEZ`
abbrev pub size_of : List (List ℕ) → Option Size
size_of (verb ∷ procs ∷ rendez ∷ []) =
    if is_word verb (codes "world")
    then size (number_within 1 MAX_PROCS procs) (number_within 1 MAX_RENDEZ rendez)
    else None
size_of words = None

-- a process alone
abbrev pub lone_pid : List (List ℕ) → Option Pid
lone_pid (pid ∷ []) = option_map (λ n. record { 0 = n }) (number_of pid)
lone_pid words = None

-- these numbers, where all are given
abbrev pub operands : Option ℕ → Option ℕ → Option ℕ → Option Operands
operands (Some pid) (Some rendez) (Some level) =
    Some (record { pid = record { 0 = pid }; rendez = record { 0 = rendez }; level = level })
operands pid rendez level = None

-- a process, a Rendez and a level
abbrev pub operands_of : List (List ℕ) → Option Operands
operands_of (pid ∷ rendez ∷ level ∷ []) =
    operands (number_of pid) (number_of rendez) (number_of level)
operands_of words = None

-- a kind of note
abbrev pub note_named : List ℕ → Option Note
note_named word =
    if is_word word (codes "interrupt") then Some Interrupt
    else if is_word word (codes "hangup") then Some Hangup
    else if is_word word (codes "alarm") then Some Alarm
    else if is_word word (codes "closed") then Some ClosedPipe
    else if is_word word (codes "expired") then Some Expired
    else None

-- this word is the first part of the list, and this follows the comma after it
abbrev pub IsFirst : List ℕ → List ℕ → Option (Bor (List ℕ)) → Type 0
IsFirst word list None = list ≡ word
IsFirst word list (Some rest) = list ≡ word ++ COMMA ∷ rest.now

-- this word is not the first part of the list
pub record IsNotFirst (word list : List ℕ) : Type 0 where
  pub not_alone : ¬ (list ≡ word)
  pub not_before : (rest : List ℕ) → ¬ (list ≡ word ++ COMMA ∷ rest)

-- the set with this kind too, if the set does not have it yet
abbrev pub kind_added : NoteSet → Note → Option NoteSet
kind_added set note = if holds set note then None else Some (joined set (only note))

-- the set with these kinds too, if each of them is new
abbrev pub with_kinds : NoteSet → List (List ℕ) → Option NoteSet
with_kinds set [] = Some set
with_kinds set (word ∷ words) =
    option_and_then
    (λ note. option_and_then (λ more. with_kinds more words) (kind_added set note))
    (note_named word)

-- different kinds with a comma between each two, in any order, or a dash for none
abbrev pub kinds_of : List ℕ → Option NoteSet
kinds_of word =
    if is_word word (codes "-") then Some no_notes else with_kinds no_notes (parts_of is_comma word)

-- these notes to that process, where both are given
abbrev pub note_event : Option ℕ → Option NoteSet → Option Event
note_event (Some pid) (Some notes) = Some (event.Note (record { 0 = pid }) notes)
note_event pid notes = None

-- `note P KINDS`
abbrev pub note_of : List (List ℕ) → Option Event
note_of (pid ∷ kinds ∷ []) = note_event (number_of pid) (kinds_of kinds)
note_of words = None

-- the first word of an event
abbrev pub verb_of : List ℕ → Option Verb
verb_of word =
    if is_word word (codes "post") then Some verb.Post
    else if is_word word (codes "test") then Some verb.Test
    else if is_word word (codes "look") then Some verb.Look
    else if is_word word (codes "withdraw") then Some verb.Withdraw
    else if is_word word (codes "clear") then Some verb.Clear
    else if is_word word (codes "raise") then Some verb.Raise
    else if is_word word (codes "take") then Some verb.Take
    else if is_word word (codes "mark") then Some verb.Mark
    else if is_word word (codes "note") then Some verb.Note
    else if is_word word (codes "drain") then Some verb.Drain
    else if is_word word (codes "check") then Some verb.Check
    else None

-- what follows the first word
abbrev pub event_with : Verb → List (List ℕ) → Option Event
event_with verb.Post words =
    option_map (λ to. event.Post to.pid to.rendez to.level) (operands_of words)
event_with verb.Test words = option_map event.Test (lone_pid words)
event_with verb.Look words = option_map event.Look (lone_pid words)
event_with verb.Withdraw words = option_map event.Withdraw (lone_pid words)
event_with verb.Clear words = option_map event.Clear (lone_pid words)
event_with verb.Raise words =
    option_map (λ to. event.Raise to.pid to.rendez to.level) (operands_of words)
event_with verb.Take words = option_map event.Take (lone_pid words)
event_with verb.Mark words = option_map event.Mark (lone_pid words)
event_with verb.Note words = note_of words
event_with verb.Drain words = option_map event.Drain (lone_pid words)
event_with verb.Check words = option_map event.Check (lone_pid words)

-- a verb that only a process follows
abbrev pub TakesPid : Verb → Type 0
TakesPid verb.Post = ⊥
TakesPid verb.Raise = ⊥
TakesPid verb.Note = ⊥
TakesPid v = Unit {0}

-- a line of one event
abbrev pub event_of : List (List ℕ) → Option Event
event_of [] = None
event_of (word ∷ words) = option_and_then (λ v. event_with v words) (verb_of word)

-- whether a number is above the one before it, if there is one before it
abbrev pub is_above : Option ℕ → ℕ → Bool
is_above None n = true
is_above (Some before) n = nat_lt before n

-- the number that a word spells, if it is above the one before it
abbrev pub next_rising : Option ℕ → List ℕ → Option ℕ
next_rising before word =
    option_and_then (λ n. if is_above before n then Some n else None) (number_of word)

-- numbers that rise strictly, and begin above the one before them
abbrev pub rising_after : Option ℕ → List (List ℕ) → Option (List ℕ)
rising_after before [] = Some []
rising_after before (word ∷ words) =
    option_and_then (λ n. option_map (λ more. n ∷ more) (rising_after (Some n) words))
    (next_rising before word)

-- processes that rise strictly, with a comma between each two
abbrev pub pids_of : List ℕ → Option (List ℕ)
pids_of word = rising_after None (parts_of is_comma word)

-- these notes to each of these processes in turn
abbrev pub notes_to : NoteSet → List ℕ → List Event
notes_to notes pids = map (λ n. event.Note (record { 0 = n }) notes) pids

-- the same, where both are given
abbrev pub group_notes : Option (List ℕ) → Option NoteSet → Option (List Event)
group_notes (Some pids) (Some notes) = Some (notes_to notes pids)
group_notes pids notes = None

-- `notepg PIDS KINDS`: a note to each process of a group
abbrev pub group_of : List (List ℕ) → Option (List Event)
group_of (verb ∷ pids ∷ kinds ∷ []) =
    if is_word verb (codes "notepg") then group_notes (pids_of pids) (kinds_of kinds) else None
group_of words = None

-- a line but the first: one event, or the events of a group
abbrev pub events_of : List (List ℕ) → Option (List Event)
events_of words = option_map_or (λ e. Some (e ∷ [])) (event_of words) (group_of words)

-- the word of a verb
abbrev pub verb_word : Verb → List ℕ
verb_word verb.Post = codes "post"
verb_word verb.Test = codes "test"
verb_word verb.Look = codes "look"
verb_word verb.Withdraw = codes "withdraw"
verb_word verb.Clear = codes "clear"
verb_word verb.Raise = codes "raise"
verb_word verb.Take = codes "take"
verb_word verb.Mark = codes "mark"
verb_word verb.Note = codes "note"
verb_word verb.Drain = codes "drain"
verb_word verb.Check = codes "check"

-- lines with a line feed between each two
abbrev pub joined_lines : List (List ℕ) → List ℕ
joined_lines [] = []
joined_lines (line ∷ []) = line
joined_lines (line ∷ next ∷ lines) = line ++ LINE_FEED ∷ joined_lines (next ∷ lines)

-- the answers to events, a line for each
abbrev pub answer_lines : State → List Event → List (List ℕ)
answer_lines state events = map event_text (answers_to_all state events)

-- the answer to a line that asks for these events
abbrev pub answered : State → List Event → Answered State
answered state events =
    record
    { text = joined_lines (answer_lines state events); after = world_after_all state events }

-- the last line
abbrev pub lost_text : State → List ℕ
lost_text state = if has_lost_wakeup state then codes "lost yes" else codes "lost no"

-- the language: `world PROCS RENDEZ` opens a world, and the closing line says whether a wakeup was
-- lost
abbrev pub schedule_language : Language State
schedule_language =
    record {
      opened_by = λ line. option_map (λ size. opening size.procs size.rendez)
          (size_of (words_of line));
      answer_to = λ state line. option_map (answered state) (events_of (words_of line));
      closing_line = λ state. lost_text state ++ LINE_FEED ∷ [];
    }

-- a world stands for itself
abbrev pub IsWorld : State → State → Type 0
IsWorld world state = world ≡ state

-- what a schedule says, as a function of its bytes
abbrev pub schedule_told : List ℕ → Transcript
schedule_told input = told schedule_language input
