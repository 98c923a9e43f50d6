-- What one row of the table says of an event that may come: its answer, the word that it touches
-- and the phase of its process afterwards. Everything else stays, by the laws of `Locality`.
use Rattle.std.specs.Prelude.{◌≡◌, ◌<◌, ⊤, length, if◌then◌else◌}
use Rattle.std.specs.Prelude.{Option, Some, None}
use Rattle.sleep_core.specs.declared.event.Event.{Event}
use Rattle.sleep_core.specs.declared.answer.Answer.{Answer}
use Rattle.sleep_core.specs.declared.phase.Phase.{Phase}
use Rattle.sleep_core.specs.State.{State, phase_of}
use Rattle.sleep_core.specs.Table.{Cell, Word, pid_of, cell_of, reply, stored, phase_after}
use Rattle.sleep_core.specs.Table.Cell.{PostedOf, LevelOf, FlagsOf, NoCell}
use Rattle.sleep_core.specs.Step.{word_at, is_refusal, answer_to, world_after}

-- there is such a word
abbrev pub HasWord : State → Cell → Type 0
HasWord state (PostedOf rendez) = rendez < length state.posted
HasWord state (LevelOf rendez) = rendez < length state.levels
HasWord state (FlagsOf pid) = pid < length state.flags
HasWord state NoCell = ⊤

-- the event may come: its process exists, is in this phase, and the word that the row touches
-- exists and is this word
pub record IsDue (state : State) (event : Event) (stage : Phase) (word : Word) : Type 0 where
  pub exists : (pid_of event).0 < length state.phases
  pub in_phase : phase_of state (pid_of event).0 ≡ stage
  pub has_word : HasWord state (cell_of event stage)
  pub is_word : word_at state (cell_of event stage) ≡ word

-- what a word is after a step that may write
abbrev pub word_left : Word → Option Word → Word
word_left word None = word
word_left word (Some new) = new

-- the event gets this answer, leaves this word where it touched one, and leaves its process in this
-- phase
pub record FollowsTable (state : State) (event : Event) (stage : Phase) (told : Answer)
    (word : Word)
    (after : Phase) : Type 0 where
  pub answered : answer_to state event ≡ told
  pub leaves : word_at (world_after state event) (cell_of event stage) ≡ word
  pub moves : phase_of (world_after state event) (pid_of event).0 ≡ after

-- what an event leaves in a word, refused or not
abbrev pub word_after : Event → Phase → Word → Word
word_after event stage word =
    if is_refusal (reply event stage word) then word else word_left word (stored event stage word)

-- Each event that may come does what its row says of the one word and of the phase.
abbrev pub EventsFollowTable : Type 0
EventsFollowTable =
    (state : State) (event : Event) (stage : Phase) (word : Word)
    → IsDue state event stage word
    → FollowsTable state event stage (reply event stage word) (word_after event stage word)
    (phase_after (reply event stage word) event stage)
