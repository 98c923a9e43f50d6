-- How little one event reads and changes.
use Rattle.std.specs.Prelude.{◌≡◌, ◌≢◌, ℕ, List, length, IfSome}
use Rattle.sleep_core.specs.declared.event.Event.{Event}
use Rattle.sleep_core.specs.declared.phase.Phase.{Phase}
use Rattle.sleep_core.specs.State.{State, phase_of, returned_of}
use Rattle.sleep_core.specs.Table.{Cell, pid_of, cell_of, returned_by}
use Rattle.sleep_core.specs.Step.{word_at, answer_to, world_after}
use Rattle.sleep_core.specs.Runs.{Entry, IsRun, world_of, own, kept, phase_by}

-- the two worlds have equally many processes and Rendez
pub record HaveOneSize (a b : State) : Type 0 where
  pub phases : length a.phases ≡ length b.phases
  pub flags : length a.flags ≡ length b.flags
  pub posted : length a.posted ≡ length b.posted
  pub levels : length a.levels ≡ length b.levels

-- the phase of the process that the event names
abbrev pub stage_at : State → Event → Phase
stage_at state event = phase_of state (pid_of event).0

-- the one word that the event reads and may change
abbrev pub cell_at : State → Event → Cell
cell_at state event = cell_of event (stage_at state event)

-- ranges aside, the answer depends on one word and on the phase of the process named
abbrev pub AnswersByOneWord : Type 0
AnswersByOneWord =
    (a b : State) (event : Event)
    → HaveOneSize a b
    → stage_at a event ≡ stage_at b event
    → word_at a (cell_at a event) ≡ word_at b (cell_at a event)
    → answer_to a event ≡ answer_to b event

-- each other word stays
abbrev pub KeepsOtherWords : Type 0
KeepsOtherWords =
    (state : State) (event : Event) (cell : Cell)
    → cell ≢ cell_at state event
    → word_at (world_after state event) cell ≡ word_at state cell

-- each other phase stays
abbrev pub KeepsOtherPhases : Type 0
KeepsOtherPhases =
    (state : State) (event : Event) (pid : ℕ)
    → pid ≢ (pid_of event).0
    → phase_of (world_after state event) pid ≡ phase_of state pid

-- no wakeup of the Rendez returns with the event
abbrev pub ReturnsElsewhere : State → Event → ℕ → Type 0
ReturnsElsewhere state event rendez =
    let told = answer_to state event in
    IfSome (returned_by told event (stage_at state event)) (λ wakeup. wakeup.rendez ≢ rendez)

-- a returned level stays, unless a wakeup of that Rendez returns with this very event
abbrev pub KeepsOtherReturned : Type 0
KeepsOtherReturned =
    (state : State) (event : Event) (rendez : ℕ)
    → ReturnsElsewhere state event rendez
    → returned_of (world_after state event) rendez ≡ returned_of state rendez

-- after every run the phase of each process is what its own events with their answers give
abbrev pub PhaseByOwnEvents : Type 0
PhaseByOwnEvents =
    (procs rendez : ℕ) (past : List Entry)
    → IsRun procs rendez past
    → (pid : ℕ)
    → phase_by (own pid past) ≡ phase_of (world_of procs rendez past) pid

-- and what its kept events give
abbrev pub PhaseByKeptEvents : Type 0
PhaseByKeptEvents =
    (procs rendez : ℕ) (past : List Entry)
    → IsRun procs rendez past
    → (pid : ℕ)
    → phase_by (kept (own pid past)) ≡ phase_of (world_of procs rendez past) pid
