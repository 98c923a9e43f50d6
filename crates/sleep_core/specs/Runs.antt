-- Runs: a list of events, one after another, and what the steps of many processes add up to.
use Rattle.std.specs.Prelude.{◌≡◌, ◌==◌, ⊤, ℕ, Bool, true, false, List, [], ◌∷◌, filter}
use Rattle.sleep_core.specs.declared.event.Event.{Event}
use Rattle.sleep_core.specs.declared.event.Event.TheVariants.{Note, Check}
use Rattle.sleep_core.specs.declared.answer.Answer.{Answer}
use Rattle.sleep_core.specs.declared.answer.Answer.TheVariants as answer
use Rattle.sleep_core.specs.declared.phase.Phase.{Phase}
use Rattle.sleep_core.specs.declared.phase.Phase.TheVariants as phase
use Rattle.sleep_core.specs.State.{State, opening}
use Rattle.sleep_core.specs.Table.{pid_of, phase_after}
use Rattle.sleep_core.specs.Step.{answer_to, world_after}

-- the answers to a list of events, one for each
abbrev pub answers_to_all : State → List Event → List Answer
answers_to_all state [] = []
answers_to_all state (event ∷ events) =
    answer_to state event ∷ answers_to_all (world_after state event) events

-- the world after all of them
abbrev pub world_after_all : State → List Event → State
world_after_all state [] = state
world_after_all state (event ∷ events) = world_after_all (world_after state event) events

-- one step of a run: its maker, its event, and its answer
pub record Entry : Type 0 where
  pub maker : ℕ
  pub event : Event
  pub answer : Answer

-- each process makes its own events; a note may be posted by anybody
abbrev pub IsMadeBy : ℕ → Event → Type 0
IsMadeBy maker (Note pid notes) = ⊤
IsMadeBy maker event = (pid_of event).0 ≡ maker

-- the world after a run; runs are written newest first
abbrev pub world_of : ℕ → ℕ → List Entry → State
world_of procs rendez [] = opening procs rendez
world_of procs rendez (entry ∷ past) = world_after (world_of procs rendez past) entry.event

-- the entry may come next in this world
pub record IsNext (state : State) (entry : Entry) : Type 0 where
  pub made : IsMadeBy entry.maker entry.event
  pub answered : entry.answer ≡ answer_to state entry.event

-- A run from the opening world: each event was answered by the table, in the world that the events
-- before it left.
abbrev pub IsRun : ℕ → ℕ → List Entry → Type 0
IsRun procs rendez [] = ⊤
IsRun procs rendez (entry ∷ past) =
    IsRun procs rendez past × IsNext (world_of procs rendez past) entry

-- an event in a world, made by the process that it names
abbrev pub entry_of : State → Event → Entry
entry_of state event =
    record { maker = (pid_of event).0; event = event; answer = answer_to state event }

-- the run that a list of events gives, after a past
abbrev pub run_of : State → List Entry → List Event → List Entry
run_of state past [] = past
run_of state past (event ∷ events) =
    run_of (world_after state event) (entry_of state event ∷ past) events

-- what a process itself has done
abbrev pub own : ℕ → List Entry → List Entry
own pid past = filter (λ entry. entry.maker == pid) past

-- Whether the step is worth keeping: a check, a look that found nothing and all refusals but one
-- are not. Own: a second sleeper needs to know that it was refused.
abbrev pub is_kept : Answer → Event → Bool
is_kept answer.Posted (Check pid) = false
is_kept answer.Released event = false
is_kept answer.Parked event = false
is_kept answer.NoProc event = false
is_kept answer.Refused event = false
is_kept answer.NoRendez event = false
is_kept answer.BadLevel event = false
is_kept told event = true

abbrev pub kept : List Entry → List Entry
kept past = filter (λ entry. is_kept entry.answer entry.event) past

-- the phase of a process, from its own events with their answers alone
abbrev pub phase_by : List Entry → Phase
phase_by [] = phase.Idle
phase_by (entry ∷ past) = phase_after entry.answer entry.event (phase_by past)
