-- What the core is at one moment: a phase and a word of flags for each process, and for each Rendez
-- the word of its sleeper, its level, and the greatest level whose wakeup has returned.
use Rattle.std.specs.Prelude.{◌≡◌, ◌<◌, ◌≤◌, ◌+◌, ◌-◌, ⊤, ℕ, false}
use Rattle.std.specs.Prelude.{List, [], length, replicate, slice_index, slice_index_or}
use Rattle.sync_base.specs.NoteSet.{no_notes}
use Rattle.sleep_core.specs.declared.phase.Phase.{Phase}
use Rattle.sleep_core.specs.declared.phase.Phase.TheVariants as phase
use Rattle.sleep_core.specs.declared.phase.ProcFlags.{ProcFlags}

-- After "Process Sleep and Synchronization on a Shared-Memory Multiprocessor" (1991), where a
-- Rendez holds the process that sleeps on it. Own: the condition is a level that only rises, and
-- each field is a word that one step changes.
pub record State : Type 0 where
  pub phases : List Phase
  pub flags : List ProcFlags
  -- `nobody`, or `posted_as` the process that is posted in the Rendez
  pub posted : List ℕ
  pub levels : List ℕ
  pub returned : List ℕ

-- the posted word of a Rendez that nobody is in
abbrev pub nobody : ℕ
nobody = 0

-- the posted word of a Rendez that this process is in: its number, plus 1
abbrev pub posted_as : ℕ → ℕ
posted_as pid = pid + 1

-- the process in a posted word
abbrev pub sleeper_in : ℕ → ℕ
sleeper_in word = word - 1

-- no mark and no notes
abbrev pub no_flags : ProcFlags
no_flags = record { wake = false; notes = no_notes }

abbrev pub phase_of : State → ℕ → Phase
phase_of state pid = slice_index_or state.phases pid phase.Idle

abbrev pub flags_of : State → ℕ → ProcFlags
flags_of state pid = slice_index_or state.flags pid no_flags

abbrev pub posted_of : State → ℕ → ℕ
posted_of state rendez = slice_index state.posted rendez

abbrev pub level_of : State → ℕ → ℕ
level_of state rendez = slice_index state.levels rendez

-- the greatest level with which a wakeup of the Rendez has returned
abbrev pub returned_of : State → ℕ → ℕ
returned_of state rendez = slice_index state.returned rendez

-- before the first event nobody sleeps and nothing was raised
abbrev pub opening : ℕ → ℕ → State
opening procs rendez =
    record {
      phases = replicate procs phase.Idle;
      flags = replicate procs no_flags;
      posted = replicate rendez nobody;
      levels = replicate rendez 0;
      returned = replicate rendez 0;
    }

-- what a phase names is in the world
abbrev pub IsPhaseIn : ℕ → ℕ → Phase → Type 0
IsPhaseIn procs rendez phase.Idle = ⊤
IsPhaseIn procs rendez (phase.Posted at threshold) = at.0 < rendez
IsPhaseIn procs rendez (phase.Asleep at threshold) = at.0 < rendez
IsPhaseIn procs rendez (phase.Leaving at) = at.0 < rendez
IsPhaseIn procs rendez phase.Awaiting = ⊤
IsPhaseIn procs rendez phase.Woken = ⊤
IsPhaseIn procs rendez phase.Out = ⊤
IsPhaseIn procs rendez (phase.Owing at level) = at.0 < rendez
IsPhaseIn procs rendez (phase.Holding sleeper at level) = (sleeper.0 < procs) × (at.0 < rendez)

-- a world without the levels with which wakeups have returned: no event and no answer depends on
-- them
abbrev pub bare : State → State
bare state = record state { returned = [] }

-- the rows have one length for processes and one length for Rendez, and whatever they name is in
-- the world
pub record IsWhole (state : State) : Type 0 where
  pub flags : length state.flags ≡ length state.phases
  pub levels : length state.levels ≡ length state.posted
  pub phases : (pid : ℕ)
      → IsPhaseIn (length state.phases) (length state.posted) (phase_of state pid)
  pub posted : (rendez : ℕ) → posted_of state rendez ≤ length state.phases

-- the same holds with the levels that have returned
pub record IsSound (state : State) : Type 0 where
  pub whole : IsWhole state
  pub returned : length state.returned ≡ length state.posted
