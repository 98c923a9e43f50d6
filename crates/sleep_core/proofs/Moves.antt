-- The rows of the table as moves of the world: what held before, what was done, the world after.
use Rattle.std.proofs.Common.{◌≡◌, ◌≢◌, ◌<◌, ◌≤◌, ◌+◌, ℕ, true, if◌then◌else◌, Option, Some, None}
use Rattle.std.proofs.Common.{length, max}
use Rattle.sync_base.specs.declared.ids.Pid.{Pid}
use Rattle.sync_base.specs.declared.ids.RendezId.{RendezId}
use Rattle.sync_base.specs.declared.note.NoteSet.{NoteSet}
use Rattle.sync_base.specs.NoteSet.{joined}
use Rattle.sleep_core.specs.declared.phase.Phase.{Phase}
use Rattle.sleep_core.specs.declared.phase.Phase.TheVariants as phase
use Rattle.sleep_core.specs.State.{State, phase_of, flags_of, posted_of, level_of, no_flags}
use Rattle.sleep_core.specs.Table.{has_notes}
use Rattle.sleep_core.specs.Step.{with_phase, with_flags, with_posted, with_level, with_returned}
use Rattle.sleep_core.specs.History.{Effect}
use Rattle.sleep_core.specs.History.Effect.{Began, Passed, Fell, Roused, Withdrew, Left, Raised}
use Rattle.sleep_core.specs.History.Effect.{Missed, Took, Marked, Noted, Drained}

-- the phases in which a mark is waited for
abbrev pub IsWaiting : Phase → Type 0
IsWaiting (phase.Asleep rendez level) = Unit {0}
IsWaiting phase.Awaiting = Unit {0}
IsWaiting stage = ⊥

-- the phases in which a sleep is over
abbrev pub IsOver : Phase → Type 0
IsOver phase.Out = Unit {0}
IsOver phase.Woken = Unit {0}
IsOver stage = ⊥

-- what a sleep ends with
abbrev pub ending_notes : NoteSet → Option NoteSet
ending_notes notes = if has_notes notes then Some notes else None

-- a row of the table that was answered: what held before, the effect that it shows, the world after
pub data Move (s : State) : Option Effect → State → Type 0 where
  stays : Move s None s
  post_posted : {pid : ℕ} {rendez : RendezId} {threshold : ℕ} → pid < length s.phases
      → phase_of s pid ≡ phase.Idle → rendez.0 < length s.posted → posted_of s rendez.0 ≡ 0
      → Move s (Some (Began pid rendez.0 threshold))
      (with_phase (with_posted s rendez.0 (pid + 1)) pid (phase.Posted rendez threshold))
  test_leaving : {pid : ℕ} {rendez : RendezId} {threshold : ℕ} → pid < length s.phases
      → phase_of s pid ≡ phase.Posted rendez threshold
      → Move s (Some (Passed pid)) (with_phase s pid (phase.Leaving rendez))
  test_asleep : {pid : ℕ} {rendez : RendezId} {threshold : ℕ} → pid < length s.phases
      → phase_of s pid ≡ phase.Posted rendez threshold → level_of s rendez.0 ≤ threshold
      → Move s (Some (Fell pid)) (with_phase s pid (phase.Asleep rendez threshold))
  look_woken : {pid : ℕ} {stage : Phase} → pid < length s.phases → phase_of s pid ≡ stage
      → IsWaiting stage → (flags_of s pid).wake ≡ true
      → Move s (Some (Roused pid)) (with_phase s pid phase.Woken)
  look_leaving : {pid : ℕ} {rendez : RendezId} {threshold : ℕ} → pid < length s.phases
      → phase_of s pid ≡ phase.Asleep rendez threshold → has_notes (flags_of s pid).notes ≡ true
      → Move s None (with_phase s pid (phase.Leaving rendez))
  withdraw_out : {pid : ℕ} {rendez : RendezId} → pid < length s.phases
      → phase_of s pid ≡ phase.Leaving rendez → posted_of s rendez.0 ≡ pid + 1
      → Move s (Some (Withdrew pid)) (with_phase (with_posted s rendez.0 0) pid phase.Out)
  withdraw_awaiting : {pid : ℕ} {rendez : RendezId} → pid < length s.phases
      → phase_of s pid ≡ phase.Leaving rendez → posted_of s rendez.0 ≢ pid + 1
      → Move s None (with_phase s pid phase.Awaiting)
  clear_ended : {pid : ℕ} {stage : Phase} → pid < length s.phases → phase_of s pid ≡ stage → IsOver
      stage
      → Move s (Some (Left pid (ending_notes (flags_of s pid).notes)))
      (with_phase (with_flags s pid no_flags) pid phase.Idle)
  raise_owing : {pid : ℕ} {rendez : RendezId} {level : ℕ} → pid < length s.phases
      → phase_of s pid ≡ phase.Idle → rendez.0 < length s.levels
      → Move s (Some (Raised pid rendez.0 level))
      (with_phase (with_level s rendez.0 (max (level_of s rendez.0) level)) pid
      (phase.Owing rendez level))
  take_nobody : {pid : ℕ} {rendez : RendezId} {level : ℕ} → pid < length s.phases
      → phase_of s pid ≡ phase.Owing rendez level → posted_of s rendez.0 ≡ 0
      → Move s (Some (Missed pid))
      (with_returned (with_phase s pid phase.Idle)
      (Some (record { rendez = rendez.0; level = level })))
  take_holding : {pid : ℕ} {sleeper : Pid} {rendez : RendezId} {level : ℕ} → pid < length s.phases
      → phase_of s pid ≡ phase.Owing rendez level → posted_of s rendez.0 ≡ sleeper.0 + 1
      → Move s (Some (Took pid sleeper.0))
      (with_phase (with_posted s rendez.0 0) pid (phase.Holding sleeper rendez level))
  mark_marked : {pid : ℕ} {sleeper : Pid} {rendez : RendezId} {level : ℕ} → pid < length s.phases
      → phase_of s pid ≡ phase.Holding sleeper rendez level
      → Move s (Some (Marked pid sleeper.0))
      (with_returned (with_phase
      (with_flags s sleeper.0 (record { wake = true; notes = (flags_of s sleeper.0).notes })) pid
      phase.Idle) (Some (record { rendez = rendez.0; level = level })))
  note_noted : {pid : ℕ} {new : NoteSet} → pid < length s.phases
      → Move s (Some (Noted pid new))
      (with_flags s pid
      (record { wake = (flags_of s pid).wake; notes = joined (flags_of s pid).notes new }))
  drain_notes : {pid : ℕ} → pid < length s.phases → phase_of s pid ≡ phase.Idle
      → Move s (Some (Drained pid (flags_of s pid).notes)) (with_flags s pid no_flags)
