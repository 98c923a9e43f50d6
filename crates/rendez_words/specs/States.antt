-- What the fields of a typed state say of its process.
use Rattle.std.specs.Prelude.{◌≡◌, ◌⊎◌, ⊤, ℕ, Bool, true, false, []}
use Rattle.atomic_table.specs.declared.shared.Seat.{Seat}
use Rattle.sync_base.specs.declared.ids.RendezId.{RendezId}
use Rattle.sleep_core.specs.declared.event.Event.{Event}
use Rattle.sleep_core.specs.declared.event.Event.TheVariants.{Check}
use Rattle.sleep_core.specs.declared.phase.Phase.{Phase}
use Rattle.sleep_core.specs.declared.phase.Phase.TheVariants as phase
use Rattle.sleep_core.specs.declared.phase.ProcFlags.{ProcFlags}
use Rattle.sleep_core.specs.Table.{has_notes}
use Rattle.rendez_words.specs.declared.view.View.{View}
use Rattle.rendez_words.specs.declared.view.View.TheVariants as view
use Rattle.rendez_words.specs.Process.{Process, PidsLeft, phase_in}
use Rattle.rendez_words.specs.Plays.{Seated}
use Rattle.rendez_words.specs.View.{part_in, sleeper_in, raiser_in, next_in}

-- the seat at the table with which steps are made
abbrev pub Stepper : Type 0
Stepper = Seat (Unit {0}) View

abbrev pub process_at : Stepper → ℕ → Process
process_at stepper pid =
    record { table = stepper.table_id; pid = pid; trace = (part_in stepper.me.0).trace }

-- the seat is the seat of this process
abbrev pub IsStepperOf : Stepper → ℕ → Type 0
IsStepperOf stepper pid =
    stepper.me ≡ (view.Process (record { pid = pid; trace = (part_in stepper.me.0).trace }), [])

abbrev pub pids_at : Stepper → PidsLeft
pids_at stepper = record { table = stepper.table_id; next = next_in stepper.me.0 }

-- the seat is the seat of the pids to come, from this pid on
abbrev pub IsStepperOfPids : Stepper → ℕ → Type 0
IsStepperOfPids stepper next = stepper.me ≡ (view.Pids next, [])

abbrev pub IsPosted : Process → RendezId → ℕ → Type 0
IsPosted process rendez threshold = phase_in process ≡ phase.Posted rendez threshold

abbrev pub IsAsleep : Process → RendezId → ℕ → Type 0
IsAsleep process rendez threshold = phase_in process ≡ phase.Asleep rendez threshold

abbrev pub IsOwing : Process → RendezId → ℕ → Type 0
IsOwing process rendez level = phase_in process ≡ phase.Owing rendez level

-- the seat is a joined seat
abbrev pub IsJoined : Seated → Type 0
IsJoined me = me ≡ (view.Joined (sleeper_in me.0) (raiser_in me.0), [])

-- the event is a check, which is never kept
abbrev pub IsUnkept : Event → Type 0
IsUnkept (Check pid) = ⊤
IsUnkept event = ⊥

-- the process waits for its flags: asleep, where notes end the wait too, or for its mark
abbrev pub IsLooking : Bool → Phase → Type 0
IsLooking true (phase.Asleep rendez threshold) = ⊤
IsLooking false phase.Awaiting = ⊤
IsLooking notes_end stage = ⊥

-- the flags end the wait
abbrev pub EndsWait : Bool → ProcFlags → Type 0
EndsWait true flags = (flags.wake ≡ true) ⊎ ((flags.wake ≡ false) × (has_notes flags.notes ≡ true))
EndsWait false flags = flags.wake ≡ true

-- the flags don't end the wait
abbrev pub KeepsWait : Bool → ProcFlags → Type 0
KeepsWait true flags = (flags.wake ≡ false) × (has_notes flags.notes ≡ false)
KeepsWait false flags = flags.wake ≡ false

-- the process ends its sleep next
abbrev pub IsEnding : Phase → Type 0
IsEnding phase.Out = ⊤
IsEnding phase.Woken = ⊤
IsEnding stage = ⊥
