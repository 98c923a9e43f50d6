-- What is no state of a process, and what ends no wait: each against one row.
use Rattle.std.proofs.Common.{◌≡◌, ℕ, true, false, true≢false, inl, inr, ap, sym, ◌∙◌, []}
use Rattle.sync_base.specs.declared.ids.RendezId.{RendezId}
use Rattle.sync_base.specs.declared.note.Note.TheVariants.{Alarm}
use Rattle.sync_base.specs.NoteSet.{no_notes, only}
use Rattle.sleep_core.specs.declared.event.Event.TheVariants.{Look}
use Rattle.sleep_core.specs.declared.phase.Phase.TheVariants as phase
use Rattle.rendez_words.specs.declared.view.Part.{Part}
use Rattle.rendez_words.specs.declared.view.View.TheVariants as view
use Rattle.rendez_words.specs.Plays.{Seated}
use Rattle.rendez_words.specs.Process.{Process}
use Rattle.rendez_words.specs.States.{IsPosted, IsAsleep, IsOwing, EndsWait, KeepsWait, IsUnkept}
use Rattle.rendez_words.specs.States.{IsLooking, IsEnding, IsJoined, Stepper, IsStepperOf}
use Rattle.rendez_words.specs.States.{IsStepperOfPids}
use Rattle.rendez_words.specs.View.{part_in, unused_part}

-- ---- states

-- a process that has made no step is in no state of a sleep or of a wakeup
module _ (process : Process) (rendez : RendezId) where
  abbrev fresh : Process
  fresh = record process { trace = [] }

  who_made_no_step_is_not_posted : ¬ IsPosted fresh rendez 0
  who_made_no_step_is_not_posted it = let no : phase.Idle ≡ phase.Posted rendez 0 = it in cc

  who_made_no_step_is_not_asleep : ¬ IsAsleep fresh rendez 0
  who_made_no_step_is_not_asleep it = let no : phase.Idle ≡ phase.Asleep rendez 0 = it in cc

  who_made_no_step_owes_nothing : ¬ IsOwing fresh rendez 0
  who_made_no_step_owes_nothing it = let no : phase.Idle ≡ phase.Owing rendez 0 = it in cc

  who_is_asleep_waits_for_no_mark : ¬ IsLooking false (phase.Asleep rendez 0)
  who_is_asleep_waits_for_no_mark it = it

  who_is_asleep_ends_no_sleep : ¬ IsEnding (phase.Asleep rendez 0)
  who_is_asleep_ends_no_sleep it = it

a_look_is_kept : ¬ IsUnkept (Look (record { 0 = 1 }))
a_look_is_kept it = it

-- ---- seats

a_seat_of_one_process_is_not_joined : (part : Part) → ¬ IsJoined (view.Process part, [])
a_seat_of_one_process_is_not_joined part it =
    let no : view.Process part ≡ view.Joined (unused_part 0) (unused_part 0) =
    ap (λ (me : Seated). me.0) it in
    cc

a_seat_of_pids_to_come_is_of_no_process : (stepper : Stepper) (next : ℕ)
    → IsStepperOfPids stepper next → ¬ IsStepperOf stepper 1
a_seat_of_pids_to_come_is_of_no_process stepper next pids process =
    let no : view.Pids next
    ≡ view.Process (record { pid = 1; trace = (part_in stepper.me.0).trace }) =
    ap (λ (me : Seated). me.0) (sym pids ∙ process) in
    cc

-- ---- waits

-- with no flags set a wait goes on, and notes end that of a sleeper alone
nothing_ends_no_wait : ¬ EndsWait true (record { wake = false; notes = no_notes })
nothing_ends_no_wait (inl woken) = true≢false (sym woken)
nothing_ends_no_wait (inr noted) = true≢false (sym noted.1)

notes_end_no_wait_for_a_mark : ¬ EndsWait false (record { wake = false; notes = only Alarm })
notes_end_no_wait_for_a_mark woken = true≢false (sym woken)

no_sleep_goes_on_with_notes : ¬ KeepsWait true (record { wake = false; notes = only Alarm })
no_sleep_goes_on_with_notes keeps = true≢false keeps.1

no_wait_goes_on_after_a_mark : ¬ KeepsWait false (record { wake = true; notes = no_notes })
no_wait_goes_on_after_a_mark keeps = true≢false keeps
