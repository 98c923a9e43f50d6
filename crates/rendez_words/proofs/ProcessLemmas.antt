-- What a process is after a step.
use Rattle.std.proofs.Common.{◌≡◌, ℕ, true, ◌∷◌, if◌then◌else◌, sym}
use Rattle.std.proofs.Common.{◌∙◌, ap, subst}
use Rattle.atomic_table.specs.Seated.{TableId}
use Rattle.sleep_core.specs.declared.event.Event.{Event}
use Rattle.sleep_core.specs.declared.answer.Answer.{Answer}
use Rattle.sleep_core.specs.declared.phase.Phase.{Phase}
use Rattle.sleep_core.specs.State.{IsPhaseIn, phase_of}
use Rattle.sleep_core.specs.Table.{reply}
use Rattle.sleep_core.specs.Runs.{world_of, is_kept, phase_by}
use Rattle.sleep_core.proofs.OwnEvents.{phase_by-kept_own}
use Rattle.sleep_core.proofs.NoLostWakeup.{runs_are_sound}
use Rattle.rendez_words.specs.declared.view.Part.{Part}
use Rattle.rendez_words.specs.declared.view.Sizes.{Sizes}
use Rattle.rendez_words.specs.declared.words.Words.{Words}
use Rattle.rendez_words.specs.Plays.{part_of, part_after, HasMade}
use Rattle.rendez_words.specs.Process.{Process, made, phase_in}
use Rattle.rendez_words.specs.Words.{IsProcessOf, procs_of, rendez_of}

-- a process is its words, its number and its steps
process_is : (process : Process) (table : TableId) (part : Part) → process.table ≡ table
    → part_of process ≡ part → process ≡ record {
      table = table;
      pid = part.pid;
      trace = part.trace;
    }
process_is process table part table_is part_is =
    λ k. record { table = table_is k; pid = (part_is k).pid; trace = (part_is k).trace }

-- a step that is worth keeping is one more
pub made_is : (sizes : Sizes) (event : Event) (before : Process) (found : ℕ) (after : Process)
    (told : Answer) → after.table ≡ before.table
    → (has : HasMade sizes event (part_of before) found (part_of after))
    → reply event has.stage has.word ≡ told → is_kept told event ≡ true
    → after ≡ made before event told
made_is sizes event before found after told table has is worth =
    process_is after before.table (part_after event (reply event has.stage has.word)
    (part_of before)) table has.after_is
    ∙ ap (λ t. record {
      table = before.table;
      pid = before.pid;
      trace = (part_after event t (part_of before)).trace;
    }) is
    ∙ ap (λ b. record {
      table = before.table;
      pid = before.pid;
      trace =
          if b then record {
            maker = before.pid;
            event = event;
            answer = told;
          } ∷ before.trace else before.trace;
    }) worth

-- the phase of a process names what is there
pub phase_there : (words : Words) (process : Process) → IsProcessOf words process
    → IsPhaseIn (procs_of words) (rendez_of words) (phase_in process)
phase_there words process is =
    let run = is.run in
    let sound = runs_are_sound (procs_of words) (rendez_of words) run.run run.legal in
    let phase_is : phase_of (world_of (procs_of words) (rendez_of words) run.run) process.pid
    ≡ phase_in process =
    sym (phase_by-kept_own (procs_of words) (rendez_of words) run.run run.legal process.pid)
    ∙ ap phase_by (sym run.trace_is) in
    subst (IsPhaseIn (procs_of words) (rendez_of words)) phase_is
    (subst (λ n. IsPhaseIn (procs_of words) n
    (phase_of (world_of (procs_of words) (rendez_of words) run.run) process.pid)) sound.rendez_stay
    (subst (λ n. IsPhaseIn n (Rattle.std.specs.Prelude.length
    (world_of (procs_of words) (rendez_of words) run.run).posted)
    (phase_of (world_of (procs_of words) (rendez_of words) run.run) process.pid)) sound.procs_stay
    (sound.sound.whole.phases process.pid)))

-- a process of these words names in its phase only processes and Rendez that they have
pub in_phase : (words : Words) (process : Process) (stage : Phase) → IsProcessOf words process
    → phase_in process ≡ stage → IsPhaseIn (procs_of words) (rendez_of words) stage
in_phase words process stage is stage_is = subst
    (IsPhaseIn (procs_of words) (rendez_of words)) stage_is (phase_there words process is)

-- a process that is equal to one of these words is one of them
pub same_process : (words : Words) (a b : Process) → a ≡ b → IsProcessOf words b
    → IsProcessOf words a
same_process words a b same is = subst (IsProcessOf words) (sym same) is
