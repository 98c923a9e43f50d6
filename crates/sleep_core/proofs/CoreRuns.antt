-- What every run keeps, by induction over the run.
use Rattle.std.proofs.Common.{◌≡◌, ◌+◌, ℕ, zero, suc, true, false, Option, List, [], ◌∷◌, length}
use Rattle.std.proofs.Common.{get_or, refl, sym, ◌∙◌, ap, subst, arith}
use Rattle.std.specs.Prelude.{replicate}
use Rattle.std.specs.List.{cons_option}
use Rattle.std.proofs.lemmas.List.{length-replicate}
use Rattle.sync_base.specs.declared.ids.RendezId.{RendezId}
use Rattle.sleep_core.specs.declared.phase.Phase.TheVariants as phase
use Rattle.sleep_core.specs.declared.phase.ProcFlags.{ProcFlags}
use Rattle.sleep_core.specs.State.{State, IsPhaseIn, opening, phase_of, flags_of, posted_of}
use Rattle.sleep_core.specs.State.{no_flags}
use Rattle.sleep_core.specs.Step.{world_after}
use Rattle.sleep_core.specs.Runs.{Entry, IsRun, world_of}
use Rattle.sleep_core.specs.History.{Effect, effect_of, history_of}
use Rattle.sleep_core.specs.Promises.{HasFallen}
use Rattle.sleep_core.proofs.CoreInvariant.{Fits, Core}
use Rattle.sleep_core.proofs.Moves.{Move}
use Rattle.sleep_core.proofs.Moves.Move.{stays, post_posted, test_leaving, test_asleep, look_woken}
use Rattle.sleep_core.proofs.Moves.Move.{look_leaving, withdraw_out, withdraw_awaiting, clear_ended}
use Rattle.sleep_core.proofs.Moves.Move.{raise_owing, take_nobody, take_holding, mark_marked}
use Rattle.sleep_core.proofs.Moves.Move.{note_noted, drain_notes}
use Rattle.sleep_core.proofs.TableMoves.{table_moves}
use Rattle.sleep_core.proofs.SleeperKeeps.{post_keeps, test_leaving_keeps, test_asleep_keeps}
use Rattle.sleep_core.proofs.SleeperKeeps.{look_woken_keeps, look_leaving_keeps}
use Rattle.sleep_core.proofs.SleeperKeeps.{withdraw_awaiting_keeps}
use Rattle.sleep_core.proofs.LeaverKeeps.{withdraw_out_keeps, clear_keeps}
use Rattle.sleep_core.proofs.RaiserKeeps.{raise_keeps, take_nobody_keeps, take_holding_keeps}
use Rattle.sleep_core.proofs.RaiserKeeps.{mark_keeps}
use Rattle.sleep_core.proofs.NotesKeep.{note_keeps, drain_keeps}

-- at the opening every entry is the same
pub get_or-replicate_same : {X : Type 0} (n i : ℕ) (x : X) → get_or (replicate n x) i x ≡ x
get_or-replicate_same zero i x = refl
get_or-replicate_same (suc n) zero x = refl
get_or-replicate_same (suc n) (suc i) x = get_or-replicate_same n i x

core_at_opening : (procs rendez : ℕ) → Core (opening procs rendez) []
core_at_opening procs rendez =
    record {
      sound = record {
        whole = record {
          flags = length-replicate procs no_flags ∙ sym (length-replicate procs phase.Idle);
          levels = refl;
          phases = λ pid.
              subst (IsPhaseIn (length s.phases) (length s.posted)) (sym (idle pid)) tt;
          posted = λ r. omega (arith, free r);
        };
        returned = refl;
      };
      fits = λ pid. subst (Fits s [] pid) (sym (idle pid)) refl;
      posted = λ r pid posted. absurd (omega (arith, free r, posted));
      marked = λ pid wake. absurd (not_marked pid wake);
      low = λ r. omega arith;
      returned = λ r level returned. absurd returned;
      still_in = λ pid r level still. absurd still;
      fallen = λ pid r level fell. absurd fell;
      notes = λ pid. ap (λ (f : ProcFlags). f.notes) (get_or-replicate_same procs pid no_flags);
      marks_due = tt;
      notes_right = tt;
      caused = tt;
    }
  where
    s : State
    s = opening procs rendez

    idle : (pid : ℕ) → phase_of s pid ≡ phase.Idle
    idle pid = get_or-replicate_same procs pid phase.Idle

    free : (r : ℕ) → posted_of s r ≡ 0
    free r = get_or-replicate_same rendez r 0

    not_marked : (pid : ℕ) → (flags_of s pid).wake ≡ true → ⊥
    not_marked pid wake =
        let unmarked : (flags_of s pid).wake
        ≡ false = ap (λ (f : ProcFlags). f.wake) (get_or-replicate_same procs pid no_flags) in
        cc

-- every move keeps it
core_kept : (s : State) (h : List Effect) {effect : Option Effect} {after : State}
    → Move s effect after
    → Core s h → Core after (cons_option effect h)
core_kept s h stays core = core
core_kept s h (post_posted {pid = pid} {rendez = rendez} {threshold = threshold} in_range idle there
    free) core =
    post_keeps s h pid rendez threshold in_range idle there free core
core_kept s h (test_leaving {pid = pid} {rendez = rendez} {threshold = threshold} in_range at) core
    =
    test_leaving_keeps s h pid rendez threshold in_range at core
core_kept s h (test_asleep {pid = pid} {rendez = rendez} {threshold = threshold} in_range at low)
    core =
    test_asleep_keeps s h pid rendez threshold in_range at low core
core_kept s h (look_woken {pid = pid} {stage = stage} in_range at waiting wake) core =
    look_woken_keeps s h pid in_range wake core
core_kept s h (look_leaving {pid = pid} {rendez = rendez} {threshold = threshold} in_range at noted)
    core =
    look_leaving_keeps s h pid rendez threshold in_range at noted core
core_kept s h (withdraw_out {pid = pid} {rendez = rendez} in_range at mine) core =
    withdraw_out_keeps s h pid rendez in_range at mine core
core_kept s h (withdraw_awaiting {pid = pid} {rendez = rendez} in_range at other) core =
    withdraw_awaiting_keeps s h pid rendez in_range at other core
core_kept s h (clear_ended {pid = pid} {stage = stage} in_range at over) core =
    clear_keeps s h pid stage in_range at over core
core_kept s h (raise_owing {pid = pid} {rendez = rendez} {level = level} in_range idle there) core =
    raise_keeps s h pid rendez level in_range idle there core
core_kept s h (take_nobody {pid = pid} {rendez = rendez} {level = level} in_range at free) core =
    take_nobody_keeps s h pid rendez level in_range at free core
core_kept s h (take_holding {pid = pid} {sleeper = sleeper} {rendez = rendez} {level = level}
    in_range at
    posted) core =
    take_holding_keeps s h pid sleeper rendez level in_range at posted core
core_kept s h (mark_marked {pid = pid} {sleeper = sleeper} {rendez = rendez} {level = level}
    in_range at)
    core =
    mark_keeps s h pid sleeper rendez level in_range at core
core_kept s h (note_noted {pid = pid} {new = new} in_range) core = note_keeps s h pid new in_range
    core
core_kept s h (drain_notes {pid = pid} in_range idle) core = drain_keeps s h pid in_range idle core

-- every run keeps it
pub core_of_run : (procs rendez : ℕ) (past : List Entry) → IsRun procs rendez past
    → Core (world_of procs rendez past) (history_of past)
core_of_run procs rendez [] run = core_at_opening procs rendez
core_of_run procs rendez (entry ∷ past) run =
    subst (λ told. Core (world_after (world_of procs rendez past) entry.event)
    (cons_option (effect_of told entry.event) (history_of past))) (sym run.1.answered)
    (core_kept (world_of procs rendez past) (history_of past)
    (table_moves (world_of procs rendez past) entry.event) (core_of_run procs rendez past run.0))

-- whoever is asleep and posted has fallen asleep in this sleep
pub fallen_at : (s : State) (h : List Effect) (pid : ℕ) (rendez : RendezId) (threshold : ℕ)
    → Core s h
    → phase_of s pid ≡ phase.Asleep rendez threshold → posted_of s rendez.0 ≡ pid + 1
    → HasFallen h pid rendez.0 threshold
fallen_at s h pid rendez threshold core at posted = fit.stays (core.posted rendez.0 pid posted)
  where
    fit : Fits s h pid (phase.Asleep rendez threshold)
    fit = subst (Fits s h pid) at (core.fits pid)
