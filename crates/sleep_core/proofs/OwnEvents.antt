-- The phase of a process, by its own events with their answers.
use Rattle.std.proofs.Common.{◌≡◌, ◌≢◌, ◌⊎◌, inl, inr, ℕ, zero, suc, Bool, true, false, eqb, cond}
use Rattle.std.proofs.Common.{List, [], ◌∷◌, get_or, refl, sym, ◌∙◌, ap, subst}
use Rattle.std.specs.Prelude.{replicate}
use Rattle.std.proofs.lemmas.Bool.Decides.{eqb_tells}
use Rattle.sync_base.specs.declared.ids.Pid.{Pid}
use Rattle.sync_base.specs.declared.note.NoteSet.{NoteSet}
use Rattle.sleep_core.specs.declared.event.Event.{Event}
use Rattle.sleep_core.specs.declared.event.Event.TheVariants.{Note, Check}
use Rattle.sleep_core.specs.declared.answer.Answer.{Answer}
use Rattle.sleep_core.specs.declared.answer.Answer.TheVariants as answer
use Rattle.sleep_core.specs.declared.phase.Phase.{Phase}
use Rattle.sleep_core.specs.declared.phase.Phase.TheVariants as phase
use Rattle.sleep_core.specs.State.{State, phase_of}
use Rattle.sleep_core.specs.Table.{phase_after}
use Rattle.sleep_core.specs.Step.{answer_to, world_after}
use Rattle.sleep_core.specs.Runs.{Entry, IsMadeBy, IsRun, world_of, own, kept, is_kept, phase_by}
use Rattle.sleep_core.proofs.LocalityLemmas.{phase_of-world_after, phase_of-world_after_other}

-- nobody has moved at the opening
idle_at_opening : (procs pid : ℕ) → phase.Idle ≡ get_or (replicate procs phase.Idle) pid phase.Idle
idle_at_opening zero pid = refl
idle_at_opening (suc procs) zero = refl
idle_at_opening (suc procs) (suc pid) = idle_at_opening procs pid

-- a note moves nobody
phase_after-note : (told : Answer) (pid : Pid) (notes : NoteSet) (stage : Phase)
    → phase_after told (Note pid notes) stage ≡ stage
phase_after-note answer.Posted pid notes stage = refl
phase_after-note told pid notes stage = refl

phase_of-note : (s : State) (named : Pid) (notes : NoteSet) (pid : ℕ)
    → phase_of (world_after s (Note named notes)) pid ≡ phase_of s pid
phase_of-note s named notes pid = by_pid (eqb_tells pid named.0)
  where
    by_pid : ((eqb pid named.0 ≡ true) × (pid ≡ named.0))
        ⊎ ((eqb pid named.0 ≡ false) × (pid ≢ named.0))
        → phase_of (world_after s (Note named notes)) pid ≡ phase_of s pid
    by_pid (inl same) =
        subst (λ p. phase_of (world_after s (Note named notes)) p ≡ phase_of s p) (sym same.1)
        (phase_of-world_after s (Note named notes)
        ∙ phase_after-note (answer_to s (Note named notes)) named notes (phase_of s named.0))
    by_pid (inr differ) = phase_of-world_after_other s (Note named notes) pid differ.1

-- a process moves by what it makes itself
phase_of-own : (s : State) (event : Event) (maker pid : ℕ) → IsMadeBy maker event → maker ≡ pid
    → phase_after (answer_to s event) event (phase_of s pid) ≡ phase_of (world_after s event) pid
phase_of-own s (Note named notes) maker pid made same =
    phase_after-note (answer_to s (Note named notes)) named notes (phase_of s pid)
    ∙ sym (phase_of-note s named notes pid)
phase_of-own s event maker pid made same =
    subst (λ p. phase_after (answer_to s event) event (phase_of s p)
    ≡ phase_of (world_after s event) p) (made ∙ same) (sym (phase_of-world_after s event))

-- and by nothing that another makes
phase_of-others : (s : State) (event : Event) (maker pid : ℕ) → IsMadeBy maker event → maker ≢ pid
    → phase_of (world_after s event) pid ≡ phase_of s pid
phase_of-others s (Note named notes) maker pid made differ = phase_of-note s named notes pid
phase_of-others s event maker pid made differ =
    phase_of-world_after_other s event pid (λ same. differ (sym (same ∙ made)))

-- a phase is what the own events of its process give
pub phase_by-own : (procs rendez : ℕ) (past : List Entry) → IsRun procs rendez past → (pid : ℕ)
    → phase_by (own pid past) ≡ phase_of (world_of procs rendez past) pid
phase_by-own procs rendez [] run pid = idle_at_opening procs pid
phase_by-own procs rendez (entry ∷ past) run pid =
    by_maker (phase_by-own procs rendez past run.0 pid) (eqb_tells entry.maker pid)
  where
    s : State
    s = world_of procs rendez past

    by_maker : phase_by (own pid past) ≡ phase_of (world_of procs rendez past) pid
        → ((eqb entry.maker pid ≡ true) × (entry.maker ≡ pid))
        ⊎ ((eqb entry.maker pid ≡ false) × (entry.maker ≢ pid))
        → phase_by (cond (eqb entry.maker pid) (entry ∷ own pid past) (own pid past))
        ≡ phase_of (world_after (world_of procs rendez past) entry.event) pid
    by_maker before (inl same) =
        ap (λ b. phase_by (cond b (entry ∷ own pid past) (own pid past))) same.0
        ∙ (ap (phase_after entry.answer entry.event) before
        ∙ (ap (λ told. phase_after told entry.event (phase_of (world_of procs rendez past) pid))
        run.1.answered
        ∙ phase_of-own (world_of procs rendez past) entry.event entry.maker pid run.1.made
        same.1))
    by_maker before (inr differ) =
        ap (λ b. phase_by (cond b (entry ∷ own pid past) (own pid past))) differ.0
        ∙ (before ∙ sym
        (phase_of-others (world_of procs rendez past) entry.event entry.maker pid run.1.made
        differ.1))

-- what is not kept moves nobody
phase_after-not_kept : (told : Answer) (event : Event) (stage : Phase) → is_kept told event ≡ false
    → phase_after told event stage ≡ stage
phase_after-not_kept answer.Posted (Check pid) stage lost = refl
phase_after-not_kept answer.Released event stage lost = refl
phase_after-not_kept answer.Parked event stage lost = refl
phase_after-not_kept answer.NoProc event stage lost = refl
phase_after-not_kept answer.Refused event stage lost = refl
phase_after-not_kept answer.NoRendez event stage lost = refl
phase_after-not_kept answer.BadLevel event stage lost = refl
phase_after-not_kept told event stage lost = cc

phase_by-kept : (trace : List Entry) → phase_by (kept trace) ≡ phase_by trace
phase_by-kept [] = refl
phase_by-kept (entry ∷ trace) =
    by_test (phase_by-kept trace) (is_kept entry.answer entry.event) refl
  where
    by_test : phase_by (kept trace) ≡ phase_by trace → (b : Bool)
        → is_kept entry.answer entry.event ≡ b
        → phase_by (cond b (entry ∷ kept trace) (kept trace))
        ≡ phase_after entry.answer entry.event (phase_by trace)
    by_test before true is = ap (phase_after entry.answer entry.event) before
    by_test before false is =
        before ∙ sym (phase_after-not_kept entry.answer entry.event (phase_by trace) is)

-- and what those that are kept give
pub phase_by-kept_own : (procs rendez : ℕ) (past : List Entry) → IsRun procs rendez past → (pid : ℕ)
    → phase_by (kept (own pid past)) ≡ phase_of (world_of procs rendez past) pid
phase_by-kept_own procs rendez past run pid =
    phase_by-kept (own pid past) ∙ phase_by-own procs rendez past run pid
