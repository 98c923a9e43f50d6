-- The steps that end a sleep keep what every run keeps.
use Rattle.std.proofs.Common.{◌≡◌, ◌≢◌, ◌⊎◌, ◌<◌, ◌+◌, inl, inr, ℕ, Bool, true, false}
use Rattle.std.proofs.Common.{if◌then◌else◌, Some, None, List, ◌∷◌, length, refl, sym, ◌∙◌, ap}
use Rattle.std.proofs.Common.{subst, arith}
use Rattle.std.proofs.lemmas.Bool.Decides.{nat_tests}
use Rattle.std.proofs.lemmas.List.{get_or-set_same, get_or-set_other}
use Rattle.sync_base.specs.declared.ids.RendezId.{RendezId}
use Rattle.sync_base.specs.declared.note.NoteSet.{NoteSet}
use Rattle.sync_base.specs.NoteSet.{no_notes}
use Rattle.sleep_core.specs.declared.phase.Phase.{Phase}
use Rattle.sleep_core.specs.declared.phase.Phase.TheVariants as phase
use Rattle.sleep_core.specs.declared.phase.ProcFlags.{ProcFlags}
use Rattle.sleep_core.specs.State.{State, IsPhaseIn, phase_of, flags_of, posted_of, no_flags}
use Rattle.sleep_core.specs.Table.{has_notes}
use Rattle.sleep_core.specs.Step.{with_phase, with_flags, with_posted}
use Rattle.sleep_core.specs.History.{Effect}
use Rattle.sleep_core.specs.History.Effect.{Withdrew, Left}
use Rattle.sleep_core.specs.Promises.{IsStillIn, IsCaused, pending, IsRightEnding}
use Rattle.sleep_core.specs.Promises.{EachSleepIsCaused}
use Rattle.sleep_core.proofs.Soundness.{IsSound-with_phase, IsSound-with_flags, IsSound-with_posted}
use Rattle.sleep_core.proofs.CoreInvariant.{token, MayLeave, Fits, IsShown, Core}
use Rattle.sleep_core.proofs.CoreInvariant.Token.{Nowhere, InRendez, WithRaiser, InFlags}
use Rattle.sleep_core.proofs.Moves.{IsOver, ending_notes}
use Rattle.sleep_core.proofs.Frames.{if_same, if_other, same_or_not, apart, threshold_kept, fits_at}
use Rattle.sleep_core.proofs.Frames.{fits_each, Frame, frame_past, fits_kept}

-- a withdrawal of a process that is still posted
pub withdraw_out_keeps : (s : State) (h : List Effect) (pid : ℕ) (rendez : RendezId)
    → pid < length s.phases → phase_of s pid ≡ phase.Leaving rendez → posted_of s rendez.0 ≡ pid + 1
    → Core s h → Core (with_phase (with_posted s rendez.0 0) pid phase.Out) (Withdrew pid ∷ h)
withdraw_out_keeps s h pid rendez in_range at mine core =
    record {
      sound = IsSound-with_phase taken pid phase.Out
          (IsSound-with_posted s rendez.0 0 core.sound (omega arith)) tt;
      fits = fits_each taken after later pid phase.Out in_range own others;
      posted = λ r p posted. by_rendez r p posted (same_or_not r rendez.0);
      marked = λ p wake. if_other pid p Nowhere (token h p)
          (apart h p pid InFlags (InRendez rendez.0) (core.marked p wake) here (λ e. cc))
          ∙ core.marked p wake;
      low = core.low;
      returned = core.returned;
      still_in = λ p r v still. shown p r v still (core.still_in p r v still.1);
      fallen = λ p r v fell. core.fallen p r v fell.1;
      notes = core.notes;
      marks_due = core.marks_due;
      notes_right = core.notes_right;
      caused = core.caused;
    }
  where
    taken : State
    taken = with_posted s rendez.0 0

    after : State
    after = with_phase taken pid phase.Out

    later : List Effect
    later = Withdrew pid ∷ h

    has_rendez : rendez.0 < length s.posted
    has_rendez =
        subst (IsPhaseIn (length s.phases) (length s.posted)) at (core.sound.whole.phases pid)

    here : token h pid ≡ InRendez rendez.0
    here = core.posted rendez.0 pid mine

    fit : Fits s h pid (phase.Leaving rendez)
    fit = fits_at s h pid (phase.Leaving rendez) core at

    own : Fits after later pid phase.Out
    own = record { place = if_same pid pid Nowhere (token h pid) refl; may_leave = fit.may_leave }

    others : (p : ℕ) → p ≢ pid → Fits after later p (phase_of s p)
    others p differ = fits_kept s after h later p frame (phase_of s p) (core.fits p)
      where
        frame : Frame s after h later p
        frame =
            frame_past s after h (Withdrew pid) p (λ same. differ (sym same))
            (λ q moves with_raiser. apart h q pid (WithRaiser p) (InRendez rendez.0) with_raiser
            here (λ e. cc) (sym moves)) tt (λ e. e) (λ r. omega arith)

    -- nobody is posted here any more, and elsewhere nothing has changed
    by_rendez : (r p : ℕ) → posted_of after r ≡ p + 1 → (r ≡ rendez.0) ⊎ (r ≢ rendez.0)
        → token later p ≡ InRendez r
    by_rendez r p posted (inl same) =
        let emptied : posted_of after rendez.0
        ≡ 0 = get_or-set_same s.posted rendez.0 0 0 has_rendez in
        absurd (omega (arith, ap (posted_of after) same, emptied, posted))
    by_rendez r p posted (inr elsewhere) =
        let old = core.posted r p
        (sym (get_or-set_other s.posted rendez.0 r 0 0 elsewhere) ∙ posted) in
        if_other pid p Nowhere (token h p)
        (apart h p pid (InRendez r) (InRendez rendez.0) old here (λ e. elsewhere cc)) ∙ old

    shown : (p r v : ℕ) → (pid ≢ p) × IsStillIn h p r v → IsShown s p r v → IsShown after p r v
    shown p r v still was =
        let elsewhere : r ≢ rendez.0 = λ same. still.0
        (omega (arith, ap (posted_of s) same, was.posted, mine)) in
        record {
          posted = get_or-set_other s.posted rendez.0 r 0 0 elsewhere ∙ was.posted;
          at_threshold = threshold_kept s pid phase.Out p v (λ same. tt) was.at_threshold;
        }

-- no notes are no notes
has_notes-none : (notes : NoteSet) → has_notes notes ≡ false → notes ≡ no_notes
has_notes-none notes none = grind (arith, nat_tests)

-- the end of a sleep, after a withdrawal or a mark
pub clear_keeps : (s : State) (h : List Effect) (pid : ℕ) (stage : Phase) → pid < length s.phases
    → phase_of s pid ≡ stage → IsOver stage → Core s h
    → Core (with_phase (with_flags s pid no_flags) pid phase.Idle)
    (Left pid (ending_notes (flags_of s pid).notes) ∷ h)
clear_keeps s h pid stage in_range at over core =
    record {
      sound = IsSound-with_phase cleared pid phase.Idle
          (IsSound-with_flags s pid no_flags core.sound) tt;
      fits = fits_each cleared after later pid phase.Idle in_range
          (if_same pid pid Nowhere (token h pid) refl) others;
      posted = λ r p posted. if_other pid p Nowhere (token h p)
          (apart h p pid (InRendez r) (token h pid) (core.posted r p posted) refl
          (λ e. not_posted r (sym e))) ∙ core.posted r p posted;
      marked = λ p wake. by_mark p wake (same_or_not p pid);
      low = core.low;
      returned = core.returned;
      still_in = λ p r v still. record {
        posted = (core.still_in p r v still.1).posted;
        at_threshold = threshold_kept s pid phase.Idle p v (λ same. tt)
            (core.still_in p r v still.1).at_threshold;
      };
      fallen = λ p r v fell. core.fallen p r v fell.1;
      notes = λ p. by_notes p (same_or_not p pid);
      marks_due = core.marks_due;
      notes_right = (right (has_notes notes) refl, core.notes_right);
      caused = cause (has_notes notes) refl;
    }
  where
    notes : NoteSet
    notes = (flags_of s pid).notes

    cleared : State
    cleared = with_flags s pid no_flags

    after : State
    after = with_phase cleared pid phase.Idle

    later : List Effect
    later = Left pid (ending_notes notes) ∷ h

    has_flags : pid < length s.flags
    has_flags = omega (arith, core.sound.whole.flags)

    no_token : (at' : Phase) → IsOver at' → Fits s h pid at'
        → (token h pid ≡ Nowhere) ⊎ (token h pid ≡ InFlags)
    no_token phase.Out is_over fit = inl fit.place
    no_token phase.Woken is_over fit = inr fit.0
    no_token phase.Idle is_over fit = absurd is_over
    no_token (phase.Posted r v) is_over fit = absurd is_over
    no_token (phase.Asleep r v) is_over fit = absurd is_over
    no_token (phase.Leaving r) is_over fit = absurd is_over
    no_token phase.Awaiting is_over fit = absurd is_over
    no_token (phase.Owing r w) is_over fit = absurd is_over
    no_token (phase.Holding q r w) is_over fit = absurd is_over

    here : (token h pid ≡ Nowhere) ⊎ (token h pid ≡ InFlags)
    here = no_token stage over (fits_at s h pid stage core at)

    not_posted : (r : ℕ) → token h pid ≡ InRendez r → ⊥
    not_posted r posted = by_place here
      where
        by_place : (token h pid ≡ Nowhere) ⊎ (token h pid ≡ InFlags) → ⊥
        by_place (inl nowhere) = cc
        by_place (inr in_flags) = cc

    not_held : (m : ℕ) → token h pid ≡ WithRaiser m → ⊥
    not_held m held = by_place here
      where
        by_place : (token h pid ≡ Nowhere) ⊎ (token h pid ≡ InFlags) → ⊥
        by_place (inl nowhere) = cc
        by_place (inr in_flags) = cc

    may_leave_at : (at' : Phase) → IsOver at' → Fits s h pid at' → MayLeave s h pid
    may_leave_at phase.Out is_over fit = fit.may_leave
    may_leave_at phase.Woken is_over fit = inl fit.1
    may_leave_at phase.Idle is_over fit = absurd is_over
    may_leave_at (phase.Posted r v) is_over fit = absurd is_over
    may_leave_at (phase.Asleep r v) is_over fit = absurd is_over
    may_leave_at (phase.Leaving r) is_over fit = absurd is_over
    may_leave_at phase.Awaiting is_over fit = absurd is_over
    may_leave_at (phase.Owing r w) is_over fit = absurd is_over
    may_leave_at (phase.Holding q r w) is_over fit = absurd is_over

    others : (p : ℕ) → p ≢ pid → Fits after later p (phase_of s p)
    others p differ = fits_kept s after h later p frame (phase_of s p) (core.fits p)
      where
        frame : Frame s after h later p
        frame =
            frame_past s after h (Left pid (ending_notes notes)) p (λ same. differ (sym same))
            (λ q moves with_raiser. not_held p (ap (token h) moves ∙ with_raiser)) tt
            (λ e. ap (λ (f : ProcFlags). has_notes f.notes)
            (get_or-set_other s.flags pid p no_flags no_flags differ) ∙ e) (λ r. omega arith)

    by_mark : (p : ℕ) → (flags_of after p).wake ≡ true → (p ≡ pid) ⊎ (p ≢ pid)
        → token later p ≡ InFlags
    by_mark p wake (inl same) =
        let emptied : flags_of after pid
        ≡ no_flags = get_or-set_same s.flags pid no_flags no_flags has_flags in
        let unmarked : (flags_of after p).wake ≡ false = ap (λ q. (flags_of after q).wake) same
        ∙ ap (λ (f : ProcFlags). f.wake) emptied in
        cc
    by_mark p wake (inr differ) =
        let old : (flags_of s p).wake
        ≡ true = sym (ap (λ (f : ProcFlags). f.wake)
        (get_or-set_other s.flags pid p no_flags no_flags differ)) ∙ wake in
        if_other pid p Nowhere (token h p) differ ∙ core.marked p old

    by_notes : (p : ℕ) → (p ≡ pid) ⊎ (p ≢ pid) → (flags_of after p).notes ≡ pending later p
    by_notes p (inl same) =
        let emptied : flags_of after pid
        ≡ no_flags = get_or-set_same s.flags pid no_flags no_flags has_flags in
        ap (λ q. (flags_of after q).notes) same
        ∙
        (ap (λ (f : ProcFlags). f.notes) emptied
        ∙ sym (if_same pid p no_notes (pending h p) same))
    by_notes p (inr differ) =
        ap (λ (f : ProcFlags). f.notes) (get_or-set_other s.flags pid p no_flags no_flags differ)
        ∙ (core.notes p ∙ sym (if_other pid p no_notes (pending h p) differ))

    right : (some : Bool) → has_notes notes ≡ some
        → IsRightEnding (if some then Some notes else None) (pending h pid)
    right true some = (core.notes pid, λ none. some_not_none (sym some ∙ ap has_notes none))
      where
        some_not_none : true ≡ false → ⊥
        some_not_none e = cc
    right false none = sym (core.notes pid) ∙ has_notes-none notes none

    cause : (some : Bool) → has_notes notes ≡ some
        → EachSleepIsCaused (Left pid (if some then Some notes else None) ∷ h)
    cause true some = core.caused
    cause false none =
        (by_reason (may_leave_at stage over (fits_at s h pid stage core at)), core.caused)
      where
        by_reason : MayLeave s h pid → IsCaused h pid
        by_reason (inl because) = because
        by_reason (inr some) = cc
