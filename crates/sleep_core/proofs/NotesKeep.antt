-- Notes keep what every run keeps.
use Rattle.std.proofs.Common.{◌≡◌, ◌≢◌, ◌⊎◌, ◌<◌, inl, inr, ℕ, true, false, List, ◌∷◌, length, sym}
use Rattle.std.proofs.Common.{◌∙◌, ap, subst, arith}
use Rattle.std.proofs.lemmas.Bool.Decides.{nat_tests}
use Rattle.std.proofs.lemmas.List.{get_or-set_same, get_or-set_other}
use Rattle.sync_base.specs.declared.note.NoteSet.{NoteSet}
use Rattle.sync_base.specs.NoteSet.{no_notes, joined}
use Rattle.sleep_core.specs.declared.phase.Phase.TheVariants as phase
use Rattle.sleep_core.specs.declared.phase.ProcFlags.{ProcFlags}
use Rattle.sleep_core.specs.State.{State, phase_of, flags_of, no_flags}
use Rattle.sleep_core.specs.Table.{has_notes}
use Rattle.sleep_core.specs.Step.{with_flags}
use Rattle.sleep_core.specs.History.{Effect}
use Rattle.sleep_core.specs.History.Effect.{Noted, Drained}
use Rattle.sleep_core.specs.Promises.{pending}
use Rattle.sleep_core.proofs.Soundness.{IsSound-with_flags}
use Rattle.sleep_core.proofs.CoreInvariant.{token, Fits, Core}
use Rattle.sleep_core.proofs.CoreInvariant.Token.{Nowhere, InFlags}
use Rattle.sleep_core.proofs.Frames.{if_same, if_other, same_or_not, Frame, frame_past, fits_kept}

-- notes that are there stay there
has_notes-joined : (old new : NoteSet) → has_notes old ≡ true → has_notes (joined old new) ≡ true
has_notes-joined old new some = grind (arith, nat_tests)

-- notes that come to a process
pub note_keeps : (s : State) (h : List Effect) (pid : ℕ) (new : NoteSet) → pid < length s.phases
    → Core s h
    → Core (with_flags s pid
    (record { wake = (flags_of s pid).wake; notes = joined (flags_of s pid).notes new }))
    (Noted pid new ∷ h)
note_keeps s h pid new in_range core =
    record {
      sound = IsSound-with_flags s pid noted core.sound;
      fits = λ p. fits_kept s after h later p (frame p) (phase_of s p) (core.fits p);
      posted = core.posted;
      marked = λ p wake. core.marked p (sym (same_wake p (same_or_not p pid)) ∙ wake);
      low = core.low;
      returned = core.returned;
      still_in = λ p r v still. record {
        posted = (core.still_in p r v still).posted;
        at_threshold = (core.still_in p r v still).at_threshold;
      };
      fallen = core.fallen;
      notes = λ p. by_notes p (same_or_not p pid);
      marks_due = core.marks_due;
      notes_right = core.notes_right;
      caused = core.caused;
    }
  where
    noted : ProcFlags
    noted = record { wake = (flags_of s pid).wake; notes = joined (flags_of s pid).notes new }

    after : State
    after = with_flags s pid noted

    later : List Effect
    later = Noted pid new ∷ h

    has_flags : pid < length s.flags
    has_flags = omega (arith, core.sound.whole.flags)

    flags_same : flags_of after pid ≡ noted
    flags_same = get_or-set_same s.flags pid noted no_flags has_flags

    flags_other : (p : ℕ) → p ≢ pid → flags_of after p ≡ flags_of s p
    flags_other p away = get_or-set_other s.flags pid p noted no_flags away

    same_wake : (p : ℕ) → (p ≡ pid) ⊎ (p ≢ pid) → (flags_of after p).wake ≡ (flags_of s p).wake
    same_wake p (inl same) =
        ap (λ q. (flags_of after q).wake) same
        ∙ (ap (λ (f : ProcFlags). f.wake) flags_same ∙ ap (λ q. (flags_of s q).wake) (sym same))
    same_wake p (inr away) = ap (λ (f : ProcFlags). f.wake) (flags_other p away)

    by_notes : (p : ℕ) → (p ≡ pid) ⊎ (p ≢ pid) → (flags_of after p).notes ≡ pending later p
    by_notes p (inl same) =
        ap (λ q. (flags_of after q).notes) same
        ∙ (ap (λ (f : ProcFlags). f.notes) flags_same
        ∙ (ap (λ q. joined (flags_of s q).notes new) (sym same)
        ∙ (ap (λ n. joined n new) (core.notes p)
        ∙ sym (if_same pid p (joined (pending h p) new) (pending h p) same))))
    by_notes p (inr away) =
        ap (λ (f : ProcFlags). f.notes) (flags_other p away)
        ∙ (core.notes p ∙ sym (if_other pid p (joined (pending h p) new) (pending h p) away))

    kept : (p : ℕ) → (p ≡ pid) ⊎ (p ≢ pid) → has_notes (flags_of s p).notes ≡ true
        → has_notes (flags_of after p).notes ≡ true
    kept p (inl same) some =
        ap (λ q. has_notes (flags_of after q).notes) same
        ∙ (ap (λ (f : ProcFlags). has_notes f.notes) flags_same
        ∙ has_notes-joined (flags_of s pid).notes new
        (ap (λ q. has_notes (flags_of s q).notes) (sym same) ∙ some))
    kept p (inr away) some = ap (λ (f : ProcFlags). has_notes f.notes) (flags_other p away) ∙ some

    frame : (p : ℕ) → Frame s after h later p
    frame p =
        frame_past s after h (Noted pid new) p (λ about. about) (λ q moves with_raiser. moves) tt
        (kept p (same_or_not p pid)) (λ r. omega arith)

-- notes that a process takes outside a sleep
pub drain_keeps : (s : State) (h : List Effect) (pid : ℕ) → pid < length s.phases
    → phase_of s pid ≡ phase.Idle → Core s h
    → Core (with_flags s pid no_flags) (Drained pid (flags_of s pid).notes ∷ h)
drain_keeps s h pid in_range idle core =
    record {
      sound = IsSound-with_flags s pid no_flags core.sound;
      fits = λ p. by_phase p (same_or_not p pid);
      posted = core.posted;
      marked = λ p wake. by_mark p wake (same_or_not p pid);
      low = core.low;
      returned = core.returned;
      still_in = λ p r v still. record {
        posted = (core.still_in p r v still).posted;
        at_threshold = (core.still_in p r v still).at_threshold;
      };
      fallen = core.fallen;
      notes = λ p. by_notes p (same_or_not p pid);
      marks_due = core.marks_due;
      notes_right = (core.notes pid, core.notes_right);
      caused = core.caused;
    }
  where
    after : State
    after = with_flags s pid no_flags

    later : List Effect
    later = Drained pid (flags_of s pid).notes ∷ h

    has_flags : pid < length s.flags
    has_flags = omega (arith, core.sound.whole.flags)

    flags_same : flags_of after pid ≡ no_flags
    flags_same = get_or-set_same s.flags pid no_flags no_flags has_flags

    flags_other : (p : ℕ) → p ≢ pid → flags_of after p ≡ flags_of s p
    flags_other p away = get_or-set_other s.flags pid p no_flags no_flags away

    by_phase : (p : ℕ) → (p ≡ pid) ⊎ (p ≢ pid) → Fits after later p (phase_of s p)
    by_phase p (inl same) =
        let at : phase_of s p ≡ phase.Idle = ap (phase_of s) same ∙ idle in
        let fit : token h p ≡ Nowhere = subst (Fits s h p) at (core.fits p) in
        subst (Fits after later p) (sym at) fit
    by_phase p (inr away) = fits_kept s after h later p frame (phase_of s p) (core.fits p)
      where
        frame : Frame s after h later p
        frame =
            frame_past s after h (Drained pid (flags_of s pid).notes) p (λ about. about) (λ q moves
            with_raiser. moves) tt
            (λ some. ap (λ (f : ProcFlags). has_notes f.notes) (flags_other p away) ∙ some)
            (λ r. omega arith)

    by_mark : (p : ℕ) → (flags_of after p).wake ≡ true → (p ≡ pid) ⊎ (p ≢ pid)
        → token later p ≡ InFlags
    by_mark p wake (inl same) =
        let unmarked : (flags_of after p).wake ≡ false = ap (λ q. (flags_of after q).wake) same
        ∙ ap (λ (f : ProcFlags). f.wake) flags_same in
        cc
    by_mark p wake (inr away) =
        core.marked p (sym (ap (λ (f : ProcFlags). f.wake) (flags_other p away)) ∙ wake)

    by_notes : (p : ℕ) → (p ≡ pid) ⊎ (p ≢ pid) → (flags_of after p).notes ≡ pending later p
    by_notes p (inl same) =
        ap (λ q. (flags_of after q).notes) same
        ∙
        (ap (λ (f : ProcFlags). f.notes) flags_same
        ∙ sym (if_same pid p no_notes (pending h p) same))
    by_notes p (inr away) =
        ap (λ (f : ProcFlags). f.notes) (flags_other p away)
        ∙ (core.notes p ∙ sym (if_other pid p no_notes (pending h p) away))
